-- The end of a section.
use Rattle.std.proofs.Common.{◌≡◌, ℕ, ◌+◌, ◌<◌, List, [], ◌∷◌, ◌++◌, append_assoc, refl, sym, ap, ◌∙◌, arith, codes, decimal}
use Rattle.ucd_model.specs.Labels.{Label}
use Rattle.ucd_model.specs.LabelLemmas.{labelled_before}
use Rattle.ucd_model.specs.DerivedText.{section_text, line_end}
use Rattle.label_runs.proofs.RunLemmas.{open_ends}
use Rattle.label_runs.specs.Runs.{lines_before, run_line, run_length}
use Rattle.label_runs.specs.Sections.{section_head, Progress, IsWritten}

-- the total behind all lines makes the section whole
totalled : (n : ℕ) (f : ℕ → Label) (before name : List ℕ)
    → (((before ++ section_head name) ++ lines_before n f n) ++ codes "# total " ++ decimal (labelled_before f n) ++ line_end) ++ line_end ≡ before ++ section_text name n f
unfolding section_text
totalled n f before name = simp append_assoc refl

-- the line of the last run, and the total
pub section_ends : (f : ℕ → Label) (before name text : List ℕ) (p : Progress) (total : ℕ) → IsWritten p.end f (before ++ section_head name) p text → total ≡ p.total + run_length p.first p.end p.label
    → ((text ++ run_line p.first p.end p.label) ++ codes "# total " ++ decimal total ++ line_end) ++ line_end ≡ before ++ section_text name p.end f
section_ends f before name text p total written length =
    let ends = open_ends p.end f p.first p.end p.label written.run (λ lt. absurd (omega arith)) in
    let front = before ++ section_head name in
    let lines : text ++ run_line p.first p.end p.label ≡ front ++ lines_before p.end f p.end =
    ap (λ (t : List ℕ). t ++ run_line p.first p.end p.label) written.lines ∙ append_assoc front (lines_before p.end f p.first) (run_line p.first p.end p.label) ∙ ap (λ (t : List ℕ). front ++ t) (sym ends.0) in
    let count : total ≡ labelled_before f p.end = omega (arith, length, written.total, ends.1) in
    ap (λ (t : List ℕ). (t ++ codes "# total " ++ decimal total ++ line_end) ++ line_end) lines
    ∙ ap (λ (k : ℕ). ((front ++ lines_before p.end f p.end) ++ codes "# total " ++ decimal k ++ line_end) ++ line_end) count
    ∙ totalled p.end f before name
