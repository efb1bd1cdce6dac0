use Rattle.std.proofs.Common.{◌≡◌, ℕ, List, [], ◌∷◌, map, refl, sym, ap, ◌∙◌}
use Rattle.ucd_points.specs.Lines.{contents}
use Rattle.ucd_facts.specs.declared.row.Row.{Row}
use Rattle.record_lines.specs.PointTexts.{with_more}
use Rattle.record_lines.specs.RowLines.{rows_lines}
use Rattle.record_lines.proofs.ToldLemmas.{first_alone, more_twice, no_more}
use Rattle.record_lines.proofs.rows.put_lines_of_rows.Goals as goal

pub rows-preserved : goal.rows-preserved
rows-preserved c =
    let file = c.args.file in
    let lines = contents c.args.bytes.now in
    let told = c.rows.told in
    let here : ℕ × Row = (c.in-Some.line, c.in-Some.row) in
    let rest = c.next.new.self in
    let left : c.rows.left ≡ here ∷ rest = c.in-Some.ensures.steps in
    let by-lines = λ (ls : List (List ℕ)). map (with_more (rows_lines file ls (here ∷ []))) told in
    let by-rows = λ (rows : List (ℕ × Row)). map (with_more (rows_lines file lines rows)) told in
    record {
      told =
          ap (map (with_more (rows_lines file lines rest))) (c.in_ok-put_row.ensures.told ∙ ap by-lines c.rows.invariant.lines)
          ∙ more_twice (rows_lines file lines (here ∷ [])) (rows_lines file lines rest) (rows_lines file lines (here ∷ rest)) (first_alone file lines c.in-Some.line c.in-Some.row rest) told
          ∙ ap by-rows (sym left)
          ∙ c.rows.invariant.told;
      lines = c.put_row.ensures.same ∙ c.rows.invariant.lines;
    }

pub returns : goal.returns
returns c =
    let file = c.args.file in
    let lines = contents c.args.bytes.now in
    let told = c.rows.told in
    let none : c.rows.left ≡ [] = c.in_default.ensures.steps.0 in
    let by-rows = λ (rows : List (ℕ × Row)). map (with_more (rows_lines file lines rows)) told in
    sym (no_more (rows_lines file lines []) (λ k. refl) told) ∙ ap by-rows (sym none) ∙ c.rows.invariant.told
