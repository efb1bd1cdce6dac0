use Rattle.std.proofs.Common.{◌∙◌, List, ℕ, ◌++◌, ap, sym, append_assoc, append-nil}
use Rattle.release_maker.specs.MadeTexts.{series, line_text}
use Rattle.release_maker.specs.Lines.{line_of}
use Rattle.release_maker.proofs.SeriesLemmas.{series_none, series_more}
use Rattle.release_maker.proofs.texts.put_series.Goals as goal

pub lines-init : goal.lines-init
lines-init c = sym (ap (λ (t : List ℕ). c.args.text.now ++ t) (series_none (line_of c.args.line)) ∙ append-nil c.args.text.now)

pub lines-preserved : goal.lines-preserved
lines-preserved c =
    let line : ℕ → List ℕ = line_of c.args.line in
    c.in_ok-put_line.ensures ∙ ap (λ (t : List ℕ). t ++ line_text (line c.lines.i)) c.lines.invariant
    ∙ append_assoc c.args.text.now (series line c.lines.i) (line_text (line c.lines.i))
    ∙ ap (λ (t : List ℕ). c.args.text.now ++ t) (sym (series_more line c.lines.i))
