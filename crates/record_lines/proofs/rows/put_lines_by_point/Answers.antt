use Rattle.std.proofs.Common.{◌≡◌, length, ◌<◌, arith, ap, sym, set, get_or, ◌∙◌}
use Rattle.std.proofs.lemmas.List.Edits.{map_over_more}
use Rattle.source_rows.specs.RowRefs.{row_in}
use Rattle.record_lines.specs.PointTexts.{with_more}
use Rattle.record_lines.specs.RowLines.{if_speaks}
use Rattle.record_lines.specs.declared.point_text.PointText.{PointText}
use Rattle.record_lines.proofs.ToldLemmas.{not_spoken_of, spoken_of, told_of}
use Rattle.record_lines.proofs.rows.put_lines_by_point.Goals.{then-speaks_of+in_ok-append, else-speaks_of}
use Rattle.record_lines.proofs.rows.put_lines_by_point.Goals as goal

pub told-preserved : goal.told-preserved
told-preserved c =
    let row = row_in c.args.row.now in
    let text = c.args.lines.now in
    let told = c.told.told in
    let i = c.told.one-index in
    let x = c.one-item.result in
    let one = get_or told i x in
    let len = c.told.auto in
    let within : i < length c.args.told.now = omega (arith, c.told-test.true) in
    let put = λ (y : PointText). set told i y in
    let more = map_over_more (with_more (if_speaks row text)) c.args.told.now told i x within c.told.invariant c.one-item.is in
    let here = ap (λ (y : PointText). put (with_more (if_speaks row text) y)) (sym c.one-item.is) ∙ more in
    elim c.if-speaks_of.branch [
      | then-speaks_of+in_ok-append w ↦
          w.told-is ∙ ap (λ t. put (told_of one.point t)) w.in_ok-append.ensures.ok ∙ ap put (sym (spoken_of row text one (sym c.speaks_of.ensures ∙ w.if-speaks_of.true))) ∙ here
      | else-speaks_of w ↦
          w.told-is ∙ ap put (sym (not_spoken_of row text one (sym c.speaks_of.ensures ∙ w.if-speaks_of.false))) ∙ here
    ]
