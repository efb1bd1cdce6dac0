use Rattle.std.proofs.Common.{refl, sym, subst}
use Rattle.std.proofs.lemmas.Result.{IfOk-weaker}
use Rattle.release_rows.specs.FileItems.{rows_in}
use Rattle.release_rows.specs.Releases.{items_next}
use Rattle.release_rows.specs.Touching.{meets}
use Rattle.release_rows.specs.ValuesApart.{AreValuesApart}
use Rattle.release_rows.specs.ValuesApartProofs.{values_apart, values_apart_within}
use Rattle.ucd_points.specs.declared.files.SourceFile.TheVariants.{WordBreakProperty}
use Rattle.code_facts.proofs.row_lists.next_word_breaks_in.Goals as goal

pub returns-clause-apart : goal.returns-clause-apart
returns-clause-apart c =
    let all = items_next c.args.release.now WordBreakProperty in
    IfOk-weaker c.next_rows_in.result _ _ (λ rows e. subst AreValuesApart (sym e) (values_apart_within (meets c.args.spans.now) (rows_in all) (values_apart WordBreakProperty refl all c.next_rows-rows.ensures.kept))) c.next_rows_in.ensures.rows
