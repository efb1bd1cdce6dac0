use Rattle.std.proofs.Common.{refl, sym, subst}
use Rattle.std.proofs.lemmas.Result.{IfOk-weaker}
use Rattle.release_rows.specs.Releases.{items_now}
use Rattle.release_rows.specs.ValuesApart.{AreValuesApart}
use Rattle.release_rows.specs.ValuesApartProofs.{values_apart}
use Rattle.ucd_points.specs.declared.files.SourceFile.TheVariants.{WordBreakProperty}
use Rattle.code_facts.proofs.row_lists.word_breaks_of.Goals as goal

pub returns-clause-apart : goal.returns-clause-apart
returns-clause-apart c = IfOk-weaker c.rows_of.result _ _ (λ rows e. subst AreValuesApart (sym e) (values_apart WordBreakProperty refl (items_now c.args.release.now WordBreakProperty) c.rows-rows.ensures.kept)) c.rows_of.ensures
