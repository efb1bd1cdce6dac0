use Rattle.std.proofs.Common.{sym, subst}
use Rattle.std.proofs.lemmas.Result.{IfOk-weaker}
use Rattle.release_rows.specs.Releases.{items_now}
use Rattle.ucd_points.specs.declared.files.SourceFile.TheVariants.{UnicodeData}
use Rattle.code_facts.specs.Rows.{Apart}
use Rattle.code_facts.proofs.RowLemmas.{kept_apart}
use Rattle.code_facts.proofs.row_lists.data_rows_of.Goals as goal

pub returns-clause-apart : goal.returns-clause-apart
returns-clause-apart c = IfOk-weaker c.rows_of.result _ _ (λ rows e. subst Apart (sym e) (kept_apart (items_now c.args.release.now UnicodeData) c.rows-rows.ensures.kept)) c.rows_of.ensures
