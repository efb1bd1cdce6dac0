use Rattle.std.proofs.Common.{sym, subst}
use Rattle.std.proofs.lemmas.Result.{IfOk-weaker}
use Rattle.release_rows.specs.FileItems.{rows_in}
use Rattle.release_rows.specs.Releases.{items_next}
use Rattle.release_rows.specs.Touching.{meets}
use Rattle.ucd_points.specs.declared.files.SourceFile.TheVariants.{UnicodeData}
use Rattle.code_facts.specs.Rows.{Apart}
use Rattle.code_facts.proofs.RowLemmas.{apart_within, kept_apart}
use Rattle.code_facts.proofs.row_lists.next_data_rows_in.Goals as goal

pub returns-clause-apart : goal.returns-clause-apart
returns-clause-apart c =
    let all = items_next c.args.release.now UnicodeData in
    IfOk-weaker c.next_rows_in.result _ _ (λ rows e. subst Apart (sym e) (apart_within (meets c.args.spans.now) (rows_in all) (kept_apart all c.next_rows-rows.ensures.kept))) c.next_rows_in.ensures.rows
