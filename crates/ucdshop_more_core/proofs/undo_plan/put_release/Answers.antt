use Rattle.std.proofs.Common.{List, ap, subst}
use Rattle.std.proofs.lemmas.Result.{on_ok_weaker}
use Rattle.release_rows.specs.Releases.{ReleaseItems, FileItem}
use Rattle.run_endings.specs.Planning.{Puts}
use Rattle.run_endings.specs.PutProofs.{puts_then}
use Rattle.ucdshop_more_core.specs.Run.{release_files}
use Rattle.ucdshop_more_core.proofs.undo_plan.put_release.Goals as goal

pub returns : goal.returns
returns c =
    on_ok_weaker c.put_derived.result
    (λ derived. subst (λ (files : List (List FileItem)). Puts (release_files c.args.folder.now files) c.args.outputs.now.items c.put_derived.new.outputs.items)
    (ap (λ (bench : ReleaseItems). bench.current) c.bench-bench.ensures) (puts_then _ _ _ _ _ c.in_ok-put_sources.ensures derived))
    c.put_derived.ensures
