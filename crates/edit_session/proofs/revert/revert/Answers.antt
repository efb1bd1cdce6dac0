use Rattle.std.proofs.Common.{List, sym, subst}
use Rattle.release_rows.specs.FileItems.{FileItem}
use Rattle.edit_session.specs.Benches.{bench_facts}
use Rattle.edit_session.specs.Derivations.{IsNow}
use Rattle.edit_session.specs.Groups.{files_facts}
use Rattle.edit_session.proofs.GroupLemmas.{bench_after}
use Rattle.edit_session.proofs.revert.revert.Goals as goal

pub prepare_revert-requires-clause-now : goal.prepare_revert-requires-clause-now
prepare_revert-requires-clause-now g c = c.sweep.ensures.now (bench_facts c.args.release.now) c.requires.before.now

pub prepare_revert-requires-clause-next : goal.prepare_revert-requires-clause-next
prepare_revert-requires-clause-next g c = c.sweep.ensures.still c.requires.before.next

pub returns-in-Ok-clause-after : goal.returns-in-Ok-clause-after
returns-in-Ok-clause-after g c =
    bench_after c.commit.new.self c.prepare_revert.new.release.prepared c.commit-in-Ok.new.self c.commit.ensures
    (c.commit-in-Ok.ensures.committed (files_facts c.prepare_revert.new.release.prepared) c.in-Ok.ensures.next) c.commit-in-Ok.ensures.still

pub returns-in-Err-clause-after : goal.returns-in-Err-clause-after
returns-in-Err-clause-after g c =
    let kept = c.discard-in-Err.ensures.now (bench_facts c.args.release.now) (c.prepare_revert.ensures.kept (bench_facts c.args.release.now) (c.sweep.ensures.now (bench_facts c.args.release.now) c.requires.before.now)) in
    bench_after c.discard.new.self c.prepare_revert.new.release.current c.discard-in-Err.new.self c.discard.ensures
    (subst (λ (fs : List (List FileItem)). IsNow (files_facts fs) c.discard-in-Err.new.self) (sym c.prepare_revert.ensures.now) kept) c.discard-in-Err.ensures.still
