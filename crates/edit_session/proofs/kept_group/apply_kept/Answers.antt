use Rattle.std.proofs.Common.{List, sym, subst}
use Rattle.release_rows.specs.FileItems.{FileItem}
use Rattle.ucd_model.specs.ValidityProofs.{valid_is_unbroken}
use Rattle.edit_session.specs.Benches.{bench_facts}
use Rattle.edit_session.specs.Derivations.{IsNow}
use Rattle.edit_session.specs.Groups.{files_facts, group_answer}
use Rattle.edit_session.proofs.GroupLemmas.{applied, bench_after}
use Rattle.edit_session.proofs.BackLemmas.{keeps_before}
use Rattle.edit_session.proofs.kept_group.apply_kept.Goals as goal

pub prepare_kept-requires-clause-now : goal.prepare_kept-requires-clause-now
prepare_kept-requires-clause-now g c = c.sweep.ensures.now (bench_facts c.args.release.now) c.requires.before.now

pub prepare_kept-requires-clause-next : goal.prepare_kept-requires-clause-next
prepare_kept-requires-clause-next g c = c.sweep.ensures.still c.requires.before.next

pub returns-in-Ok-clause-after : goal.returns-in-Ok-clause-after
returns-in-Ok-clause-after g c =
    bench_after c.commit.new.self c.prepare_kept.new.release.prepared c.commit-in-Ok.new.self c.commit.ensures
    (c.commit-in-Ok.ensures.committed (files_facts c.prepare_kept.new.release.prepared) c.in-Ok.ensures.next) c.commit-in-Ok.ensures.still

pub returns-in-Err-clause-after : goal.returns-in-Err-clause-after
returns-in-Err-clause-after g c =
    let kept = c.discard-in-Err.ensures.now (bench_facts c.args.release.now) (c.prepare_kept.ensures.kept (bench_facts c.args.release.now) (c.sweep.ensures.now (bench_facts c.args.release.now) c.requires.before.now)) in
    bench_after c.discard.new.self c.prepare_kept.new.release.current c.discard-in-Err.new.self c.discard.ensures
    (subst (λ (fs : List (List FileItem)). IsNow (files_facts fs) c.discard-in-Err.new.self) (sym c.prepare_kept.ensures.now) kept) c.discard-in-Err.ensures.still

pub returns-in-Ok-clause-answer : goal.returns-in-Ok-clause-answer
returns-in-Ok-clause-answer g c =
    applied c.in-Ok.changed (record { changed = c.in-Ok.changed }) (group_answer c.args.release.now.current c.args.group.now) c.args.release.now c.commit.new.self c.prepare_kept.new.release.prepared
    c.in-Ok.ensures.answer c.commit.ensures c.in-Ok.ensures.changed

pub returns-in-Ok-clause-kept : goal.returns-in-Ok-clause-kept
returns-in-Ok-clause-kept g c =
    keeps_before c.in-Ok.way c.prepare_kept.new.release c.args.release.now c.commit.new.self c.commit.ensures c.prepare_kept.ensures.now c.in-Ok.ensures.way c.current_files_are_kept.ensures
    ((valid_is_unbroken (bench_facts c.args.release.now)).0 c.requires.before.now.valid)
