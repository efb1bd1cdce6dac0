use Rattle.std.proofs.Common.{ℕ, List, ◌++◌, subst, sym, ap, ◌∙◌}
use Rattle.range_table.specs.Values.{SameValues}
use Rattle.release_rows.specs.Releases.{ReleaseItems}
use Rattle.edit_session.specs.Benches.{bench_record}
use Rattle.edit_session.specs.Groups.{group_answer}
use Rattle.record_lines.specs.Earlier.{earlier_record, updated}
use Rattle.ucdshop_look_core.specs.Changes.{points_section}
use Rattle.ucdshop_look_core.specs.PointSpans.{AreInOrder}
use Rattle.ucdshop_look_core.proofs.ChangeLemmas.{follows, in_order, stays, told_accepted}
use Rattle.ucdshop_look_core.proofs.changing.tell_group_or_refusal.Goals as goal

pub tell_accepted-requires : goal.tell_accepted-requires
tell_accepted-requires g c =
    subst AreInOrder (sym c.as_slice-changed.ensures) (in_order c.in-Ok.accepted c.args.bench.now c.apply.new.self (group_answer c.args.bench.now.current c.args.ops.now) c.in-Ok.ensures.answer)

pub returns-in_ok-tell_accepted-in-Ok-clause-text : goal.returns-in_ok-tell_accepted-in-Ok-clause-text
returns-in_ok-tell_accepted-in-Ok-clause-text g c =
    c.in_ok-tell_accepted-in-Ok.ensures.text
    ∙ ap (λ (text : List ℕ). c.args.text.now ++ text)
    (ap (λ (points : List ℕ). points_section c.args.line (earlier_record c.args.earlier.now) (bench_record c.apply.new.self) points) c.as_slice-changed.ensures
    ∙ told_accepted c.in-Ok.accepted c.args.bench.now c.apply.new.self c.args.line (earlier_record c.args.earlier.now) (group_answer c.args.bench.now.current c.args.ops.now) c.in-Ok.ensures.answer c.requires.earlier)

pub returns-in_ok-tell_accepted-in-Ok-clause-earlier : goal.returns-in_ok-tell_accepted-in-Ok-clause-earlier
returns-in_ok-tell_accepted-in-Ok-clause-earlier g c =
    follows c.in-Ok.accepted c.args.bench.now c.apply.new.self (earlier_record c.args.earlier.now) (earlier_record c.tell_accepted.new.earlier) (group_answer c.args.bench.now.current c.args.ops.now) c.following_catches_up.ensures c.in-Ok.ensures.answer c.requires.earlier
    (subst (λ (points : List ℕ). SameValues (earlier_record c.tell_accepted.new.earlier) (updated points (bench_record c.apply.new.self) (earlier_record c.args.earlier.now))) c.as_slice-changed.ensures c.in_ok-tell_accepted-in-Ok.ensures.earlier)

pub returns-in_ok-put_refused-in-Err-Refused-clause-earlier : goal.returns-in_ok-put_refused-in-Err-Refused-clause-earlier
returns-in_ok-put_refused-in-Err-Refused-clause-earlier g c = λ point below.
    c.requires.earlier point below
    ∙ ap (λ (release : ReleaseItems). bench_record release point)
    (sym (stays c.in-Err-Refused.why c.args.bench.now c.apply.new.self (group_answer c.args.bench.now.current c.args.ops.now) (rw c.in-Err-Refused.field-0-is at c.in-Err-Refused.ensures.answer)))
