use Rattle.std.proofs.Common.{IsSome, refl, ◌∙◌}
use Rattle.edit_session.specs.Groups.{group_answer}
use Rattle.bench_editors.specs.RowKeys.{found_in, row_parts}
use Rattle.bench_editors.proofs.DeskLemmas.{all_by, taken, touches_by}
use Rattle.bench_editors.proofs.desk.Desk.carry_out.Goals as goal

pub put_all-requires : goal.put_all-requires
put_all-requires g c =
    all_by (λ parts. IsSome (found_in c.make_entries.new.self parts)) c.args.keys.now c.args.group.now c.requires.keys c.in_ok-make_entries.ensures.there

pub returns-in-Ok-clause-answer : goal.returns-in-Ok-clause-answer
returns-in-Ok-clause-answer g c =
    taken c.in-Ok.accepted (group_answer c.args.self.now.bench.current c.args.group.now) c.args.group.now c.args.self.now _ c.in-Ok.ensures.answer (λ editor. refl) refl
    (λ row. c.put_all.ensures (row_parts row) ∙ rw (touches_by c.args.keys.now c.args.group.now row c.requires.keys, c.make_entries.ensures.same (row_parts row)) refl)
