use Rattle.std.proofs.Common.{◌≡◌, true, sym, ◌∙◌}
use Rattle.bench_editors.specs.Desks.{is_present}
use Rattle.bench_editors.proofs.DeskLemmas.{went}
use Rattle.bench_editors.proofs.desk.Desk.leave.Goals as goal

pub returns-then-remove-clause-state : goal.returns-then-remove-clause-state
returns-then-remove-clause-state c = λ s st.
    let present : is_present s c.args.editor ≡ true = sym (st.editors c.args.editor) ∙ sym c.remove.ensures.test ∙ c.if-remove.true in
    rw present (went c.args.self.now c.remove.new.self s c.args.editor c.remove.ensures.updates.0 st)
