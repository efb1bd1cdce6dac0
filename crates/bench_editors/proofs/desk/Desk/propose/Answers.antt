use Rattle.std.proofs.Common.{◌≡◌, map, refl, sym, ap, ◌∙◌}
use Rattle.bench_editors.specs.RowKeys.{key_parts}
use Rattle.bench_editors.proofs.DeskLemmas.{counts_so, none_is_stale, replies_so, stands_so, tells_stale}
use Rattle.bench_editors.proofs.desk.Desk.propose.Goals as goal

pub returns-in-Some-clause-reply : goal.returns-in-Some-clause-reply
returns-in-Some-clause-reply g c = λ s st.
    let both : c.as_slice-in-Some.result.now ≡ c.as_slice.result.now = c.as_slice-in-Some.ensures.value ∙ sym c.as_slice.ensures.value in
    let early = tells_stale c.args.self.now c.args.editor c.args.base c.as_slice.result.now c.args.group.now (ap (map key_parts) c.as_slice.ensures.value ∙ c.in_ok-keys.ensures)
    (sym c.contains.ensures ∙ c.if-not-contains.false) c.if-base-self.false c.in-Some.first c.greatest.result c.in-Some.ensures (rw both at c.greatest.ensures) s st in
    rw early refl

pub returns-in-Some-clause-state : goal.returns-in-Some-clause-state
returns-in-Some-clause-state g c = λ s st.
    let both : c.as_slice-in-Some.result.now ≡ c.as_slice.result.now = c.as_slice-in-Some.ensures.value ∙ sym c.as_slice.ensures.value in
    let early = tells_stale c.args.self.now c.args.editor c.args.base c.as_slice.result.now c.args.group.now (ap (map key_parts) c.as_slice.ensures.value ∙ c.in_ok-keys.ensures)
    (sym c.contains.ensures ∙ c.if-not-contains.false) c.if-base-self.false c.in-Some.first c.greatest.result c.in-Some.ensures (rw both at c.greatest.ensures) s st in
    rw early st

pub returns-clause-reply : goal.returns-clause-reply
returns-clause-reply g c =
    let comes = none_is_stale c.args.self.now c.args.editor c.args.base c.as_slice.result.now c.args.group.now (ap (map key_parts) c.as_slice.ensures.value ∙ c.in_ok-keys.ensures)
    (sym c.contains.ensures ∙ c.if-not-contains.false) c.if-base-self.false c.in-None.ensures in
    replies_so c.args.editor c.args.base c.args.group.now c.args.self.now c.carry_out.new.self comes c.carry_out.result c.carry_out.ensures.answer

pub returns-clause-state : goal.returns-clause-state
returns-clause-state g c =
    let comes = none_is_stale c.args.self.now c.args.editor c.args.base c.as_slice.result.now c.args.group.now (ap (map key_parts) c.as_slice.ensures.value ∙ c.in_ok-keys.ensures)
    (sym c.contains.ensures ∙ c.if-not-contains.false) c.if-base-self.false c.in-None.ensures in
    stands_so c.args.editor c.args.base c.args.group.now c.args.self.now c.carry_out.new.self comes c.carry_out.result c.carry_out.ensures.answer

pub returns-clause-counted : goal.returns-clause-counted
returns-clause-counted g c =
    let comes = none_is_stale c.args.self.now c.args.editor c.args.base c.as_slice.result.now c.args.group.now (ap (map key_parts) c.as_slice.ensures.value ∙ c.in_ok-keys.ensures)
    (sym c.contains.ensures ∙ c.if-not-contains.false) c.if-base-self.false c.in-None.ensures in
    counts_so c.args.editor c.args.base c.args.group.now c.args.self.now c.carry_out.new.self comes c.args.steps.now c.carry_out.new.steps c.carry_out.ensures.counted
