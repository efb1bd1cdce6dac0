use Rattle.std.proofs.Common.{◌≡◌, ◌≤◌, ℕ, sym, ap, ◌∙◌, arith, inl, inr}
use Rattle.std.proofs.lemmas.Bool.{cases_lt}
use Rattle.range_table.specs.RunTable.{values_now, values_next}
use Rattle.age_chain.specs.Ages.{is_assigned}
use Rattle.age_chain.proofs.TableLemmas.{is_given, not_assigned, stretch_given, stretch_left}
use Rattle.age_chain.proofs.giving.give_age_to_stretch.Goals as goal
use Rattle.age_chain.proofs.giving.give_age_to_stretch.Goals.{then-is_assigned+in_ok-prepare, else-is_assigned}

pub returns-clause-next : goal.returns-clause-next
returns-clause-next c =
    let now : ℕ → ℕ = values_now c.args.ages.now in
    let ordered : c.args.c ≤ c.lesser-last.result = omega (arith, c.lesser-last.ensures, c.last_uniform.ensures.from, c.last_of_run-run.ensures.from) in
    let none : (d : ℕ) → c.args.c ≤ d → d ≤ c.lesser-last.result → now d ≡ 0 = λ d from to. c.last_of_run-run.ensures.same d from (omega (arith, c.lesser-last.ensures)) ∙ sym c.get.ensures ∙ c.if-get-ne0.false in
    let alike : (d : ℕ) → c.args.c ≤ d → d ≤ c.lesser-last.result → is_assigned c.args.bench.now d ≡ is_assigned c.args.bench.now c.args.c = λ d from to. elim (cases_lt c.args.c d) [
      | inl lt ↦ (c.last_uniform.ensures.uniform d lt (omega (arith, c.lesser-last.ensures))).alike.assigned
      | inr le ↦ let here : d ≡ c.args.c = omega arith in ap (is_assigned c.args.bench.now) here
    ] in
    elim c.if-is_assigned.branch [
      | then-is_assigned+in_ok-prepare w ↦ rw w.ages-is (stretch_given c.args.bench.now c.args.age now (values_next c.args.ages.now) (values_next w.prepare.new.self) c.args.c c.lesser-last.result ordered
          (λ d from to. is_given c.args.bench.now c.args.age now d (alike d from to ∙ sym c.is_assigned.ensures ∙ w.if-is_assigned.true) (none d from to)) c.requires.before (rw w.between.ensures at w.in_ok-prepare.ensures.ok))
      | else-is_assigned w ↦ rw w.ages-is (stretch_left c.args.bench.now c.args.age now (values_next c.args.ages.now) c.args.c c.lesser-last.result ordered
          (λ d from to. not_assigned c.args.bench.now c.args.age now d (alike d from to ∙ sym c.is_assigned.ensures ∙ w.if-is_assigned.false)) c.requires.before)
    ]
