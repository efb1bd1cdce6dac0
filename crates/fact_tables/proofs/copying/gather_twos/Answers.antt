use Rattle.std.proofs.Common.{sym, ◌∙◌, arith, inl, inr}
use Rattle.std.proofs.lemmas.Bool.{cases_lt}
use Rattle.fact_tables.proofs.copying.gather_twos.Goals as goal

pub stretches-preserved : goal.stretches-preserved
stretches-preserved c = record {
  from = omega arith;
  within = omega arith;
  grows = λ s y q is. c.in_ok-gather_two.ensures.grows s y q (c.stretches.invariant.grows s y q is);
  listed = λ q low high s y is. elim (cases_lt q c.stretches.at) [
    | inl below ↦ c.in_ok-gather_two.ensures.grows s y q (c.stretches.invariant.listed q low below s y is)
    | inr from ↦
        let same = c.run-run.ensures.same.each q (omega arith) (omega arith) ∙ sym c.run-run.ensures.points in
        c.in_ok-gather_two.ensures.listed q (omega arith) (omega arith) s y (sym same ∙ is)
  ];
}
