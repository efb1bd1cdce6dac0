use Rattle.std.proofs.Common.{inl, inr, subst, arith}
use Rattle.std.proofs.lemmas.Bool.{cases_lt, eq-eqb}
use Rattle.paged_table.specs.Blocks.{value_of, IsOutside}
use Rattle.paged_table.proofs.part.has_one_value_after.Goals as goal

pub returns-then-lo-eq0-clause-uneven : goal.returns-then-lo-eq0-clause-uneven
returns-then-lo-eq0-clause-uneven c = λ outside.
    elim (cases_lt c.args.hi 255) [
      | inl below ↦
          let same = subst (λ x. IsOutside (value_of c.args.pool.now x) c.args.lo c.args.hi c.args.value) c.in-One.is outside in
          absurd (c.if-word-value.false (same 255 (omega arith) (inr below)))
      | inr above ↦ eq-eqb c.args.hi 255 (omega arith)
    ]

pub returns-in-Page-clause-uneven : goal.returns-in-Page-clause-uneven
returns-in-Page-clause-uneven c = λ outside.
    c.has_one_value_outside.ensures.uneven (subst (λ x. IsOutside (value_of c.args.pool.now x) c.args.lo c.args.hi c.args.value) c.in-Page.is outside)
