use Rattle.std.proofs.Common.{◌≡◌, ◌+◌, ℕ, Option, Some, None, refl, arith, IsSome, SomeIff}
use Rattle.range_table.proofs.layout.Layout.last_of_run.Goals as goal

some_of : (o : Option ℕ) (P : Type 0) (n : ℕ) → SomeIff o P n → P → IsSome o
some_of None P n is p = absurd (is p)
some_of (Some x) P n is p = refl

value_of : (o : Option ℕ) (P : Type 0) (n x : ℕ) → SomeIff o P n → o ≡ Some x → x ≡ n
value_of None P n x is e = absurd cc
value_of (Some y) P n x is e = let same : y ≡ x = cc in let here = is.1 in cc

pub unwrap-requires : goal.unwrap-requires
unwrap-requires g c = some_of c.new.result _ _ c.new.ensures (omega arith)

pub returns-clause-from : goal.returns-clause-from
returns-clause-from g c = let is = value_of c.new.result _ _ c.unwrap.result c.new.ensures c.unwrap.ensures in omega arith

pub returns-clause-same : goal.returns-clause-same
returns-clause-same g c k from to =
    let is = value_of c.new.result _ _ c.unwrap.result c.new.ensures c.unwrap.ensures in
    c.end_of_run.ensures.same k from (omega arith)

pub returns-clause-maximal : goal.returns-clause-maximal
returns-clause-maximal g c below =
    let is = value_of c.new.result _ _ c.unwrap.result c.new.ensures c.unwrap.ensures in
    let next : c.unwrap.result + 1 ≡ c.end_of_run.result = omega arith in
    rw next (c.end_of_run.ensures.differs (omega arith))
