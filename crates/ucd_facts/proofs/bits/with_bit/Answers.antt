use Rattle.std.proofs.Common.{ℕ, ◌<◌, ◌^◌, ◌*◌, ◌%◌, ◌==◌, w32, ap, sym, arith}
use Rattle.std.proofs.lemmas.Nat.{or_lt}
use Rattle.std.proofs.lemmas.Nat.Bits.{bit_at_set_same, bit_at_set_other, bit_at_clear_same, bit_at_clear_other}
use Rattle.std.proofs.Math.Pow.{pow-lt}
use Rattle.ucd_facts.proofs.bits.with_bit.Goals as goal

pub returns-then-on-clause-put : goal.returns-then-on-clause-put
returns-then-on-clause-put c = rw (bit_at_set_same w32 c.args.bits c.args.place c.requires) (sym c.if-on.true)

pub returns-then-on-clause-rest : goal.returns-then-on-clause-rest
returns-then-on-clause-rest c = λ other below other_place. ap (λ n. n == 1) (bit_at_set_other w32 c.args.bits c.args.place c.requires other other_place)

-- the bit is below each power above its place
one_below : (place width : ℕ) → place < 32 → place < width → 1 * 2 ^ place % 4294967296 < 2 ^ width
one_below place width within place_below =
    let small : 2 ^ place < 4294967296 = pow-lt within in
    let below : 2 ^ place < 2 ^ width = pow-lt place_below in
    omega arith

pub returns-then-on-clause-width : goal.returns-then-on-clause-width
returns-then-on-clause-width c = λ width bits place. or_lt width c.args.bits _ bits (one_below c.args.place width c.requires place)

pub returns-else-on-clause-put : goal.returns-else-on-clause-put
returns-else-on-clause-put c = rw (bit_at_clear_same w32 c.args.bits c.args.place c.requires) (sym c.if-on.false)

pub returns-else-on-clause-rest : goal.returns-else-on-clause-rest
returns-else-on-clause-rest c = λ other below other_place. ap (λ n. n == 1) (bit_at_clear_other w32 c.args.bits c.args.place c.requires other below other_place)
