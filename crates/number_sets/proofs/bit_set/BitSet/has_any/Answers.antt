use Rattle.std.proofs.Common.{◌≡◌, ◌*◌, true, get_or, inl, inr, arith}
use Rattle.std.proofs.lemmas.Bool.{and_parts, cases_lt, leb-true}
use Rattle.std.proofs.lemmas.Bool.Decides.{nat_tests}
use Rattle.std.proofs.lemmas.Grind.{elements}
use Rattle.number_sets.specs.Bits.{is_between}
use Rattle.number_sets.proofs.BitLemmas.{none_shared, some_shared}
use Rattle.number_sets.proofs.bit_set.BitSet.has_any.Goals as goal

-- the word shares a bit with the mask
pub returns-then-word-mask-ne0-clause-some : goal.returns-then-word-mask-ne0-clause-some
returns-then-word-mask-ne0-clause-some c told =
    let words = c.args.self.now.words.items in
    let place = c.places.place in
    let read : c.in-Some.word.now ≡ get_or words place 0 = grind (arith, elements) in
    let found = some_shared words place c.in-Some.word.now c.mask.result (is_between c.args.first c.args.last) read c.mask.ensures c.mask.type_inv c.if-word-mask-ne0.true in
    let between = and_parts _ _ found.1 in
    (found.0, leb-true _ _ between.0, leb-true _ _ between.1, found.2)

-- it shares none
pub places-preserved : goal.places-preserved
places-preserved c k low high below =
    let words = c.args.self.now.words.items in
    let place = c.places.place in
    let read : c.in-Some.word.now ≡ get_or words place 0 = grind (arith, elements) in
    let between : is_between c.args.first c.args.last k ≡ true = grind (arith, nat_tests) in
    elim (cases_lt k (place * 64)) [
      | inl before ↦ c.places.invariant k low high before
      | inr from ↦ none_shared words place c.in-Some.word.now c.mask.result (is_between c.args.first c.args.last) read c.mask.ensures c.if-word-mask-ne0.false k (omega arith) between
    ]
