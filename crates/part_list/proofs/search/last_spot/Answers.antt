use Rattle.std.proofs.Common.{◌≡◌, ℕ, ◌+◌, ◌-◌, ◌<◌, length, not, drop, subst, arith}
use Rattle.std.specs.List.{suffix_len}
use Rattle.part_list.specs.Parts.{flat}
use Rattle.part_list.specs.PartValues.{parts_next}
use Rattle.part_list.proofs.FindLemmas.{LastAt-found, none_from-part}
use Rattle.part_list.proofs.search.last_spot.Goals as goal

-- no part behind this one has such an entry
pub returns-in-Some : goal.returns-in-Some
returns-in-Some g c =
    let p = g.S.Seek.passing c.args.seek.now in
    let parts = parts_next c.args.parts.now in
    let some = c.parts-test.true in
    let within = c.parts.invariant.within in
    let slot : c.parts.left - 1 < length c.args.parts.now = omega arith in
    let next : c.parts.left ≡ c.parts.left - 1 + 1 = omega arith in
    let P : ℕ → Type 0 = λ k. suffix_len (λ x. not (p x)) (flat (drop k parts)) ≡ length (flat (drop k parts)) in
    LastAt-found p c.args.parts.now (c.parts.left - 1) c.in-Some.at c.index-parts-slot.result slot c.index-parts-slot.is
    (subst P next c.parts.invariant.none) c.in-Some.ensures

pub parts-preserved : goal.parts-preserved
parts-preserved g c =
    let p = g.S.Seek.passing c.args.seek.now in
    let parts = parts_next c.args.parts.now in
    let some = c.parts-test.true in
    let within = c.parts.invariant.within in
    let slot : c.parts.left - 1 < length c.args.parts.now = omega arith in
    let next : c.parts.left ≡ c.parts.left - 1 + 1 = omega arith in
    let P : ℕ → Type 0 = λ k. suffix_len (λ x. not (p x)) (flat (drop k parts)) ≡ length (flat (drop k parts)) in
    record {
      within = omega arith;
      none = none_from-part p c.args.parts.now (c.parts.left - 1) c.index-parts-slot.result slot c.index-parts-slot.is
          (subst P next c.parts.invariant.none) c.in_default.ensures;
    }
