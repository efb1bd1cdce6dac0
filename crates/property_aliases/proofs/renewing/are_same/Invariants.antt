use Rattle.std.proofs.Common.{◌≡◌, length, map}
use Rattle.property_aliases.proofs.renewing.are_same.Given as goal

-- the lists are the same if what is left of them is
abbrev pub invariant-names : goal.invariant-names
invariant-names l = map (λ k. k.items) l.left ≡ map (λ k. k.items) l.right → map (λ k. k.items) l.first ≡ map (λ k. k.items) l.second

abbrev pub decreases-names : goal.decreases-names
decreases-names l = length l.left
