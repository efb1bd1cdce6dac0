-- The list of the policies.
-- PoliciesAreWhole   the list has all policies, each once and at its place
-- place_below        there are twenty places
use Rattle.std.proofs.Common.{◌≡◌, ◌<◌, Some, refl, arith, slice_get}
use Rattle.ucd_facts.specs.Enumerations.{IsEnumeration}
use Rattle.stability_policies.specs.Policies.{place_of_policy, policies}
use Rattle.stability_policies.specs.declared.policy.Policy.{Policy}
use Rattle.stability_policies.specs.declared.policy.Policy.TheVariants.{P01}

abbrev pub PoliciesAreWhole : Type 0
PoliciesAreWhole = IsEnumeration policies place_of_policy

pub place_below : (policy : Policy) → place_of_policy policy < 20
place_below P01 = omega arith
place_below _ = omega arith

pub policies_are_whole : PoliciesAreWhole
policies_are_whole = record { each = at; order = refl }
  where
    at : (policy : Policy) → slice_get policies (place_of_policy policy) ≡ Some policy
    at P01 = refl
    at _ = refl
