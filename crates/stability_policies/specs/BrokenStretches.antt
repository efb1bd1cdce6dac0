-- Stretches of code points that break policies, out of all code points.
--
-- O and N are the facts of each code point in the old release and in the new one.
-- has_policy set P         whether the policy P is in the set, which says so at the place of P
-- breaking P O N n         the code points before n that break P, in order
-- broken_to P O N c last   the code points from c to last, if c breaks P; else none
-- points_in P s            the code points of the stretch s, if P is one of its policies; else none
-- points_of P list         those of all stretches of the list
-- IsAlikeTo O N c last     each code point from c to last breaks the policies that c breaks, and keeps what forms rest on where c does
-- KeepAllForms O N n       each code point before n keeps what forms rest on
-- AreOthers O N n list     the stretches have exactly the code points before n that break P, for each policy P other than P10
-- AreStretches O N found   those found have exactly the code points that break P, for each policy P
use Rattle.std.specs.Prelude.{◌≡◌, ◌≢◌, ◌≤◌, ◌<◌, ◌+◌, ◌-◌, ℕ, Bool, true, false, List, [], cond, filter, get_or}
use Rattle.std.specs.List.{flat_map, range_with_len}
use Rattle.ucd_facts.specs.Facts.{Facts}
use Rattle.ucd_points.specs.Limits.{point_count}
use Rattle.stability_policies.specs.Policies.{breaks, place_of_policy}
use Rattle.stability_policies.specs.StableForms.{keeps_forms}
use Rattle.stability_policies.specs.declared.broken_stretch.BrokenStretch.{BrokenStretch}
use Rattle.stability_policies.specs.declared.policy.Policy.{Policy}
use Rattle.stability_policies.specs.declared.policy.Policy.TheVariants.{P10}
use Rattle.stability_policies.specs.declared.policy_set.PolicySet.{PolicySet}
use Rattle.stability_policies.specs.declared.sieving.Stretches.{Stretches}

abbrev pub has_policy : PolicySet → Policy → Bool
has_policy set policy = get_or set.holds (place_of_policy policy) false

abbrev pub breaking : Policy → (ℕ → Facts) → (ℕ → Facts) → ℕ → List ℕ
breaking policy O N n = filter (breaks policy O N) (range_with_len 0 n)

abbrev pub broken_to : Policy → (ℕ → Facts) → (ℕ → Facts) → ℕ → ℕ → List ℕ
broken_to policy O N c last = cond (breaks policy O N c) (range_with_len c (last + 1 - c)) []

abbrev pub points_in : Policy → BrokenStretch → List ℕ
points_in policy s = cond (has_policy s.policies policy) (range_with_len s.span.lo (s.span.hi + 1 - s.span.lo)) []

abbrev pub points_of : Policy → List BrokenStretch → List ℕ
points_of policy list = flat_map (points_in policy) list

pub record IsAlikeTo (O N : ℕ → Facts) (c last : ℕ) : Type 0 where
  pub broken : (policy : Policy) (d : ℕ) → c ≤ d → d ≤ last → breaks policy O N d ≡ breaks policy O N c
  pub kept : (d : ℕ) → c ≤ d → d ≤ last → keeps_forms O N d ≡ keeps_forms O N c

abbrev pub KeepAllForms : (ℕ → Facts) → (ℕ → Facts) → ℕ → Type 0
KeepAllForms O N n = (c : ℕ) → c < n → keeps_forms O N c ≡ true

abbrev pub AreOthers : (ℕ → Facts) → (ℕ → Facts) → ℕ → List BrokenStretch → Type 0
AreOthers O N n list = (policy : Policy) → policy ≢ P10 → points_of policy list ≡ breaking policy O N n

pub record AreStretches (O N : ℕ → Facts) (found : Stretches) : Type 0 where
  pub foldings : points_of P10 found.foldings ≡ breaking P10 O N point_count
  pub others : AreOthers O N point_count found.others
