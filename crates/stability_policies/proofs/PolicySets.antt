-- Sets of policies, and the policies that are tested one after the other.
use Rattle.std.proofs.Common.{◌≡◌, ◌≢◌, ℕ, zero, suc, ◌+◌, ◌<◌, Bool, true, false, not, List, [], ◌∷◌, length, get_or, refl, sym, ap, subst, ◌∙◌, arith, inl, inr}
use Rattle.std.specs.Bool.{Decides, beq}
use Rattle.std.specs.List.{list_any}
use Rattle.std.proofs.lemmas.Bool.{cases_lt}
use Rattle.ucd_facts.specs.EnumerationProofs.{place-at, place-injective}
use Rattle.stability_policies.specs.BrokenStretches.{has_policy}
use Rattle.stability_policies.specs.Policies.{place_of_policy, policies}
use Rattle.stability_policies.specs.PolicyLists.{policies_are_whole}
use Rattle.stability_policies.specs.declared.policy.Policy.{Policy}
use Rattle.stability_policies.specs.declared.policy.Policy.TheVariants.{P01, P10}
use Rattle.stability_policies.specs.declared.policy_set.PolicySet.{PolicySet}

-- ---- the empty set

none_held : (holds : List Bool) → not (list_any (λ y. beq y true) holds) ≡ true → (i : ℕ) → get_or holds i false ≡ false
none_held [] e i = refl
none_held (true ∷ rest) e i = absurd cc
none_held (false ∷ rest) e zero = refl
none_held (false ∷ rest) e (suc i) = none_held rest e i

not_any : (holds : List Bool) → ((i : ℕ) → i < length holds → get_or holds i false ≡ false) → not (list_any (λ y. beq y true) holds) ≡ true
not_any [] none = refl
not_any (true ∷ rest) none = absurd (let e : true ≡ false = none 0 (omega arith) in cc)
not_any (false ∷ rest) none = not_any rest (λ i lt. none (suc i) (omega arith))

pub empty_decides : (set : PolicySet) (any : Bool) → length set.holds ≡ 20 → any ≡ list_any (λ y. beq y true) set.holds → Decides (not any) ((policy : Policy) → has_policy set policy ≡ false)
empty_decides set any size is = (
  λ told policy. none_held set.holds (ap not (sym is) ∙ told) (place_of_policy policy),
  λ none. ap not is ∙ not_any set.holds (λ i lt.
      subst (λ k. get_or set.holds k false ≡ false) (place-at policies place_of_policy policies_are_whole i P01 (omega arith)) (none (get_or policies i P01))),
)

-- ---- one policy more

pub policies_next : (f : Policy → Bool) (set new : PolicySet) (i : ℕ) (policy : Policy) (on : Bool) → i < 20 → policy ≡ get_or policies i P01 → (policy ≢ P10 → on ≡ f policy)
    → has_policy new policy ≡ on → ((other : Policy) → place_of_policy other ≢ place_of_policy policy → has_policy new other ≡ has_policy set other)
    → ((other : Policy) → place_of_policy other < i → other ≢ P10 → has_policy set other ≡ f other) → (other : Policy) → place_of_policy other < i + 1 → other ≢ P10 → has_policy new other ≡ f other
policies_next f set new i policy on lt here told put rest before other below is_other =
    let place : place_of_policy policy ≡ i = ap place_of_policy here ∙ place-at policies place_of_policy policies_are_whole i P01 lt in
    elim (cases_lt (place_of_policy other) i) [
      | inl less ↦ rest other (λ same. absurd (omega (arith, less, place, same))) ∙ before other less is_other
      | inr past ↦
          let same : other ≡ policy = place-injective policies place_of_policy policies_are_whole other policy (omega (arith, past, place, below)) in
          ap (has_policy new) same ∙ put ∙ told (λ is. is_other (same ∙ is)) ∙ ap f (sym same)
    ]
