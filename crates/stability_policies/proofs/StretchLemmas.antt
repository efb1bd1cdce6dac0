-- Stretches of code points that break policies, one after the other.
use Rattle.std.proofs.Common.{◌≡◌, ◌≢◌, ℕ, ◌+◌, ◌<◌, ◌≤◌, Bool, true, false, ◌&&◌, ◌||◌, not, List, [], ◌∷◌, ◌++◌, length, get_or, take, map, refl, sym, ap, subst, ◌∙◌, arith, inl, inr, Decides, bytes_eq}
use Rattle.std.proofs.lemmas.Bool.{cases_lt}
use Rattle.std.proofs.lemmas.List.{append-nil, append_assoc, map-append, take_more}
use Rattle.std.proofs.lemmas.Grind.{flat_map-append}
use Rattle.ucd_facts.specs.Facts.{Facts}
use Rattle.ucd_points.specs.Limits.{point_count}
use Rattle.ucd_facts.specs.Shown.{shown_facts}
use Rattle.ucd_facts.specs.declared.view.FactsRef.{FactsRef}
use Rattle.stability_policies.proofs.PointLemmas.{filter_span}
use Rattle.stability_policies.specs.BrokenStretches.{KeepAllForms, breaking, broken_to, has_policy, points_in, points_of}
use Rattle.stability_policies.specs.CaselessLists.{folding_of}
use Rattle.stability_policies.specs.Policies.{breaks}
use Rattle.stability_policies.specs.StableForms.{all_kept, keeps_forms}
use Rattle.stability_policies.specs.declared.broken_stretch.BrokenStretch.{BrokenStretch}
use Rattle.stability_policies.specs.declared.policy.Policy.{Policy}
use Rattle.stability_policies.specs.declared.policy.Policy.TheVariants.{P01, P03, P04, P05, P10}
use Rattle.stability_policies.specs.declared.policy_set.PolicySet.{PolicySet}

-- ---- what is put

pub points_push : (policy : Policy) (list new : List BrokenStretch) (s : BrokenStretch) → new ≡ list ++ s ∷ [] → points_of policy new ≡ points_of policy list ++ points_in policy s
points_push policy list new s put =
    ap (points_of policy) put ∙ flat_map-append (points_in policy) list (s ∷ []) ∙ ap (λ zs. points_of policy list ++ zs) (append-nil (points_in policy s))

-- the breaks by one stretch more
pub points_more : {B : Type 0} (policy : Policy) (f : ℕ → B) (before now new : List B) (list : List BrokenStretch) (i : ℕ) (s : BrokenStretch) → i < length list → s ≡ get_or list i s
    → now ≡ before ++ map f (points_of policy (take i list)) → new ≡ now ++ map f (points_in policy s) → new ≡ before ++ map f (points_of policy (take (i + 1) list))
points_more policy f before now new list i s lt here so_far more =
    let next : take (i + 1) list ≡ take i list ++ s ∷ [] = take_more list i s lt ∙ ap (λ (t : BrokenStretch). take i list ++ t ∷ []) (sym here) in
    more ∙ ap (λ zs. zs ++ map f (points_in policy s)) so_far ∙ append_assoc before (map f (points_of policy (take i list))) (map f (points_in policy s))
    ∙ ap (λ zs. before ++ zs) (sym (map-append f (points_of policy (take i list)) (points_in policy s)))
    ∙ ap (λ (points : List ℕ). before ++ map f points) (sym (points_push policy (take i list) (take (i + 1) list) s next))

module _ (O N : ℕ → Facts) (policy : Policy) where
  -- the code points from c to last break the policy if c does
  pub breaking_next : (n c last k : ℕ) (before after : List ℕ) → c ≡ n → k ≡ last → c ≤ last → ((d : ℕ) → c ≤ d → d ≤ last → breaks policy O N d ≡ breaks policy O N c)
      → before ≡ breaking policy O N n → after ≡ before ++ broken_to policy O N c last → after ≡ breaking policy O N (k + 1)
  breaking_next n c last k before after begins ends ordered alike so_far more =
      more ∙ ap (λ (xs : List ℕ). xs ++ broken_to policy O N c last) (so_far ∙ ap (breaking policy O N) (sym begins))
      ∙ sym (filter_span (breaks policy O N) c (last + 1) (breaks policy O N c) (omega arith) (λ d from lt. alike d from (omega arith)))
      ∙ ap (λ m. breaking policy O N (m + 1)) (sym ends)

  pub breaking_all : (n : ℕ) (points : List ℕ) → n ≡ 1114112 → points ≡ breaking policy O N n → points ≡ breaking policy O N point_count
  unfolding point_count
  breaking_all n points all so_far = so_far ∙ ap (breaking policy O N) all

  pub breaking_none : (n : ℕ) → ((c : ℕ) → breaks policy O N c ≡ false) → [] ≡ breaking policy O N n
  breaking_none n quiet = sym (filter_span (breaks policy O N) 0 n false (omega arith) (λ c from lt. quiet c))

-- ---- what forms rest on

same_kept : (a b c d e s t u v : Bool) → a ≡ s → b ≡ t → c ≡ u → d ≡ v → all_kept a b c d e ≡ all_kept s t u v e
same_kept a b c d e s t u v loss class mapping composite = rw (loss, class, mapping, composite) refl

-- what is shown of a code point, and the policies that it breaks
pub told_forms : (O N : ℕ → Facts) (c : ℕ) (a b : FactsRef) (set : PolicySet) → shown_facts a ≡ O c → shown_facts b ≡ N c → ((policy : Policy) → policy ≢ P10 → has_policy set policy ≡ breaks policy O N c)
    → all_kept (has_policy set P01) (has_policy set P03) (has_policy set P04) (has_policy set P05) (not (shown_facts a).assigned || bytes_eq (folding_of c (shown_facts a)) (folding_of c (shown_facts b))) ≡ keeps_forms O N c
told_forms O N c a b set old new told =
    same_kept (has_policy set P01) (has_policy set P03) (has_policy set P04) (has_policy set P05) (not (shown_facts a).assigned || bytes_eq (folding_of c (shown_facts a)) (folding_of c (shown_facts b)))
    (breaks P01 O N c) (breaks P03 O N c) (breaks P04 O N c) (breaks P05 O N c) (told P01 (λ is. absurd cc)) (told P03 (λ is. absurd cc)) (told P04 (λ is. absurd cc)) (told P05 (λ is. absurd cc))
    ∙ ap (λ (F : Facts). all_kept (breaks P01 O N c) (breaks P03 O N c) (breaks P04 O N c) (breaks P05 O N c) (not F.assigned || bytes_eq (folding_of c F) (folding_of c (shown_facts b)))) old
    ∙ ap (λ (G : Facts). all_kept (breaks P01 O N c) (breaks P03 O N c) (breaks P04 O N c) (breaks P05 O N c) (not (O c).assigned || bytes_eq (folding_of c (O c)) (folding_of c G))) new

module _ (O N : ℕ → Facts) where
  all_keep_next : (n c last k : ℕ) → c ≡ n → k ≡ last → ((d : ℕ) → c ≤ d → d ≤ last → keeps_forms O N d ≡ keeps_forms O N c)
      → KeepAllForms O N n → keeps_forms O N c ≡ true → KeepAllForms O N (k + 1)
  all_keep_next n c last k begins ends alike before here d lt = elim (cases_lt d n) [
    | inl less ↦ before d less
    | inr past ↦ alike d (omega arith) (omega arith) ∙ here
  ]

  pub decides_next : (n c last k : ℕ) (before here : Bool) → c ≡ n → k ≡ last → c ≤ last → ((d : ℕ) → c ≤ d → d ≤ last → keeps_forms O N d ≡ keeps_forms O N c)
      → Decides before (KeepAllForms O N n) → here ≡ keeps_forms O N c → Decides (before && here) (KeepAllForms O N (k + 1))
  decides_next n c last k true true begins ends ordered alike before is = (λ told. all_keep_next n c last k begins ends alike (before.0 refl) (sym is), λ all. refl)
  decides_next n c last k true false begins ends ordered alike before is = (λ told. absurd cc, λ all. is ∙ all c (omega arith))
  decides_next n c last k false here begins ends ordered alike before is = (λ told. absurd cc, λ all. before.1 (λ d lt. all d (omega arith)))

  pub decides_all : (n : ℕ) (all_keep : Bool) → n ≡ 1114112 → Decides all_keep (KeepAllForms O N n) → Decides all_keep (KeepAllForms O N point_count)
  unfolding point_count
  decides_all n all_keep all told = subst (λ m. Decides all_keep (KeepAllForms O N m)) all told
