-- A code point of which a new release says what the old one says breaks no policy but P20, and P10 maybe.
use Rattle.std.proofs.Common.{◌≡◌, ◌≢◌, ◌<◌, ℕ, Bool, true, false, ◌&&◌, ◌||◌, ◌==◌, not, List, [], refl, ap, ap₂, sym, subst, ◌∙◌, arith, inl, inr, bytes_eq}
use Rattle.std.proofs.lemmas.Bool.{cases_lt, eq-eqb, and_right}
use Rattle.std.proofs.Math.Bool.{and-not_self}
use Rattle.ucd_model.specs.CanonicalOrder.{class_of, order}
use Rattle.ucd_facts.specs.Composites.{is_canonical}
use Rattle.ucd_facts.specs.EnumerationProofs.{place-injective}
use Rattle.ucd_facts.specs.Facts.{Facts}
use Rattle.ucd_facts.specs.declared.decomposition.Kind.{Kind}
use Rattle.ucd_facts.specs.Predicates.{category_place}
use Rattle.ucd_model.specs.Records.{Record, core_at, kept_record, record_at}
use Rattle.ucd_facts.specs.Sets.{has_core}
use Rattle.ucd_facts.specs.declared.category.Category.{Category}
use Rattle.ucd_facts.specs.declared.category.Category.TheVariants.{Cc, Cs, Co}
use Rattle.ucd_facts.specs.declared.property.Core.{Core}
use Rattle.ucd_facts.specs.declared.property.Core.TheVariants.{IdStart, IdContinue, XidStart, XidContinue}
use Rattle.ucd_facts.specs.declared.property.Flag.TheVariants.{NoncharacterCodePoint, PatternSyntax, PatternWhiteSpace}
use Rattle.ucd_model.specs.declared.records.Record.{Record as KeptRecord}
use Rattle.stability_policies.specs.BrokenStretches.{has_policy}
use Rattle.stability_policies.specs.KeptPoints.{IsKept}
use Rattle.stability_policies.specs.Policies.{all_assigned, breaks, in_one, is_case_pair, is_mark, is_of_category, place_of_policy, policies, second_maps, sort_of}
use Rattle.stability_policies.specs.PolicyLists.{place_below, policies_are_whole}
use Rattle.stability_policies.specs.declared.policy.Policy.{Policy}
use Rattle.stability_policies.specs.declared.policy.Policy.TheVariants.{P01, P02, P03, P04, P05, P06, P07, P08, P09, P10, P11, P12, P13, P14, P15, P16, P17, P18, P19, P20}
use Rattle.stability_policies.specs.declared.policy_set.PolicySet.{PolicySet}
use Rattle.stability_policies.proofs.PlainLemmas.{primary_unmapped}
use Rattle.stability_policies.proofs.UniformBreaks.{no_pair}

-- ---- formulas over the same values

lost : (a b : Bool) → a ≡ b → (a && not b) ≡ false
lost a b e = ap (λ x. x && not b) e ∙ and-not_self b

in_both : (b : Bool) → in_one b b ≡ false
in_both true = refl
in_both false = refl

alike : (a b : Bool) → a ≡ b → in_one a b ≡ false
alike a b e = ap (λ x. in_one x b) e ∙ in_both b

same_number : (a b : Bool) (m n : ℕ) → m ≡ n → (a && (b && not (m == n))) ≡ false
same_number a b m n e = and_right a _ (and_right b _ (ap not (eq-eqb m n e)))

same_sort : (a b : Bool) (k l : Kind) (s t : List ℕ) → k ≡ l → s ≡ [] → t ≡ [] → (a && (b && not ((sort_of k == sort_of l) && bytes_eq s t))) ≡ false
same_sort a b k l s t e p q =
    and_right a _ (and_right b _ (ap₂ (λ x y. not (x && y)) (eq-eqb (sort_of k) (sort_of l) (ap sort_of e)) (ap₂ bytes_eq p q)))

-- ---- policy by policy

module _ (O N : ℕ → Facts) (c : ℕ) (is : IsKept c (O c) (N c) (core_at O c) (core_at N c)) where
  same_place : (k : Category) → is_of_category k (O c) ≡ is_of_category k (N c)
  same_place k = ap (λ x. category_place x == category_place k) is.category

  kept_P01 : breaks P01 O N c ≡ false
  kept_P01 = lost (O c).assigned (N c).assigned is.assigned

  kept_P03 : breaks P03 O N c ≡ false
  kept_P03 = same_number (O c).assigned (N c).assigned (O c).class (N c).class is.class

  kept_P04 : breaks P04 O N c ≡ false
  kept_P04 = same_sort (O c).assigned (N c).assigned (O c).kind (N c).kind (O c).mapping (N c).mapping is.kind is.old_mapping is.new_mapping

  kept_P05 : breaks P05 O N c ≡ false
  kept_P05 = ap₂ (λ a b. (a && not b) || (b && (not a && all_assigned O (N c).mapping))) (primary_unmapped O c is.old_mapping) (primary_unmapped N c is.new_mapping)

  kept_P11 : breaks P11 O N c ≡ false
  kept_P11 = no_pair O c (not (is_case_pair N c (O c).simple_lower)) (O c) is.old_lower

  kept_P12 : breaks P12 O N c ≡ false
  kept_P12 =
      no_pair N c ((O c).assigned && ((O (N c).simple_lower).assigned && not (is_case_pair O c (N c).simple_lower))) (N c) is.new_lower

  kept_P13 : breaks P13 O N c ≡ false
  kept_P13 = alike (is_of_category Cc (O c)) (is_of_category Cc (N c)) (same_place Cc)

  kept_P14 : breaks P14 O N c ≡ false
  kept_P14 =
      ap₂ (λ a b. a || b) (alike (is_of_category Cs (O c)) (is_of_category Cs (N c)) (same_place Cs))
      (alike (is_of_category Co (O c)) (is_of_category Co (N c)) (same_place Co))

  kept_P15 : breaks P15 O N c ≡ false
  kept_P15 = alike ((O c).flag NoncharacterCodePoint) ((N c).flag NoncharacterCodePoint) (is.flag NoncharacterCodePoint)

  kept_P16 : breaks P16 O N c ≡ false
  kept_P16 =
      ap₂ (λ a b. a || b) (alike ((O c).flag PatternSyntax) ((N c).flag PatternSyntax) (is.flag PatternSyntax))
      (alike ((O c).flag PatternWhiteSpace) ((N c).flag PatternWhiteSpace) (is.flag PatternWhiteSpace))

  kept_P18 : breaks P18 O N c ≡ false
  kept_P18 = and_right (is_canonical (N c).kind) (second_maps N (N c).mapping) (ap (second_maps N) is.new_mapping)

  kept_P19 : breaks P19 O N c ≡ false
  kept_P19 = and_right (is_canonical (N c).kind) _ (ap (λ m. not (bytes_eq (order (class_of N) m) m)) is.new_mapping)

  kept_core : (core : Core) → (core_at O c core && not (core_at N c core)) ≡ false
  kept_core core = lost (core_at O c core) (core_at N c core) (is.core core)

  kept_breaks : (policy : Policy) → policy ≢ P10 → policy ≢ P20 → breaks policy O N c ≡ false
  kept_breaks P01 formed marked = kept_P01
  kept_breaks P02 formed marked = refl
  kept_breaks P03 formed marked = kept_P03
  kept_breaks P04 formed marked = kept_P04
  kept_breaks P05 formed marked = kept_P05
  kept_breaks P06 formed marked = kept_core IdStart
  kept_breaks P07 formed marked = kept_core IdContinue
  kept_breaks P08 formed marked = kept_core XidStart
  kept_breaks P09 formed marked = kept_core XidContinue
  kept_breaks P10 formed marked = absurd (formed refl)
  kept_breaks P11 formed marked = kept_P11
  kept_breaks P12 formed marked = kept_P12
  kept_breaks P13 formed marked = kept_P13
  kept_breaks P14 formed marked = kept_P14
  kept_breaks P15 formed marked = kept_P15
  kept_breaks P16 formed marked = kept_P16
  kept_breaks P17 formed marked = refl
  kept_breaks P18 formed marked = kept_P18
  kept_breaks P19 formed marked = kept_P19
  kept_breaks P20 formed marked = absurd (marked refl)

  -- the set that has P20 if it is broken, and no other policy
  all_told : (set : PolicySet) → has_policy set P20 ≡ breaks P20 O N c → ((other : Policy) → place_of_policy other ≢ place_of_policy P20 → has_policy set other ≡ false)
      → (policy : Policy) → policy ≢ P10 → has_policy set policy ≡ breaks policy O N c
  all_told set mark rest policy formed = elim (cases_lt (place_of_policy policy) 19) [
    | inl less ↦
        rest policy (λ same. absurd (omega (arith, less, same)))
        ∙ sym (kept_breaks policy formed (λ is. absurd (let same : place_of_policy policy ≡ 19 = ap place_of_policy is in omega (arith, less, same))))
    | inr past ↦
        let below : place_of_policy policy < 20 = place_below policy in
        let same : policy ≡ P20 = place-injective policies place_of_policy policies_are_whole policy P20 (omega (arith, past, below)) in
        ap (has_policy set) same ∙ mark ∙ ap (λ p. breaks p O N c) (sym same)
  ]

-- ---- by what both releases show

pub core_told : (k : KeptRecord) (R : ℕ → Record) (F : ℕ → Facts) (c : ℕ) → kept_record k ≡ R c → R ≡ record_at F → has_core k.core ≡ core_at F c
core_told k R F c shown is = ap (λ (S : Record). S.core) (shown ∙ ap (λ (T : ℕ → Record). T c) is)

pub told : (O N : ℕ → Facts) (c : ℕ) (G H : Facts) (P Q : Core → Bool) → G ≡ O c → H ≡ N c → P ≡ core_at O c → Q ≡ core_at N c → IsKept c G H P Q
    → (set : PolicySet) → has_policy set P20 ≡ (not (H.class == 0) && not (is_mark H)) → ((other : Policy) → place_of_policy other ≢ place_of_policy P20 → has_policy set other ≡ false)
    → (policy : Policy) → policy ≢ P10 → has_policy set policy ≡ breaks policy O N c
told O N c G H P Q old new before after is set mark rest =
    let shown : IsKept c G H (core_at O c) (core_at N c) = subst (λ R. IsKept c G H R (core_at N c)) before (subst (λ R. IsKept c G H P R) after is) in
    let known : IsKept c (O c) (N c) (core_at O c) (core_at N c) = subst (λ F. IsKept c F (N c) (core_at O c) (core_at N c)) old (subst (λ F. IsKept c G F (core_at O c) (core_at N c)) new shown) in
    all_told O N c known set (mark ∙ ap (λ (F : Facts). not (F.class == 0) && not (is_mark F)) new) rest
