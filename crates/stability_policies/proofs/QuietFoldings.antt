-- Where forms stay, and the folding of each code point, foldings under NFKC stay too.
use Rattle.std.proofs.Common.{◌≡◌, ℕ, ◌<◌, Bool, true, false, ◌&&◌, ◌||◌, not, [], ◌∷◌, List, Result, Ok, Err, refl, ap, subst, sym, bytes_eq}
use Rattle.std.proofs.lemmas.Slice.Eq.{bytes_eq-Decides}
use Rattle.release_rows.specs.Releases.{ReleaseItems, rows_now}
use Rattle.ucd_model.specs.Casing.{fold_of}
use Rattle.ucd_facts.specs.Facts.{Facts, facts}
use Rattle.ucd_points.specs.Limits.{point_count}
use Rattle.ucd_facts.specs.declared.form.Bad.{Bad as Rule}
use Rattle.stability_policies.specs.Policies.{breaks, caseless, same_list}
use Rattle.stability_policies.specs.StableForms.{IsRooted, Old, StaysNormal, all_kept, keeps_forms}
use Rattle.stability_policies.specs.Views.{IsValid}
use Rattle.stability_policies.specs.declared.policy.Policy.TheVariants.{P01, P03, P04, P05, P10}
use Rattle.stability_policies.proofs.ListedProofs.{has_rows, stays_by}
use Rattle.stability_policies.proofs.StableProofs.{caseless_where_folds_stay}

-- ---- tests

or_given : (a b : Bool) → a ≡ true → (not a || b) ≡ true → b ≡ true
or_given true b is e = e
or_given false b is e = absurd cc

same_self : (r s : Result (List ℕ) Rule) → r ≡ s → same_list r s ≡ true
same_self (Ok s) (Ok t) e = (bytes_eq-Decides s t).1 cc
same_self (Ok s) (Err rule) e = absurd cc
same_self (Err rule) (Ok t) e = absurd cc
same_self (Err rule) (Err other) e = refl

quiet_by : (a : Bool) (r s : Result (List ℕ) Rule) → (a ≡ true → r ≡ s) → (a && not (same_list r s)) ≡ false
quiet_by true r s same = ap not (same_self r s (same refl))
quiet_by false r s same = refl

-- ---- what each code point keeps

kept_parts : (a b c d e : Bool) → all_kept a b c d e ≡ true → (a ≡ false) × (b ≡ false) × (c ≡ false) × (d ≡ false) × (e ≡ true)
kept_parts true b c d e h = absurd cc
kept_parts false true c d e h = absurd cc
kept_parts false false true d e h = absurd cc
kept_parts false false false true e h = absurd cc
kept_parts false false false false e h = (refl, refl, refl, refl, h)

module _ (O N : ℕ → Facts) (keep : (c : ℕ) → c < point_count → keeps_forms O N c ≡ true) where
  parts : (c : ℕ) → c < point_count → (breaks P01 O N c ≡ false) × (breaks P03 O N c ≡ false) × (breaks P04 O N c ≡ false) × (breaks P05 O N c ≡ false) × ((not (O c).assigned || bytes_eq (fold_of O c) (fold_of N c)) ≡ true)
  parts c lt = kept_parts (breaks P01 O N c) (breaks P03 O N c) (breaks P04 O N c) (breaks P05 O N c) (not (O c).assigned || bytes_eq (fold_of O c) (fold_of N c)) (keep c lt)

  stays : IsRooted O N → StaysNormal O N
  stays rooted = stays_by O N rooted (λ c lt. (parts c lt).0) (λ c lt. (parts c lt).1) (λ c lt. (parts c lt).2) (λ c lt. (parts c lt).3)

  own_folding : (c : ℕ) → c < point_count → Old O c → fold_of O c ≡ fold_of N c
  own_folding c lt is = (bytes_eq-Decides (fold_of O c) (fold_of N c)).0 (or_given (O c).assigned (bytes_eq (fold_of O c) (fold_of N c)) is (parts c lt).4)

  pub quiet_foldings : IsRooted O N → (c : ℕ) → breaks P10 O N c ≡ false
  quiet_foldings rooted c =
      quiet_by (O c).assigned (caseless O (c ∷ [])) (caseless N (c ∷ []))
      (λ is. caseless_where_folds_stay O N (stays rooted) (λ x old. own_folding x (rooted.within x old) old) (c ∷ []) (is, tt))

-- ---- views of two releases

pub rooted_views : (O N : ℕ → Facts) (old new : ReleaseItems) → O ≡ facts (rows_now old) → N ≡ facts (rows_now new) → IsValid old → IsRooted O N
rooted_views O N old new before after valid =
    subst (λ (F : ℕ → Facts). IsRooted F N) (sym before) (subst (λ (G : ℕ → Facts). IsRooted (facts (rows_now old)) G) (sym after) (has_rows old new valid))
