-- Records that follow a bench: what is written at some points, and what is left where two functions agree.
use Rattle.std.proofs.Common.{◌≡◌, ◌≢◌, ℕ, ◌<◌, Bool, true, false, not, List, [], ◌∷◌, map, if◌then◌else◌, refl, sym, ap, subst, ◌∙◌, arith, inl, inr}
use Rattle.std.proofs.lemmas.Bool.{cases_eq}
use Rattle.std.proofs.lemmas.Bool.Decides.{nat_tests}
use Rattle.range_table.specs.Values.{with_span, point_count-is}
use Rattle.record_table.specs.Records.{written}
use Rattle.ucd_points.specs.Limits.{point_count}
use Rattle.ucd_model.specs.Records.{Record, kept_record}
use Rattle.ucd_model.specs.Sameness.{is_in, same_record}
use Rattle.ucd_model.specs.SamenessProofs.{records_are_told}
use Rattle.ucd_model.specs.declared.records.Record.{Record as KeptRecord}
use Rattle.record_lines.specs.Earlier.{updated, FollowingCatchesUp}
use Rattle.ucd_model.specs.KeptNumbers.{in_kept}

-- ---- what is written

in_here : (p : ℕ) (points : List ℕ) (c : ℕ) → c ≡ p → is_in (p ∷ points) c ≡ true
in_here p points c same = grind (arith, nat_tests)

in_there : (p : ℕ) (points : List ℕ) (c : ℕ) → c ≢ p → is_in (p ∷ points) c ≡ is_in points c
in_there p points c other = grind (arith, nat_tests)

with_here : (R : ℕ → Record) (p : ℕ) (r : Record) (c : ℕ) → c ≡ p → with_span R p p r c ≡ r
with_here R p r c same = grind (arith, nat_tests)

with_there : (R : ℕ → Record) (p : ℕ) (r : Record) (c : ℕ) → c ≢ p → with_span R p p r c ≡ R c
with_there R p r c other = grind (arith, nat_tests)

either : (b : Bool) (x y : Record) → y ≡ x → (if b then x else y) ≡ x
either true x y same = refl
either false x y same = same

-- where the points get the records of S, that is what is written at them
pub written_is : (points : List ℕ) (records : List KeptRecord) (S R : ℕ → Record) (c : ℕ) → map kept_record records ≡ map S points → written points records R c ≡ updated points S R c
written_is [] [] S R c is = refl
written_is [] (r ∷ records) S R c is = refl
written_is (p ∷ points) [] S R c is = cc
written_is (p ∷ points) (r ∷ records) S R c is =
    let first : kept_record r ≡ S p = cc in
    let rest : map kept_record records ≡ map S points = cc in
    written_is points records S (with_span R p p (kept_record r)) c rest
    ∙ elim (cases_eq c p) [
      | inl same ↦
          either (is_in points c) (S c) (with_span R p p (kept_record r) c) (with_here R p (kept_record r) c same ∙ first ∙ ap S (sym same))
          ∙ sym (ap (λ b. if b then S c else R c) (in_here p points c same))
      | inr other ↦
          ap (λ (x : Record). if is_in points c then S c else x) (with_there R p (kept_record r) c other)
          ∙ sym (ap (λ b. if b then S c else R c) (in_there p points c other))
    ]

-- ---- what is left

caught : (e r s : Record) (b : Bool) → same_record r s ≡ b → e ≡ r → (if not b then s else e) ≡ s
caught e r s true same is = is ∙ (records_are_told r s).0 same
caught e r s false same is = refl

pub catches_up : FollowingCatchesUp
catches_up E R S points same is c lt =
    let below : c < point_count = subst (λ n. c < n) (sym point_count-is) lt in
    ap (λ (xs : List ℕ). if is_in xs c then S c else E c) is
    ∙ ap (λ b. if b then S c else E c) (in_kept (λ k. not (same_record (R k) (S k))) point_count c below)
    ∙ caught (E c) (R c) (S c) (same_record (R c) (S c)) refl (same c lt)
