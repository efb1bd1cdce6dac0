-- Pieces of equal records, by other records that are the same.
use Rattle.std.proofs.Common.{◌≡◌, ◌≢◌, ℕ, ◌+◌, ◌<◌, ◌≤◌, List, sym, ◌∙◌, arith, Result, IfOk}
use Rattle.std.proofs.lemmas.Result.{IfOk-weaker}
use Rattle.range_table.specs.Values.{point_count-is}
use Rattle.ucd_points.specs.Bounds.{Bounds}
use Rattle.ucd_points.specs.Limits.{point_count}
use Rattle.ucd_model.specs.Cuts.{IsEqualIn}
use Rattle.ucd_model.specs.Records.{Record}
use Rattle.edit_session.specs.Benches.{EndsAlike}
use Rattle.edit_session.specs.FirstRecords.{SameRecords}

module _ (S R : ℕ → Record) (are : SameRecords S R) (s : Bounds) (ordered : s.lo ≤ s.hi) (inside : s.hi < 1114112) where
  first : s.lo < point_count
  first = omega (arith, point_count-is, ordered, inside)

  pub equal_in : ((c : ℕ) → s.lo ≤ c → c ≤ s.hi → S c ≡ S s.lo) → IsEqualIn R s
  equal_in same c from to =
      let here : c < point_count = omega (arith, point_count-is, inside, to) in
      sym (are c here) ∙ same c from to ∙ are s.lo first

  pub ends_alike : (s.hi + 1 < 1114112 → S (s.hi + 1) ≢ S s.lo) → EndsAlike R s
  ends_alike ends less same = ends (omega (arith, point_count-is, less)) (are (s.hi + 1) less ∙ same ∙ sym (are s.lo first))

-- what holds of pieces by all records that are the same holds by these
pub by_records : {E : Type 0} (S R : ℕ → Record) (made : Result (List Bounds) E) (P : (ℕ → Record) → List Bounds → Type 0) → SameRecords S R → IfOk made (λ pieces. (Q : ℕ → Record) → SameRecords S Q → P Q pieces) → IfOk made (P R)
by_records S R made P are all = IfOk-weaker made (λ pieces. (Q : ℕ → Record) → SameRecords S Q → P Q pieces) (P R) (λ pieces each. each R are) all
