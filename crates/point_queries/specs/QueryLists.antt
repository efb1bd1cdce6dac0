-- Lists of questions as sets.
-- set_has     a list of questions that is sorted by some order and freed of repeats has the same questions
-- set_rises   and each of its questions is below those behind it
use Rattle.std.proofs.Common.{◌≡◌, Bool, true, List, sym, subst, Ordering}
use Rattle.std.specs.Cmp.{IsEquivalence, IsTotalOrder, both_ways}
use Rattle.std.specs.Ordering.{eq_by_cmp}
use Rattle.std.specs.List.{Contains, dedup}
use Rattle.std.specs.List.Sorted.{IsPermutation, IsSorted, IsStrictlySortedBy}
use Rattle.std.proofs.lemmas.List.Kept.{Contains-dedup, Contains-from_dedup, IsStrictlySortedBy-dedup}
use Rattle.std.proofs.lemmas.List.Sorted.{Contains-permutation, IsPermutation-sym}
use Rattle.std.proofs.lemmas.Map.Views.{list_any-from_Contains, Contains-from_any}
use Rattle.ucd_facts.specs.Answers.{is_asked}
use Rattle.ucd_facts.specs.declared.query.Query.{Query}
use Rattle.ucd_facts.specs.AnswerProofs.{queries_are_told, same_query-equivalence}

asked_from : (xs : List Query) (q : Query) → Contains xs q → is_asked xs q ≡ true
asked_from xs q h = list_any-from_Contains same_query-equivalence q xs h

contains_from : (xs : List Query) (q : Query) → is_asked xs q ≡ true → Contains xs q
contains_from xs q e = Contains-from_any (λ x y e. (queries_are_told x y).0 e) q xs e

pub set_has : (E : Query → Query → Bool) → IsEquivalence E → ((x y : Query) → E x y ≡ true → x ≡ y) → (xs ys zs : List Query) → IsPermutation xs ys → zs ≡ dedup E ys
    → (q : Query) → is_asked zs q ≡ is_asked xs q
set_has E e same xs ys zs moved left q = both_ways (is_asked zs q) (is_asked xs q)
    (λ t. asked_from xs q (Contains-permutation ys xs q (IsPermutation-sym xs ys moved) (Contains-from_dedup E ys q (subst (λ l. Contains l q) left (contains_from zs q t)))))
    (λ t. asked_from zs q (subst (λ l. Contains l q) (sym left) (Contains-dedup e same ys q (Contains-permutation xs ys q moved (contains_from xs q t)))))

pub set_rises : (R : Query → Query → Ordering) → IsTotalOrder R → (E : Query → Query → Bool) → ((x y : Query) → E x y ≡ eq_by_cmp R x y) → (ys zs : List Query) → IsSorted R ys → zs ≡ dedup E ys
    → IsStrictlySortedBy R zs
set_rises R o E ties ys zs sorted left = subst (IsStrictlySortedBy R) (sym left) (IsStrictlySortedBy-dedup o ties ys sorted)
