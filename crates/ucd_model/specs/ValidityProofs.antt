-- Proofs of the laws of a valid release.
--
-- valid_is_unbroken, broken_is_least, valid_expands, endless_has_chain, hidden_has_lesser, valid_pair_is_single
--                       the laws of the same names
-- broken-none           a code point that has its record breaks no rule
-- broken-some           a code point with a rule in place of its record breaks that rule first
-- HasRecord-none        a code point that breaks no rule has its record
-- KeepsRules F c        c breaks none of the five rules, one by one
-- broken-rules          a code point that breaks no rule keeps each of them
-- first_broken-valid    in a valid release no code point is found
-- first_broken-least    the least code point without a record is found, with its first rule
use Rattle.std.proofs.Common.{◌≡◌, ℕ, zero, suc, ◌<◌, Bool, true, false, if◌then◌else◌, ◌≢◌, List, [], ◌∷◌, length, slice_index_or, Option, Some, None, is_some, Ok, Err, find, refl, sym, ap, subst, ◌∙◌, arith, ◌⊎◌, inl, inr, option_map}
use Rattle.std.specs.List.{Contains, range_with_len}
use Rattle.std.proofs.lemmas.Bool.{cases_lt, and_parts, and_from, or_parts, true≢false}
use Rattle.std.proofs.lemmas.Bool.Decides.{nat_tests}
use Rattle.ucd_points.specs.Limits.{point_count}
use Rattle.ucd_facts.specs.Facts.{Facts}
use Rattle.ucd_facts.specs.Expansion.{counted, both, joined, alone_or_joined, expand, full, judged, expansion}
use Rattle.ucd_facts.specs.Composites.{primary, pair_of}
use Rattle.ucd_facts.specs.CompositeLaws.{Composes, IsPair}
use Rattle.ucd_facts.specs.CompositeProofs.{Least, find_least, find_first, find_none_below, pair_is_least}
use Rattle.ucd_model.specs.Records.{Record, record_at, record_or_rule, derived}
use Rattle.ucd_model.specs.Validity.{lacks_a_row, is_none, is_endless, is_long, is_too_long, composite_of, is_other, is_hidden, is_unfolded, broken, broken_at, first_broken}
use Rattle.ucd_model.specs.ValidityLaws.{HasRecord, IsValid, IsLeastBroken, IsChain, HasLesser, ValidIsUnbroken, BrokenIsLeast, ValidExpands, EndlessHasChain, HiddenHasLesser, ValidPairIsSingle}
use Rattle.ucd_facts.specs.declared.form.Bad.{Bad as Rule}
use Rattle.ucd_facts.specs.declared.form.Bad.TheVariants.{V1, V2, V3, V4, V5}
use Rattle.ucd_facts.specs.declared.form.Broken.{Broken}

-- ---- records and rules

record_or_rule-ok : (R S : Record) (b : Option Rule) → record_or_rule R b ≡ Ok S → b ≡ None
record_or_rule-ok R S None e = refl
record_or_rule-ok R S (Some rule) e = cc

record_or_rule-err : (R : Record) (rule : Rule) (b : Option Rule) → record_or_rule R b ≡ Err rule → b ≡ Some rule
record_or_rule-err R rule None e = cc
record_or_rule-err R rule (Some other) e = let same : other ≡ rule = cc in ap (λ (r : Rule). Some r) same

pub broken-none : (F : ℕ → Facts) (c : ℕ) → HasRecord F c → broken F c ≡ None
broken-none F c has = record_or_rule-ok (record_at F c) has.0 (broken F c) has.1

pub broken-some : (F : ℕ → Facts) (c : ℕ) (rule : Rule) → derived F c ≡ Err rule → broken F c ≡ Some rule
broken-some F c rule e = record_or_rule-err (record_at F c) rule (broken F c) e

pub HasRecord-none : (F : ℕ → Facts) (c : ℕ) → broken F c ≡ None → HasRecord F c
HasRecord-none F c e = (record_at F c, ap (record_or_rule (record_at F c)) e)

-- ---- the least code point that breaks a rule

none_from : (b : Option Rule) → is_some b ≡ false → b ≡ None
none_from None e = refl
none_from (Some rule) e = absurd (true≢false e)

abbrev broken_by : ℕ → Rule → Broken
broken_by c rule = record { point = c; rule = rule }

module _ (F : ℕ → Facts) where
  abbrev breaks : ℕ → Bool
  breaks k = is_some (broken F k)

  keeps_from : (k : ℕ) → HasRecord F k → breaks k ≡ false
  keeps_from k has = ap is_some (broken-none F k has)

  found_least : Least breaks 0 point_count (find breaks (range_with_len 0 point_count))
  found_least = find_least breaks 0 point_count point_count (omega arith)

  no_rule : (q : ℕ) (b : Option Rule) → is_some b ≡ true → option_map (broken_by q) b ≡ None → ⊥
  no_rule q None h e = true≢false (sym h)
  no_rule q (Some rule) h e = cc

  valid_from : (r : Option ℕ) → Least breaks 0 point_count r → broken_at F r ≡ None → IsValid F
  valid_from None least e = λ c lt. HasRecord-none F c (none_from (broken F c) (least c (omega arith) lt))
  valid_from (Some q) least e = absurd (no_rule q (broken F q) least.2 e)

  one_rule : (q : ℕ) (b : Broken) (o : Option Rule) → is_some o ≡ true → option_map (broken_by q) o ≡ Some b → (q ≡ b.point) × (o ≡ Some b.rule)
  one_rule q b None h e = absurd (true≢false (sym h))
  one_rule q b (Some rule) h e =
      let same : broken_by q rule ≡ b = cc in
      (ap (λ (x : Broken). x.point) same, ap (λ (x : Broken). Some x.rule) same)

  least_from : (b : Broken) (r : Option ℕ) → Least breaks 0 point_count r → broken_at F r ≡ Some b → IsLeastBroken F b
  least_from b None least e = cc
  least_from b (Some q) least e =
      let parts = one_rule q b (broken F q) least.2 e in
      record {
        point = subst (λ k. k < point_count) parts.0 least.1;
        rule = ap (record_or_rule (record_at F b.point)) (ap (broken F) (sym parts.0) ∙ parts.1);
        least = λ c lt. HasRecord-none F c (none_from (broken F c) (least.3 c (omega arith) (subst (λ k. c < k) (sym parts.0) lt)));
      }

  pub first_broken-valid : IsValid F → first_broken F ≡ None
  unfolding first_broken
  first_broken-valid valid = ap (broken_at F) (find_none_below breaks point_count (λ k lt. keeps_from k (valid k lt)))

  valid_where : first_broken F ≡ None → IsValid F
  unfolding first_broken
  valid_where e = valid_from (find breaks (range_with_len 0 point_count)) found_least e

  pub first_broken-least : (b : Broken) → IsLeastBroken F b → first_broken F ≡ Some b
  unfolding first_broken
  first_broken-least b least =
      let rule = broken-some F b.point b.rule least.rule in
      ap (broken_at F) (find_first breaks point_count b.point least.point (ap is_some rule) (λ k lt. keeps_from k (least.least k lt)))
      ∙ ap (option_map (broken_by b.point)) rule

  least_where : (b : Broken) → first_broken F ≡ Some b → IsLeastBroken F b
  unfolding first_broken
  least_where b e = least_from b (find breaks (range_with_len 0 point_count)) found_least e

pub valid_is_unbroken : ValidIsUnbroken
valid_is_unbroken F = (first_broken-valid F, valid_where F)

pub broken_is_least : BrokenIsLeast
broken_is_least F b = (least_where F b, first_broken-least F b)

-- ---- the rules one by one

pub record KeepsRules (F : ℕ → Facts) (c : ℕ) : Type 0 where
  pub rows : lacks_a_row F c ≡ false
  pub chains : is_endless F c ≡ false
  pub lengths : is_too_long F c ≡ false
  pub composites : is_hidden F c ≡ false
  pub folds : is_unfolded F c ≡ false

none_of : (v1 v2 v3 v4 v5 : Bool)
    → (if v1 then Some V1 else (if v2 then Some V2 else (if v3 then Some V3 else (if v4 then Some V4 else (if v5 then Some V5 else None))))) ≡ None
    → (v1 ≡ false) × (v2 ≡ false) × (v3 ≡ false) × (v4 ≡ false) × (v5 ≡ false)
none_of true v2 v3 v4 v5 e = cc
none_of false true v3 v4 v5 e = cc
none_of false false true v4 v5 e = cc
none_of false false false true v5 e = cc
none_of false false false false true e = cc
none_of false false false false false e = (refl, refl, refl, refl, refl)

pub broken-rules : (F : ℕ → Facts) (c : ℕ) → broken F c ≡ None → KeepsRules F c
unfolding broken
broken-rules F c e =
    let each = none_of (lacks_a_row F c) (is_endless F c) (is_too_long F c) (is_hidden F c) (is_unfolded F c) e in
    record { rows = each.0; chains = each.1; lengths = each.2; composites = each.3; folds = each.4 }

-- ---- expansions

judged_ok : (o : Option (List ℕ)) → is_none o ≡ false → is_long o ≡ false → (points : List ℕ) × (judged o ≡ Ok points)
judged_ok None some short = absurd (true≢false some)
judged_ok (Some points) some short = (points, rw short refl)

expands : (F : ℕ → Facts) (c : ℕ) (compat : Bool) → KeepsRules F c → (points : List ℕ) × (expansion F compat c ≡ Ok points)
expands F c false keeps = judged_ok (full F false c) (or_parts (is_none (full F false c)) (is_none (full F true c)) keeps.chains).0 (or_parts (is_long (full F false c)) (is_long (full F true c)) keeps.lengths).0
expands F c true keeps = judged_ok (full F true c) (or_parts (is_none (full F false c)) (is_none (full F true c)) keeps.chains).1 (or_parts (is_long (full F false c)) (is_long (full F true c)) keeps.lengths).1

pub valid_expands : ValidExpands
valid_expands F compat valid c lt = expands F c compat (broken-rules F c (broken-none F c (valid c lt)))

-- ---- chains

Contains-first : (x : ℕ) (xs : List ℕ) → Contains (x ∷ xs) x
Contains-first x xs = (0, omega arith, refl)

Contains-behind : (x d : ℕ) (xs : List ℕ) → Contains xs d → Contains (x ∷ xs) d
Contains-behind x d xs has = (suc has.0, omega (arith, has.1), has.2)

both_none : (a b : Option (List ℕ)) → both a b ≡ None → (a ≡ None) ⊎ (b ≡ None)
both_none None b e = inl refl
both_none (Some xs) None e = inr refl
both_none (Some xs) (Some ys) e = cc

none_both : (a : Option (List ℕ)) → both a None ≡ None
none_both None = refl
none_both (Some xs) = refl

module _ (f : ℕ → Option (List ℕ)) where
  joined_none : (xs : List ℕ) → joined f xs ≡ None → (d : ℕ) × Contains xs d × (f d ≡ None)
  joined_none [] e = cc
  joined_none (x ∷ xs) e =
      elim (both_none (f x) (joined f xs) e) [
        | inl here ↦ (x, Contains-first x xs, here)
        | inr rest ↦ let found = joined_none xs rest in (found.0, Contains-behind x found.0 xs found.1, found.2)
      ]

  none_joined : (xs : List ℕ) (k d : ℕ) → k < length xs → slice_index_or xs k d ≡ d → f d ≡ None → joined f xs ≡ None
  none_joined [] k d lt at e = absurd (omega (arith, lt))
  none_joined (x ∷ xs) zero d lt at e = ap (λ o. both o (joined f xs)) (ap f at ∙ e)
  none_joined (x ∷ xs) (suc k) d lt at e = ap (both (f x)) (none_joined xs k d (omega (arith, lt)) at e) ∙ none_both (f x)

  alone_none : (c : ℕ) (m : List ℕ) → alone_or_joined c m f ≡ None → (d : ℕ) × Contains m d × (f d ≡ None)
  alone_none c [] e = cc
  alone_none c (x ∷ xs) e = joined_none (x ∷ xs) e

  none_alone : (c : ℕ) (m : List ℕ) (d : ℕ) → Contains m d → f d ≡ None → alone_or_joined c m f ≡ None
  none_alone c [] d has e = absurd (omega (arith, has.1))
  none_alone c (x ∷ xs) d has e = none_joined (x ∷ xs) has.0 d has.1 has.2 e

module _ (F : ℕ → Facts) (compat : Bool) where
  chain_from : (n c : ℕ) → expand F compat n c ≡ None → (ds : List ℕ) × (length ds ≡ n) × IsChain F compat c ds
  chain_from zero c e = ([], refl, tt)
  chain_from (suc n) c e =
      let next = alone_none (expand F compat n) c (counted F compat c) e in
      let rest = chain_from n next.0 next.2 in
      (next.0 ∷ rest.0, ap suc rest.1, (next.1, rest.2))

  none_chain : (ds : List ℕ) (n c : ℕ) → length ds ≡ n → IsChain F compat c ds → expand F compat n c ≡ None
  none_chain [] zero c e chain = refl
  none_chain [] (suc n) c e chain = absurd (omega (arith, e))
  none_chain (d ∷ ds) zero c e chain = absurd (omega (arith, e))
  none_chain (d ∷ ds) (suc n) c e chain = none_alone (expand F compat n) c (counted F compat c) d chain.0 (none_chain ds n d (omega (arith, e)) chain.1)

  ends_where : (c : ℕ) → full F compat c ≡ None → (ds : List ℕ) × (length ds ≡ 8) × IsChain F compat c ds
  unfolding full
  ends_where c e = chain_from 8 c e

  where_ends : (c : ℕ) → (ds : List ℕ) × (length ds ≡ 8) × IsChain F compat c ds → full F compat c ≡ None
  unfolding full
  where_ends c chain = none_chain chain.0 8 c chain.1 chain.2

pub endless_has_chain : EndlessHasChain
endless_has_chain F compat c = (ends_where F compat c, where_ends F compat c)

-- ---- hidden composites

is_other-other : (c : ℕ) (o : Option ℕ) → is_other c o ≡ true → (q : ℕ) × (o ≡ Some q) × (q ≢ c)
is_other-other c None e = absurd (true≢false (sym e))
is_other-other c (Some q) e = (q, refl, λ same. grind (arith, nat_tests))

other_is_other : (c q : ℕ) → q < c → is_other c (Some q) ≡ true
other_is_other c q lt = grind (arith, nat_tests)

module _ (F : ℕ → Facts) where
  lesser_than : (s y c q : ℕ) → Composes F s y c → pair_of F s y ≡ Some q → q ≢ c → HasLesser F c
  lesser_than s y c q composes e other =
      let least = subst (IsPair F s y) e (pair_is_least F s y) in
      elim (cases_lt c q) [
        | inl lt ↦ absurd (least.1 c lt composes)
        | inr le ↦ (s, y, q, composes, least.0, grind (arith, le, other))
      ]

  hidden_pair : (c : ℕ) (m : List ℕ) → c < point_count → (F c).mapping ≡ m → primary F c ≡ true → is_other c (composite_of F m) ≡ true → HasLesser F c
  hidden_pair c (s ∷ y ∷ []) lt e is other =
      let found = is_other-other c (pair_of F s y) other in
      lesser_than s y c found.0 (record { point = lt; primary = is; mapping = e }) found.1 found.2
  hidden_pair c _ lt e is other = absurd (true≢false (sym other))

  hidden_from : (c : ℕ) → c < point_count → is_hidden F c ≡ true → HasLesser F c
  hidden_from c lt e =
      let parts = and_parts (primary F c) (is_other c (composite_of F (F c).mapping)) e in
      hidden_pair c (F c).mapping lt refl parts.0 parts.1

  other_pair : (s y c q : ℕ) (r : Option ℕ) → IsPair F s y r → Composes F s y q → q < c → is_other c r ≡ true
  other_pair s y c q None least composes lt = absurd (least q composes)
  other_pair s y c q (Some r) least composes lt =
      elim (cases_lt q r) [
        | inl below ↦ absurd (least.1 q below composes)
        | inr le ↦ other_is_other c r (omega (arith, le, lt))
      ]

  hidden_shown : (c : ℕ) → HasLesser F c → is_hidden F c ≡ true
  hidden_shown c (s, y, q, own, lesser, lt) =
      and_from (primary F c) (is_other c (composite_of F (F c).mapping)) own.primary
      (ap (λ m. is_other c (composite_of F m)) own.mapping ∙ other_pair s y c q (pair_of F s y) (pair_is_least F s y) lesser lt)

  none_lesser : IsValid F → (s y q r : ℕ) → Composes F s y q → Composes F s y r → q < r → ⊥
  none_lesser valid s y q r first second lt =
      true≢false (sym (hidden_shown r (s, y, q, second, first, lt)) ∙ (broken-rules F r (broken-none F r (valid r second.point))).composites)

pub hidden_has_lesser : HiddenHasLesser
hidden_has_lesser F c lt = (hidden_from F c lt, hidden_shown F c)

pub valid_pair_is_single : ValidPairIsSingle
valid_pair_is_single F valid s y q r first second =
    elim (cases_lt q r) [
      | inl lt ↦ absurd (none_lesser F valid s y q r first second lt)
      | inr le ↦ elim (cases_lt r q) [
        | inl lt ↦ absurd (none_lesser F valid s y r q second first lt)
        | inr ge ↦ omega (arith, le, ge)
      ]
    ]
