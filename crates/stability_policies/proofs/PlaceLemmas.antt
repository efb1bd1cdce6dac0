-- The names of rows in order, and which row has a name next.
use Rattle.std.proofs.Common.{◌≡◌, ℕ, ◌<◌, ◌≤◌, Bool, true, false, List, [], ◌∷◌, ◌++◌, length, get_or, take, Some, None, Result, Ok, Err, nat_lt, refl, sym, ap, subst, ◌∙◌, arith, inl, inr, append_assoc, ◌&&◌, ◌||◌, ◌==◌, ◌⊎◌, Bor, Ordering, Less, Equal, Greater, bytes_eq}
use Rattle.std.specs.Cmp.{ranks, nat_cmp_is, IsTotalOrder, then_total, on_total, nat_cmp_total}
use Rattle.std.specs.Cmp.Lexicographic.{slice_cmp, on_texts, nat_list_cmp_total}
use Rattle.std.specs.FinMap.{slice_cmp-IsAntisymmetric, nat_cmp-IsAntisymmetric}
use Rattle.std.specs.List.{list_all, list_any, HoldsAt}
use Rattle.std.specs.List.Sorted.{IsBinarySearchResult, IsPartitionPoint, IsSearchInRange}
use Rattle.std.specs.Ordering.{is_lt, nat_cmp, ordering_reverse, ordering_then}
use Rattle.std.proofs.lemmas.Bool.{cases_lt, eqb-true, and_parts, false_from_ne_true, or_right}
use Rattle.std.proofs.lemmas.Bool.Decides.{nat_tests}
use Rattle.std.proofs.lemmas.List.{get_or_past, get_or_default}
use Rattle.std.proofs.lemmas.List.Folds.{Any-from_list_any, list_any_at, list_any-append}
use Rattle.std.proofs.lemmas.List.Sorted.{searchable_from_sorted, sorted_far}
use Rattle.std.proofs.lemmas.List.MinMax.{ranks_by}
use Rattle.std.proofs.lemmas.Map.Text.{is_eq-slice_cmp}
use Rattle.std.proofs.lemmas.Slice.Eq.{bytes_eq-Decides}
use Rattle.ucd_points.specs.PlainProofs.{equal_is}
use Rattle.ucd_points.specs.declared.files.SourceFile.{SourceFile}
use Rattle.ucd_points.specs.declared.files.SourceFile.TheVariants.{UnicodeData, PropList, Scripts, WordBreakProperty, CompositionExclusions, CaseFolding, SpecialCasing, PropertyAliases, PropertyValueAliases}
use Rattle.stability_policies.specs.Reports.{keeps_first, keeps_names, same_first}
use Rattle.stability_policies.specs.NamePlaces.{AreNames, IsNext, NoneFrom, entry_cmp, has_name, has_names, is_at, place_of}
use Rattle.stability_policies.proofs.PlainLemmas.{same_bytes}

abbrev pub Entry : Type 0
Entry = Bor (List ℕ) × ℕ

-- ---- the order

bytes_equal : (n : List ℕ) → slice_cmp nat_cmp n n ≡ Equal
bytes_equal n = equal_is (slice_cmp nat_cmp n n) (is_eq-slice_cmp n n ∙ (bytes_eq-Decides n n).1 refl)

less_is : (a b : ℕ) → nat_cmp a b ≡ Less → a < b
less_is a b h = let r = ranks a b in (rw h at r)

greater_is : (a b : ℕ) → nat_cmp a b ≡ Greater → b < a
greater_is a b h = let r = ranks a b in (rw h at r)

same_name : (a b : Entry) → a.0.now ≡ b.0.now → entry_cmp a b ≡ nat_cmp a.1 b.1
same_name a b same = ap (λ o. ordering_then o (nat_cmp a.1 b.1)) (ap (λ n. slice_cmp nat_cmp n b.0.now) same ∙ bytes_equal b.0.now)

tied : (o p : Ordering) → ordering_then o p ≡ Equal → (o ≡ Equal) × (p ≡ Equal)
tied Equal p h = (refl, h)
tied _ p h = absurd cc

-- what is greater by another name has the greater name
other_greater : (o p : Ordering) → ordering_then o p ≡ Greater → (o ≡ Equal → ⊥) → ordering_reverse o ≡ Less
other_greater Less p h other = absurd (cc)
other_greater Equal p h other = absurd (other refl)
other_greater Greater p h other = refl

pub entry_total : IsTotalOrder entry_cmp
entry_total = then_total (on_texts (λ (e : Entry). e.0.now)) (on_total (λ (e : Entry). e.1) nat_cmp_total)

-- ---- where a search for x ends

module _ (rows : List (List (List ℕ))) (entries : List Entry) (h : AreNames rows entries) (x : Entry) where
  abbrev pub Searched : ℕ → Type 0
  Searched i = ((i < length entries) × HoldsAt (λ (y : Entry). entry_cmp y x ≡ Equal) entries i) ⊎ IsPartitionPoint (λ (y : Entry). entry_cmp y x ≡ Less) (λ (y : Entry). entry_cmp y x ≡ Greater) entries i

  pub searched : (r : Result ℕ ℕ) → IsSearchInRange r (length entries) → IsBinarySearchResult (λ (y : Entry). entry_cmp y x) entries r → Searched (place_of r)
  searched (Ok i) bound is = inl (bound, is)
  searched (Err i) bound is = inr (is (searchable_from_sorted entry_total (λ (e : Entry). e) entries x h.ordered))

  -- the name stands at p in an entry, if the row there has it
  record Stands (p : ℕ) : Type 0 where
    place : ℕ
    entry : Entry
    inside : place < length entries
    at : get_or entries place entry ≡ entry
    named : entry.0.now ≡ x.0.now
    of : entry.1 ≡ p

  stands : (p : ℕ) → has_name rows x.0.now p ≡ true → Stands p
  stands p has =
      let found = Any-from_list_any (is_at x.0.now p) entries (h.whole x.0.now p ∙ has) in
      let is = and_parts (bytes_eq x.0.now found.1.0.now) (found.1.1 == p) found.4 in
      record { place = found.0; entry = found.1; inside = found.2; at = found.3; named = sym ((bytes_eq-Decides x.0.now found.1.0.now).0 is.0); of = eqb-true found.1.1 p is.1 }

  has_it : (i : ℕ) (a : Entry) → i < length entries → get_or entries i a ≡ a → a.0.now ≡ x.0.now → has_name rows x.0.now a.1 ≡ true
  has_it i a inside at named =
      let name : bytes_eq x.0.now a.0.now ≡ true = (bytes_eq-Decides x.0.now a.0.now).1 (sym named) in
      let place : (a.1 == a.1) ≡ true = grind (arith, nat_tests) in
      sym (h.whole x.0.now a.1) ∙ list_any_at (is_at x.0.now a.1) entries i a inside (ap (is_at x.0.now a.1) at ∙ ap (λ b. b && (a.1 == a.1)) name ∙ place)

  -- no row at p has the name, if no entry from i on tells it
  none_at : (i p : ℕ) → IsPartitionPoint (λ (y : Entry). entry_cmp y x ≡ Less) (λ (y : Entry). entry_cmp y x ≡ Greater) entries i → x.1 ≤ p
      → ((s : Stands p) → i ≤ s.place → ⊥) → has_name rows x.0.now p ≡ false
  none_at i p point le later = false_from_ne_true (has_name rows x.0.now p) (λ has.
      let s = stands p has in
      elim (cases_lt s.place i) [
        | inl before ↦
            let less : entry_cmp s.entry x ≡ Less = subst (λ (e : Entry). entry_cmp e x ≡ Less) s.at (point.0 s.place s.entry (omega arith) before) in
            let low : s.entry.1 < x.1 = less_is s.entry.1 x.1 (sym (same_name s.entry x s.named) ∙ less) in
            absurd (let of = s.of in omega (arith, low, le, of))
        | inr from ↦ later s from
      ])

  -- entries from i on are not less than the one at i
  not_less : (i : ℕ) (a : Entry) → get_or entries i a ≡ a → (p : ℕ) (s : Stands p) → i ≤ s.place → is_lt (entry_cmp s.entry a) ≡ false
  not_less i a at p s from =
      let far = sorted_far (λ (y z : Entry). is_lt (entry_cmp y z)) (ranks_by entry_total (λ (e : Entry). e)) entries h.ordered i s.place a from s.inside in
      let there : get_or entries s.place a ≡ s.entry = get_or_default entries s.place a s.entry s.inside ∙ s.at in
      rw (at, there) at far

  pub next_past : (i : ℕ) → Searched i → length entries ≤ i → IsNext (has_name rows x.0.now) x.1 None
  next_past i (inl on) past = absurd (let lt = on.0 in omega (arith, lt, past))
  next_past i (inr point) past = λ p le. none_at i p point le (λ s from. let lt = s.inside in omega (arith, lt, past, from))

  pub next_other : (i : ℕ) (a : Entry) → i < length entries → get_or entries i a ≡ a → Searched i → bytes_eq a.0.now x.0.now ≡ false → IsNext (has_name rows x.0.now) x.1 None
  next_other i a inside at (inl on) other =
      let equal : entry_cmp a x ≡ Equal = subst (λ (e : Entry). entry_cmp e x ≡ Equal) at (on.1 a) in
      let name : a.0.now ≡ x.0.now = slice_cmp-IsAntisymmetric nat_cmp-IsAntisymmetric a.0.now x.0.now (tied (slice_cmp nat_cmp a.0.now x.0.now) (nat_cmp a.1 x.1) equal).0 in
      let yes : bytes_eq a.0.now x.0.now ≡ true = (bytes_eq-Decides a.0.now x.0.now).1 name in
      absurd (cc)
  next_other i a inside at (inr point) other =
      let greater : entry_cmp a x ≡ Greater = subst (λ (e : Entry). entry_cmp e x ≡ Greater) at (point.1 i a (omega arith) inside) in
      let apart : slice_cmp nat_cmp a.0.now x.0.now ≡ Equal → ⊥ = λ e. (let yes : bytes_eq a.0.now x.0.now ≡ true = (bytes_eq-Decides a.0.now x.0.now).1 (slice_cmp-IsAntisymmetric nat_cmp-IsAntisymmetric a.0.now x.0.now e) in cc) in
      let below : slice_cmp nat_cmp x.0.now a.0.now ≡ Less = nat_list_cmp_total.antisymm x.0.now a.0.now ∙ other_greater _ _ greater apart in
      λ p le. none_at i p point le (λ s from.
      let less : entry_cmp s.entry a ≡ Less = ap (λ o. ordering_then o (nat_cmp s.entry.1 a.1)) (ap (λ n. slice_cmp nat_cmp n a.0.now) s.named ∙ below) in
      let not : is_lt (entry_cmp s.entry a) ≡ false = not_less i a at p s from in
      let yes : is_lt (entry_cmp s.entry a) ≡ true = ap is_lt less in
      cc)

  pub next_same : (i : ℕ) (a : Entry) → i < length entries → get_or entries i a ≡ a → Searched i → bytes_eq a.0.now x.0.now ≡ true → IsNext (has_name rows x.0.now) x.1 (Some a.1)
  next_same i a inside at (inl on) same =
      let equal : entry_cmp a x ≡ Equal = subst (λ (e : Entry). entry_cmp e x ≡ Equal) at (on.1 a) in
      let here : a.1 ≡ x.1 = nat_cmp-IsAntisymmetric a.1 x.1 (tied (slice_cmp nat_cmp a.0.now x.0.now) (nat_cmp a.1 x.1) equal).1 in
      (omega (arith, here), has_it i a inside at ((bytes_eq-Decides a.0.now x.0.now).0 same), λ k le lt. absurd (omega (arith, here, le, lt)))
  next_same i a inside at (inr point) same =
      let name : a.0.now ≡ x.0.now = (bytes_eq-Decides a.0.now x.0.now).0 same in
      let greater : entry_cmp a x ≡ Greater = subst (λ (e : Entry). entry_cmp e x ≡ Greater) at (point.1 i a (omega arith) inside) in
      let above : x.1 < a.1 = greater_is a.1 x.1 (sym (same_name a x name) ∙ greater) in (
        omega (arith, above),
        has_it i a inside at name,
        λ k le lt. none_at i k point le (λ s from.
            let less : nat_cmp s.entry.1 a.1 ≡ Less = sym (nat_cmp_is s.entry.1 a.1 Less (let of = s.of in omega (arith, lt, of))) in
            let not : is_lt (entry_cmp s.entry a) ≡ false = not_less i a at k s from in
            let yes : is_lt (entry_cmp s.entry a) ≡ true = ap is_lt (same_name s.entry a (s.named ∙ sym name) ∙ less) in
            cc),
      )

-- past the last row stands no name
none_past : (rows : List (List (List ℕ))) (name : List ℕ) (p : ℕ) → length rows ≤ p → has_name rows name p ≡ false
none_past rows name p past = ap (list_any (bytes_eq name)) (get_or_past rows p [] past)

pub all_rows : (rows : List (List (List ℕ))) (i p : ℕ) (name : List ℕ) → length rows ≤ i → (nat_lt p i && has_name rows name p) ≡ has_name rows name p
all_rows rows i p name past = elim (cases_lt p i) [
  | inl lt ↦ let less : nat_lt p i ≡ true = grind (arith, nat_tests) in ap (λ b. b && has_name rows name p) less
  | inr ge ↦ let less : nat_lt p i ≡ false = grind (arith, nat_tests) in ap (λ b. b && has_name rows name p) less ∙ sym (none_past rows name p (omega (arith, past, ge)))
]

-- ---- all of some names

module _ (rows : List (List (List ℕ))) (names : List (List ℕ)) where
  -- the names before i stand at the place, if it is start; and no row from start up to the place has all names
  pub record Reaches (start i place : ℕ) : Type 0 where
    pub none : NoneFrom (has_names rows names) start place
    pub here : ((place ≡ start) × (list_all (λ name. has_name rows name start) (take i names) ≡ true)) ⊎ ((start < place) × (place < length rows))

-- ---- rows that keep the names

module _ (file : SourceFile) (rows : List (List (List ℕ))) (names : List (List ℕ)) where
  -- no row before start keeps them
  abbrev pub NoneBefore : ℕ → Type 0
  NoneBefore start = (k : ℕ) → k < start → keeps_names file names (get_or rows k []) ≡ false

  loses : (b all : Bool) → all ≡ false → (b && all) ≡ false
  loses true all not = not
  loses false all not = refl

  pub none_keeps : (start : ℕ) → NoneBefore start → length rows ≤ start → list_any (keeps_names file names) rows ≡ false
  none_keeps start none past = false_from_ne_true (list_any (keeps_names file names) rows) (λ some.
      let found = Any-from_list_any (keeps_names file names) rows some in
      let not = none found.0 (let lt = found.2 in omega (arith, lt, past)) in
      let at : get_or rows found.0 [] ≡ found.1 = get_or_default rows found.0 [] found.1 found.2 ∙ found.3 in
      let yes : keeps_names file names (get_or rows found.0 []) ≡ true = ap (keeps_names file names) at ∙ found.4 in
      cc)

  pub before_more : (start place : ℕ) → NoneBefore start → NoneFrom (has_names rows names) start place → NoneBefore place
  before_more start place none from k lt = elim (cases_lt k start) [
    | inl before ↦ none k before
    | inr later ↦ loses (keeps_first file names (get_or rows k [])) (has_names rows names k) (from k later lt)
  ]

  pub no_more : (start : ℕ) → NoneBefore start → ((k : ℕ) → start ≤ k → has_names rows names k ≡ false) → list_any (keeps_names file names) rows ≡ false
  no_more start none from = none_keeps (length rows) (λ k lt. elim (cases_lt k start) [
    | inl before ↦ none k before
    | inr later ↦ loses (keeps_first file names (get_or rows k [])) (has_names rows names k) (from k later)
  ]) (omega arith)

-- ---- a row keeps its own names

all_among : (front names : List (List ℕ)) → list_all (λ name. list_any (bytes_eq name) (front ++ names)) names ≡ true
all_among front [] = refl
all_among front (name ∷ names) =
    let here : list_any (bytes_eq name) (front ++ name ∷ names) ≡ true =
    list_any-append (bytes_eq name) front (name ∷ names) ∙ or_right (list_any (bytes_eq name) front) (list_any (bytes_eq name) (name ∷ names)) (ap (λ b. b || list_any (bytes_eq name) names) (same_bytes name)) in
    ap (λ b. b && list_all (λ n. list_any (bytes_eq n) (front ++ name ∷ names)) names) here
    ∙ subst (λ all. list_all (λ n. list_any (bytes_eq n) all) names ≡ true) (append_assoc front (name ∷ []) names) (all_among (front ++ name ∷ []) names)

own_first : (names : List (List ℕ)) → same_first names names ≡ true
own_first [] = refl
own_first (name ∷ names) = same_bytes name

keeps_own_first : (file : SourceFile) (names : List (List ℕ)) → keeps_first file names names ≡ true
keeps_own_first UnicodeData names = refl
keeps_own_first PropList names = refl
keeps_own_first Scripts names = refl
keeps_own_first WordBreakProperty names = refl
keeps_own_first CompositionExclusions names = refl
keeps_own_first CaseFolding names = refl
keeps_own_first SpecialCasing names = refl
keeps_own_first PropertyAliases names = refl
keeps_own_first PropertyValueAliases names = own_first names

own_names : (file : SourceFile) (names : List (List ℕ)) → keeps_names file names names ≡ true
own_names file names = ap (λ b. b && list_all (λ name. list_any (bytes_eq name) names) names) (keeps_own_first file names) ∙ all_among [] names

pub row_keeps : (file : SourceFile) (rows : List (List (List ℕ))) (names : List (List ℕ)) (k : ℕ) → k < length rows → names ≡ get_or rows k names → list_any (keeps_names file names) rows ≡ true
row_keeps file rows names k lt is = list_any_at (keeps_names file names) rows k names lt (ap (keeps_names file names) (sym is) ∙ own_names file names)
