-- Tags of rows: rows of one key have one tag, rows of one group too, and tags do not descend where keys ascend.
use Rattle.std.proofs.Common.{◌≡◌, ℕ, ◌-◌, ◌<◌, ◌≤◌, ◌⊎◌, Bool, true, false, leb, ltb, ◌&&◌, ◌||◌, List, [], ◌∷◌, take, suc, refl, sym, ap, subst, ◌∙◌, inl, inr, arith, bytes_eq, Ordering, Less, Equal, Greater}
use Rattle.std.specs.Cmp.Lexicographic.{slice_cmp}
use Rattle.std.specs.Cmp.{nat_cmp_is}
use Rattle.std.specs.Ordering.{ordering_then, nat_cmp, is_eq, is_lt}
use Rattle.std.proofs.lemmas.Bool.{and_parts, cases_lt, eq-eqb}
use Rattle.std.proofs.lemmas.Bool.Decides.{nat_tests}
use Rattle.std.proofs.lemmas.Map.Text.{is_eq-slice_cmp}
use Rattle.std.proofs.lemmas.Slice.Eq.{bytes_eq-Decides}
use Rattle.ucd_points.specs.PlainProofs.{equal_is}
use Rattle.ucd_points.specs.Fields.{field, fields}
use Rattle.ucd_points.specs.declared.files.SourceFile.{SourceFile}
use Rattle.ucd_points.specs.declared.files.SourceFile.TheVariants.{UnicodeData, PropList, Scripts, WordBreakProperty, CompositionExclusions, CaseFolding, SpecialCasing, PropertyAliases, PropertyValueAliases}
use Rattle.source_rows.specs.KeyNames.{content_group, content_names, names_cmp}
use Rattle.release_rows.specs.Searches.{has_names, is_of_group, is_row}
use Rattle.release_rows.specs.Tags.{HasTag, behind_first, content_tag, digit, end_of, first_digit, is_inner, key_tag, number, tag_fits, tag_rises, tells_group, tells_key, tells_order}
use Rattle.release_rows.proofs.ConditionTags.{conditions_number}
use Rattle.release_rows.proofs.Texts.{is_eq-then}

-- ---- texts in order

-- a text that is not behind another one
abbrev UpTo : List ℕ → List ℕ → Type 0
UpTo [] y = Unit {0}
UpTo (a ∷ x) [] = ⊥
UpTo (a ∷ x) (b ∷ y) = (a < b) ⊎ ((a ≡ b) × UpTo x y)

abbrev is_up : Ordering → Bool
is_up Less = true
is_up Equal = true
is_up Greater = false

up_first : (a b : ℕ) (o : Ordering) → is_up (ordering_then (nat_cmp a b) o) ≡ true → (a < b) ⊎ ((a ≡ b) × (is_up o ≡ true))
up_first a b o h =
    elim (cases_lt a b) [
      | inl below ↦ inl below
      | inr above ↦ elim (cases_lt b a) [
        | inl greater ↦ let k = (rw (← nat_cmp_is a b Greater greater) at h) in absurd cc
        | inr equal ↦ let same : a ≡ b = omega arith in inr (same, (rw (← nat_cmp_is a b Equal same) at h))
      ]
    ]

up_to : (x y : List ℕ) → is_up (slice_cmp nat_cmp x y) ≡ true → UpTo x y
up_to [] y h = tt
up_to (a ∷ x) [] h = absurd cc
up_to (a ∷ x) (b ∷ y) h =
    elim (up_first a b (slice_cmp nat_cmp x y) h) [
      | inl below ↦ inl below
      | inr same ↦ inr (same.0, up_to x y same.1)
    ]

less_up : (o p : Ordering) → is_lt (ordering_then o p) ≡ true → is_up o ≡ true
less_up Less p h = refl
less_up Equal p h = refl
less_up Greater p h = absurd cc

first_up : (a b : List (List ℕ)) → is_lt (names_cmp a b) ≡ true → UpTo (field a 0) (field b 0)
first_up [] b h = tt
first_up (x ∷ a) [] h = absurd cc
first_up (x ∷ a) (y ∷ b) h = up_to x y (less_up (slice_cmp nat_cmp x y) (names_cmp a b) h)

itself : (x : List ℕ) → slice_cmp nat_cmp x x ≡ Equal
itself x = equal_is (slice_cmp nat_cmp x x) (is_eq-slice_cmp x x ∙ (bytes_eq-Decides x x).1 refl)

second_up : (a b : List (List ℕ)) → field a 0 ≡ field b 0 → is_lt (names_cmp a b) ≡ true → UpTo (field a 1) (field b 1)
second_up [] b same h = tt
second_up (x ∷ a) [] same h = absurd cc
second_up (x ∷ a) (y ∷ b) same h = first_up a b (rw (← same, itself x) at h)

-- ---- their numbers

abbrev IsLow : ℕ → Type 0
IsLow b = (b < 48) × (digit b ≡ 0) × (is_inner b ≡ false)

abbrev IsHigh : ℕ → Type 0
IsHigh b = (122 < b) × (digit b ≡ 76) × (is_inner b ≡ false)

abbrev IsInner : ℕ → Type 0
IsInner b = (47 < b) × (b < 123) × (digit b ≡ b - 47)

kinds : (b : ℕ) → IsLow b ⊎ (IsInner b ⊎ IsHigh b)
kinds b =
    elim (cases_lt b 48) [
      | inl low ↦ inl (low, grind (arith, nat_tests), grind (arith, nat_tests))
      | inr above ↦ elim (cases_lt b 123) [
        | inl inner ↦ inr (inl (omega arith, inner, grind (arith, nat_tests)))
        | inr high ↦ inr (inr (omega arith, grind (arith, nat_tests), grind (arith, nat_tests)))
      ]
    ]

digit_few : (b : ℕ) → digit b ≤ 76
digit_few b =
    elim (kinds b) [
      | inl low ↦ omega (arith, low.1)
      | inr more ↦ elim more [
        | inl inner ↦ omega (arith, inner.0, inner.1, inner.2)
        | inr high ↦ omega (arith, high.1)
      ]
    ]

few : (bs : List ℕ) → first_digit bs ≤ 76
few [] = omega arith
few (b ∷ bs) = digit_few b

abbrev Up : List ℕ → List ℕ → Type 0
Up x y = (first_digit x < first_digit y) ⊎ ((first_digit x ≡ first_digit y) × UpTo (behind_first x) (behind_first y))

stops : (x bs : List ℕ) (b : ℕ) → is_inner b ≡ false → UpTo (behind_first (b ∷ bs)) x
stops x bs b h = rw h tt

or_equal : (x y : List ℕ) → first_digit x ≤ first_digit y → UpTo (behind_first x) (behind_first y) → Up x y
or_equal x y le rest =
    elim (cases_lt (first_digit x) (first_digit y)) [
      | inl below ↦ inl below
      | inr above ↦ inr (omega arith, rest)
    ]

below_up : (a b : ℕ) (x y : List ℕ) → a < b → Up (a ∷ x) (b ∷ y)
below_up a b x y lt =
    elim (kinds a) [
      | inl low ↦ or_equal (a ∷ x) (b ∷ y) (omega (arith, low.1)) (stops _ x a low.2)
      | inr more ↦ elim more [
        | inl inner ↦ elim (kinds b) [
          | inl low ↦ absurd (omega (arith, low.0, inner.0, lt))
          | inr other ↦ elim other [
            | inl within ↦ inl (omega (arith, lt, inner.0, inner.2, within.2))
            | inr high ↦ inl (omega (arith, inner.1, inner.2, high.1))
          ]
        ]
        | inr high ↦ elim (kinds b) [
          | inl low ↦ absurd (omega (arith, low.0, high.0, lt))
          | inr other ↦ elim other [
            | inl within ↦ absurd (omega (arith, within.1, high.0, lt))
            | inr top ↦ or_equal (a ∷ x) (b ∷ y) (omega (arith, high.1, top.1)) (stops _ x a high.2)
          ]
        ]
      ]
    ]

same_up : (b : ℕ) (x y : List ℕ) (inner : Bool) → is_inner b ≡ inner → UpTo x y → UpTo (behind_first (b ∷ x)) (behind_first (b ∷ y))
same_up b x y true is h = rw is h
same_up b x y false is h = rw is tt

step_up : (x y : List ℕ) → UpTo x y → Up x y
step_up [] y h = or_equal [] y (omega arith) tt
step_up (a ∷ x) [] h = absurd h
step_up (a ∷ x) (b ∷ y) h =
    elim h [
      | inl below ↦ below_up a b x y below
      | inr same ↦ subst (λ (n : ℕ). Up (a ∷ x) (n ∷ y)) same.0 (inr (refl, same_up a x y (is_inner a) refl same.1))
    ]

abbrev second : List ℕ → List ℕ
second x = behind_first x

abbrev third : List ℕ → List ℕ
third x = behind_first (behind_first x)

abbrev fourth : List ℕ → List ℕ
fourth x = behind_first (behind_first (behind_first x))

abbrev fifth : List ℕ → List ℕ
fifth x = behind_first (behind_first (behind_first (behind_first x)))

-- of two texts, the one that is behind the other has no lesser number
pub number_up : (x y : List ℕ) → UpTo x y → number x ≤ number y
number_up x y h =
    elim (step_up x y h) [
      | inl lt ↦ omega (arith, lt, few (second x), few (third x), few (fourth x), few (fifth x))
      | inr e ↦ elim (step_up (second x) (second y) e.1) [
        | inl lt ↦ omega (arith, e.0, lt, few (third x), few (fourth x), few (fifth x))
        | inr f ↦ elim (step_up (third x) (third y) f.1) [
          | inl lt ↦ omega (arith, e.0, f.0, lt, few (fourth x), few (fifth x))
          | inr g ↦ elim (step_up (fourth x) (fourth y) g.1) [
            | inl lt ↦ omega (arith, e.0, f.0, g.0, lt, few (fifth x))
            | inr i ↦ elim (step_up (fifth x) (fifth y) i.1) [
              | inl lt ↦ omega (arith, e.0, f.0, g.0, i.0, lt)
              | inr j ↦ omega (arith, e.0, f.0, g.0, i.0, j.0)
            ]
          ]
        ]
      ]
    ]

-- ---- the tag of a content is that of its names

first_taken : (n : ℕ) (fs : List (List ℕ)) → field fs 0 ≡ field (take (suc n) fs) 0
first_taken n [] = refl
first_taken n (f ∷ fs) = refl

second_taken : (n : ℕ) (fs : List (List ℕ)) → field fs 1 ≡ field (take (suc (suc n)) fs) 1
second_taken n [] = refl
second_taken n (f ∷ fs) = first_taken n fs

pub tag_of : (file : SourceFile) (c : List ℕ) → HasTag file (content_tag file c) (content_names file c) (content_group file c)
unfolding content_tag
tag_of UnicodeData c = record { by_key = λ h. absurd cc; by_group = λ h. absurd cc; name = tt }
tag_of PropList c = record { by_key = λ h. refl; by_group = λ h. refl; name = tt }
tag_of Scripts c = record { by_key = λ h. absurd cc; by_group = λ h. refl; name = tt }
tag_of WordBreakProperty c = record { by_key = λ h. absurd cc; by_group = λ h. refl; name = tt }
tag_of CompositionExclusions c = record { by_key = λ h. absurd cc; by_group = λ h. absurd cc; name = tt }
tag_of CaseFolding c = record { by_key = λ h. absurd cc; by_group = λ h. absurd cc; name = tt }
tag_of SpecialCasing c = record { by_key = λ h. conditions_number SpecialCasing c 4; by_group = λ h. absurd cc; name = tt }
tag_of PropertyAliases c = record { by_key = λ h. ap number (first_taken 1 (fields PropertyAliases c)); by_group = λ h. absurd cc; name = tt }
tag_of PropertyValueAliases c = record {
  by_key = λ h. ap number (second_taken 1 (fields PropertyValueAliases c));
  by_group = λ h. absurd cc;
  name = first_taken 2 (fields PropertyValueAliases c);
}

-- ---- what tags tell

pub guarded : (g b : Bool) → (b ≡ true → g ≡ true) → (g && b) ≡ b
guarded true b h = refl
guarded false true h = absurd (let k = h refl in cc)
guarded false false h = refl

fits_by : (told : Bool) (a b : ℕ) → (told ≡ true → a ≡ b) → tag_fits told a b ≡ true
fits_by true a b h = rw (h refl) (eq-eqb b b refl)
fits_by false a b h = refl

pub names_same : (a b : List (List ℕ)) → is_eq (names_cmp a b) ≡ true → a ≡ b
names_same [] [] h = refl
names_same [] (y ∷ b) h = absurd cc
names_same (x ∷ a) [] h = absurd cc
names_same (x ∷ a) (y ∷ b) h =
    let both = and_parts (is_eq (slice_cmp nat_cmp x y)) (is_eq (names_cmp a b)) (sym (is_eq-then (slice_cmp nat_cmp x y) (names_cmp a b)) ∙ h) in
    rw ((bytes_eq-Decides x y).0 (sym (is_eq-slice_cmp x y) ∙ both.0), names_same a b both.1) refl

-- a row that has the names has the tag
pub key_fits : (file : SourceFile) (a b : ℕ) (names : List (List ℕ)) (c : List ℕ) → (tells_key file ≡ true → a ≡ key_tag file names) → HasTag file b (content_names file c) (content_group file c) → has_names file names c ≡ true → tag_fits (tells_key file) a b ≡ true
key_fits file a b names c sought stored h =
    let same = names_same names (content_names file c) (and_parts (is_row file c) (is_eq (names_cmp names (content_names file c))) h).1 in
    fits_by (tells_key file) a b (λ told. sought told ∙ ap (key_tag file) same ∙ sym (stored.by_key told))

-- so has a row of the group
pub group_fits : (file : SourceFile) (a b : ℕ) (names : List (List ℕ)) (group c : List ℕ) → HasTag file a names group → HasTag file b (content_names file c) (content_group file c) → is_of_group file group c ≡ true → tag_fits (tells_group file) a b ≡ true
group_fits file a b names group c sought stored h =
    let same = (bytes_eq-Decides group (content_group file c)).0 (and_parts (is_row file c) (bytes_eq group (content_group file c)) h).1 in
    fits_by (tells_group file) a b (λ told. sought.by_group told ∙ ap (λ (x : List ℕ). number (end_of x)) same ∙ sym (stored.by_group told))

-- ---- and in order

rises_if : (x y a b : ℕ) → (x < y) ⊎ (a ≤ b) → (ltb x y || leb a b) ≡ true
rises_if x y a b h =
    elim h [
      | inl below ↦ grind (arith, nat_tests)
      | inr rest ↦ grind (arith, nat_tests)
    ]

lt_first : (x y : ℕ) (o : Ordering) → is_lt (ordering_then (nat_cmp x y) o) ≡ true → (x < y) ⊎ (is_lt o ≡ true)
lt_first x y o h =
    elim (cases_lt x y) [
      | inl below ↦ inl below
      | inr above ↦ elim (cases_lt y x) [
        | inl greater ↦ let k = (rw (← nat_cmp_is x y Greater greater) at h) in absurd cc
        | inr equal ↦ let same : x ≡ y = omega arith in inr (rw (← nat_cmp_is x y Equal same) at h)
      ]
    ]

with_names : (x y a b : ℕ) (o : Ordering) → is_lt (ordering_then (nat_cmp x y) o) ≡ true → (is_lt o ≡ true → a ≤ b) → (ltb x y || leb a b) ≡ true
with_names x y a b o h up =
    elim (lt_first x y o h) [
      | inl below ↦ rises_if x y a b (inl below)
      | inr less ↦ rises_if x y a b (inr (up less))
    ]

rises : (file : SourceFile) (x y a b : ℕ) (names others : List (List ℕ)) (group : List ℕ) → HasTag file a names group → HasTag file b others group → is_lt (ordering_then (nat_cmp x y) (names_cmp names others)) ≡ true → tag_rises (tells_order file) x y a b ≡ true
rises UnicodeData x y a b names others group s e h = refl
rises PropList x y a b names others group s e h = refl
rises Scripts x y a b names others group s e h = refl
rises WordBreakProperty x y a b names others group s e h = refl
rises CompositionExclusions x y a b names others group s e h = refl
rises CaseFolding x y a b names others group s e h = refl
rises SpecialCasing x y a b names others group s e h =
    with_names x y a b (names_cmp names others) h (λ less. rw (s.by_key refl, e.by_key refl) (number_up (field names 0) (field others 0) (first_up names others less)))
rises PropertyAliases x y a b names others group s e h =
    with_names x y a b (names_cmp names others) h (λ less. rw (s.by_key refl, e.by_key refl) (number_up (field names 0) (field others 0) (first_up names others less)))
rises PropertyValueAliases x y a b names others group s e h =
    with_names x y a b (names_cmp names others) h (λ less. rw (s.by_key refl, e.by_key refl) (number_up (field names 1) (field others 1) (second_up names others (sym s.name ∙ e.name) less)))

-- a row of the group with a greater key has no lesser tag
pub order_rises : (file : SourceFile) (x y a b : ℕ) (names : List (List ℕ)) (group c : List ℕ) → HasTag file a names group → HasTag file b (content_names file c) (content_group file c) → (is_of_group file group c && is_lt (ordering_then (nat_cmp x y) (names_cmp names (content_names file c)))) ≡ true → tag_rises (tells_order file) x y a b ≡ true
order_rises file x y a b names group c s e h =
    let both = and_parts (is_of_group file group c) (is_lt (ordering_then (nat_cmp x y) (names_cmp names (content_names file c)))) h in
    let same = (bytes_eq-Decides group (content_group file c)).0 (and_parts (is_row file c) (bytes_eq group (content_group file c)) both.0).1 in
    rises file x y a b names (content_names file c) group s (subst (λ (g : List ℕ). HasTag file b (content_names file c) g) (sym same) e) both.1
