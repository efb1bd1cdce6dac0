-- The first field and the fields behind it.
use Rattle.std.proofs.Common.{◌≡◌, ℕ, ◌+◌, ◌-◌, List, [], ◌∷◌, length, ◌<◌, refl, ap, arith, inl, inr}
use Rattle.std.specs.List.{slice_split, position_or_len, before_first, after_first, count_by}
use Rattle.std.proofs.lemmas.Bool.{cases_lt}
use Rattle.std.proofs.lemmas.Bool.Decides.{nat_tests}
use Rattle.std.proofs.lemmas.List.{take_all, drop_all, length-map}
use Rattle.std.proofs.lemmas.List.Splits.{slice_split_first, length-slice_split}
use Rattle.ucd_points.specs.Fields.{trim, field, is_semicolon}
use Rattle.source_rows.specs.Fields.{fields_of}
use Rattle.ucd_lines.specs.Cuts.{split_whole}

field_next : (f : List ℕ) (fs : List (List ℕ)) (n : ℕ) → field (f ∷ fs) (n + 1) ≡ field fs n
field_next f fs n = grind (arith, nat_tests)

field_empty : (n : ℕ) → field ([] ∷ []) n ≡ []
field_empty n = grind (arith, nat_tests)

pub first_is : (text : List ℕ) → field (fields_of text) 0 ≡ trim (before_first is_semicolon text)
first_is text =
    elim (cases_lt (position_or_len is_semicolon text) (length text)) [
      | inl lt ↦ rw (slice_split_first is_semicolon text 0 lt) refl
      | inr le ↦ rw (split_whole is_semicolon text le, take_all (position_or_len is_semicolon text) text le) refl
    ]

pub others_are : (text : List ℕ) (n : ℕ) → field (fields_of text) (n + 1) ≡ field (fields_of (after_first is_semicolon text)) n
others_are text n =
    elim (cases_lt (position_or_len is_semicolon text) (length text)) [
      | inl lt ↦ rw (slice_split_first is_semicolon text 0 lt) (field_next (trim (before_first is_semicolon text)) (fields_of (after_first is_semicolon text)) n)
      | inr le ↦
          let none : after_first is_semicolon text ≡ [] = drop_all (position_or_len is_semicolon text + 1) text (omega arith) in
          rw (split_whole is_semicolon text le, none, field_empty n) (field_next (trim text) [] n)
    ]

pub count_is : (text : List ℕ) → length (fields_of text) ≡ count_by is_semicolon text + 1
count_is text = omega (arith, length-map (slice_split is_semicolon text) trim, length-slice_split is_semicolon text)

pub one_is : (text : List ℕ) → length (fields_of text) ≡ 1 → fields_of text ≡ trim (before_first is_semicolon text) ∷ []
one_is text h =
    elim (cases_lt (position_or_len is_semicolon text) (length text)) [
      | inl lt ↦ absurd (omega (arith, h, count_is text, ap length (slice_split_first is_semicolon text 0 lt), length-slice_split is_semicolon text, length-slice_split is_semicolon (after_first is_semicolon text)))
      | inr le ↦ rw (split_whole is_semicolon text le, take_all (position_or_len is_semicolon text) text le) refl
    ]

pub more_is : (text : List ℕ) → 1 < length (fields_of text) → fields_of text ≡ trim (before_first is_semicolon text) ∷ fields_of (after_first is_semicolon text)
more_is text h =
    elim (cases_lt (position_or_len is_semicolon text) (length text)) [
      | inl lt ↦ rw (slice_split_first is_semicolon text 0 lt) refl
      | inr le ↦ absurd (omega (arith, h, count_is text, ap length (split_whole is_semicolon text le), length-slice_split is_semicolon text))
    ]

-- a cut takes one separator, where there is any
pub fewer_are : (text : List ℕ) → count_by is_semicolon (after_first is_semicolon text) ≡ count_by is_semicolon text - 1
fewer_are text =
    elim (cases_lt (position_or_len is_semicolon text) (length text)) [
      | inl lt ↦ omega (arith, ap length (slice_split_first is_semicolon text 0 lt), length-slice_split is_semicolon text, length-slice_split is_semicolon (after_first is_semicolon text))
      | inr le ↦
          let none : after_first is_semicolon text ≡ [] = drop_all (position_or_len is_semicolon text + 1) text (omega arith) in
          rw none (omega (arith, ap length (split_whole is_semicolon text le), length-slice_split is_semicolon text))
    ]
