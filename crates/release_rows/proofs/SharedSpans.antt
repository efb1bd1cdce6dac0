-- Missing rows share their spans: they stand against no row of another key.
use Rattle.std.proofs.Common.{◌≡◌, ◌⊎◌, ℕ, Bool, true, false, not, eqb, leb, ◌&&◌, List, [], ◌∷◌, refl, ◌∙◌, inl, inr, arith, codes, bytes_eq}
use Rattle.std.proofs.lemmas.Bool.Decides.{nat_tests}
use Rattle.std.proofs.Math.Bool.{and-false}
use Rattle.ucd_facts.specs.Names.{status_code}
use Rattle.ucd_points.specs.declared.files.SourceFile.TheVariants.{PropList}
use Rattle.ucd_facts.specs.declared.row.ValueRow.{ValueRow}
use Rattle.ucd_facts.specs.declared.row.Row.TheVariants.{Unit as DataLine, Value as ValueLine, Exclusion as ExclusionLine, Fold as FoldLine, Casing as CasingLine, Alias as AliasLine, Missing as MissingLine}
use Rattle.source_rows.specs.Keys.{row_span, condition_names, value_names, missing_names, key_names, same_texts}
use Rattle.release_rows.specs.Keys.{has_spans, is_missing_row, own_end, SourceFile, Row}
use Rattle.release_rows.specs.Operations.{overlaps_another}
use Rattle.release_rows.specs.OperationLaws.{MissingRowsOverlapNothing}
use Rattle.release_rows.proofs.RowsApart.{keys_swap, overlaps_swap, texts_swap}
use Rattle.release_rows.proofs.RowRules.{both_ways}

-- ---- names of other rows

one_name : (n : List ℕ) (c : ℕ) → same_texts (n ∷ []) (missing_names c) ≡ false
one_name n c = and-false (bytes_eq n (codes "@missing"))

conditions : (cs : List ℕ) (c : ℕ) → same_texts (condition_names cs) (missing_names c) ≡ false
conditions [] c = refl
conditions (b ∷ bs) c = one_name (b ∷ bs) c

value : (file : SourceFile) (bs : List ℕ) (c : ℕ) → same_texts (value_names file bs) (missing_names c) ≡ false
value PropList bs c = one_name bs c
value _ bs c = refl

-- a row of another kind has other names, or is a row of names, which has no code points
other_kind : (file : SourceFile) (row : Row) (c : ℕ) → is_missing_row row ≡ false → (same_texts (key_names file row) (missing_names c) ≡ false) ⊎ (((row_span row).lo ≡ 0) × (own_end row ≡ 0))
other_kind file (DataLine row) c h = inl refl
other_kind file (ValueLine row) c h = inl (value file row.value c)
other_kind file (ExclusionLine row) c h = inl refl
other_kind file (FoldLine row) c h = inl (one_name (status_code row.status ∷ []) c)
other_kind file (CasingLine row) c h = inl (conditions row.conditions c)
other_kind file (AliasLine row) c h = inr (refl, refl)
other_kind file (MissingLine row) c h = absurd cc

-- ---- a missing row against every row

-- rows that share their first code point alone, and have one key then
point_free : (spans names : Bool) (a b : ℕ) → (not (names && eqb a b) && (spans && (names && (leb a b && leb b a)))) ≡ false
point_free spans false a b = and-false spans
point_free spans true a b = rw (both_ways a b) (by (eqb a b) spans)
  where
    by : (e s : Bool) → (not e && (s && e)) ≡ false
    by true s = refl
    by false s = and-false s

names_free : (file : SourceFile) (m : ValueRow) (r : Row) → is_missing_row r ≡ false → overlaps_another file (MissingLine m) r ≡ false
names_free file m r h = elim (other_kind file r m.span.hi h) [
  | inl other ↦ rw (texts_swap (missing_names m.span.hi) (key_names file r) ∙ other) (and-false (has_spans file))
  | inr none ↦ rw (none.0, none.1) (point_free (has_spans file) (same_texts (missing_names m.span.hi) (key_names file r)) m.span.lo 0)
]

free : (file : SourceFile) (m : ValueRow) (r : Row) → overlaps_another file (MissingLine m) r ≡ false
free file m (DataLine r) = names_free file m (DataLine r) refl
free file m (ValueLine r) = names_free file m (ValueLine r) refl
free file m (ExclusionLine r) = names_free file m (ExclusionLine r) refl
free file m (FoldLine r) = names_free file m (FoldLine r) refl
free file m (CasingLine r) = names_free file m (CasingLine r) refl
free file m (AliasLine r) = names_free file m (AliasLine r) refl
free file m (MissingLine r) = point_free (has_spans file) (same_texts (missing_names m.span.hi) (missing_names r.span.hi)) m.span.lo r.span.lo

pub missing_free : (file : SourceFile) (row r : Row) → is_missing_row row ≡ true → overlaps_another file row r ≡ false
missing_free file (MissingLine m) r h = free file m r
missing_free file (DataLine row) r h = absurd cc
missing_free file (ValueLine row) r h = absurd cc
missing_free file (ExclusionLine row) r h = absurd cc
missing_free file (FoldLine row) r h = absurd cc
missing_free file (CasingLine row) r h = absurd cc
missing_free file (AliasLine row) r h = absurd cc

pub missing_overlaps_nothing : MissingRowsOverlapNothing
missing_overlaps_nothing file row other h =
    let none = missing_free file row other h in
    (none, rw (keys_swap file other row, overlaps_swap file other row) none)

-- ---- every other row against a missing row: the whole span of the missing row may be looked at

abbrev stands_against : Bool → Bool → ℕ → ℕ → ℕ → ℕ → Bool
stands_against names code first last other_first other_last = not (names && code) && (names && (leb first other_last && leb other_first last))

at_zero : (names : Bool) (lo hi : ℕ) → stands_against names (eqb 0 lo) 0 0 lo hi ≡ stands_against names (eqb 0 lo) 0 0 lo lo
at_zero false lo hi = refl
at_zero true lo hi = grind (arith, nat_tests)

pub own_meets : (file : SourceFile) (row r : Row) → is_missing_row row ≡ false → stands_against (same_texts (key_names file row) (key_names file r)) (eqb (row_span row).lo (row_span r).lo) (row_span row).lo (own_end row) (row_span r).lo (row_span r).hi ≡ stands_against (same_texts (key_names file row) (key_names file r)) (eqb (row_span row).lo (row_span r).lo) (row_span row).lo (own_end row) (row_span r).lo (own_end r)
own_meets file row (DataLine r) h = refl
own_meets file row (ValueLine r) h = refl
own_meets file row (ExclusionLine r) h = refl
own_meets file row (FoldLine r) h = refl
own_meets file row (CasingLine r) h = refl
own_meets file row (AliasLine r) h = refl
own_meets file row (MissingLine r) h = elim (other_kind file row r.span.hi h) [
  | inl other ↦ rw other refl
  | inr none ↦ rw (none.0, none.1) (at_zero (same_texts (key_names file row) (missing_names r.span.hi)) r.span.lo r.span.hi)
]
