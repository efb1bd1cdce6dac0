-- Proof that rows that are kept are apart.
-- values_apart           the law ValuesAreApart
-- values_apart_within    where rows are apart, those of them that pass a test are
-- onto_append            a row that may be there, put before rows and others
-- rows_append            the rows of items and one more
-- no_overlap             where neither K1 nor K4 is broken, no other row overlaps
use Rattle.std.proofs.Common.{◌≡◌, ℕ, Bool, true, false, cond, List, [], ◌∷◌, ◌++◌, filter, Option, Some, None, refl, sym, ap, subst, ◌∙◌, arith, nat_le, append-nil}
use Rattle.std.specs.List.{list_any}
use Rattle.std.proofs.lemmas.Bool.{true≢false, and_parts, and_from, or_parts, or_from}
use Rattle.std.proofs.lemmas.Bool.Decides.{nat_tests}
use Rattle.std.proofs.lemmas.List.Folds.{list_any-append}
use Rattle.ucd_points.specs.MissingLines.{takes_missing}
use Rattle.ucd_points.specs.declared.files.SourceFile.TheVariants.{UnicodeData, PropList, Scripts, WordBreakProperty, CompositionExclusions, CaseFolding, SpecialCasing, PropertyAliases, PropertyValueAliases}
use Rattle.ucd_facts.specs.Values.{gives_some}
use Rattle.ucd_facts.specs.declared.row.ValueRow.{ValueRow}
use Rattle.ucd_facts.specs.declared.row.Row.TheVariants.{Unit as DataLine, Value as ValueLine, Exclusion as ExclusionLine, Fold as FoldLine, Casing as CasingLine, Alias as AliasLine, Missing as MissingLine}
use Rattle.release_rows.specs.FileItems.{FileItem, rows_in, onto_rows, SourceFile, Row}
use Rattle.release_rows.specs.Keys.{overlaps, same_key, spans_meet}
use Rattle.release_rows.specs.Releases.{AreKept, AreKeptBelow, IsKept}
use Rattle.release_rows.specs.ValuesApart.{AreApart, AreValuesApart, ValuesAreApart}
use Rattle.release_rows.specs.declared.conflict.Conflict.TheVariants.{K1, K4}

-- ---- rows that pass a test, where two that pass it overlap

pub onto_append : (o : Option Row) (xs ys : List Row) → onto_rows o (xs ++ ys) ≡ onto_rows o xs ++ ys
onto_append None xs ys = refl
onto_append (Some x) xs ys = refl

pub rows_append : (above : List FileItem) (item : FileItem) → rows_in (above ++ item ∷ []) ≡ rows_in above ++ onto_rows item.row []
rows_append [] item = refl
rows_append (a ∷ above) item = ap (onto_rows a.row) (rows_append above item) ∙ onto_append a.row (rows_in above) (onto_rows item.row [])

pub no_overlap : (k o : Bool) → cond k (Some K1) (cond o (Some K4) None) ≡ None → o ≡ false
no_overlap true o h = absurd cc
no_overlap false true h = absurd cc
no_overlap false false h = refl

module _ (file : SourceFile) (test : Row → Bool) (both_overlap : (a b : Row) → test a ≡ true → test b ≡ true → overlaps file a b ≡ true) where
  -- a row that passes and overlaps none above it: none above it passes
  none_above : (row : Row) (above : List Row) → test row ≡ true → list_any (overlaps file row) above ≡ false → list_any test above ≡ false
  none_above row [] h free = refl
  none_above row (a ∷ above) h free =
      let p = or_parts (overlaps file row a) (list_any (overlaps file row) above) free in
      or_from _ _ (by (test a) refl p.0) (none_above row above h p.1)
    where
      by : (t : Bool) → test a ≡ t → overlaps file row a ≡ false → test a ≡ false
      by true e apart = absurd (true≢false (sym (both_overlap row a h e) ∙ apart))
      by false e apart = e

  -- where a row above passes, none of these does; and they are apart
  record Below (above rows : List Row) : Type 0 where
    none : list_any test above ≡ true → list_any test rows ≡ false
    apart : AreApart test rows

  below_step : (row : Row) (above rows : List Row) → list_any (overlaps file row) above ≡ false → Below (above ++ row ∷ []) rows → Below above (row ∷ rows)
  below_step row above rows free later =
      let split = list_any-append test above (row ∷ []) in
      record {
        none = λ some. or_from _ _ (here (test row) refl some) (later.none (split ∙ rw some refl));
        apart = (λ passes. later.none (split ∙ rw (none_above row above passes free, passes) refl), later.apart);
      }
    where
      here : (t : Bool) → test row ≡ t → list_any test above ≡ true → test row ≡ false
      here true e some = absurd (true≢false (sym some ∙ none_above row above e free))
      here false e some = e

  kept_below : (above items : List FileItem) → AreKeptBelow file above items → Below (rows_in above) (rows_in items)
  kept_below above [] kept = record { none = λ some. refl; apart = tt }
  kept_below above (item ∷ items) kept = by item.row kept.0 (subst (λ rows. Below rows (rows_in items)) (rows_append above item) (kept_below (above ++ item ∷ []) items kept.1))
    where
      with_row : Option Row → FileItem
      with_row row = record { content = item.content; ending = item.ending; lines = item.lines; row = row }

      by : (row : Option Row) → IsKept file above (with_row row) → Below (rows_in above ++ onto_rows row []) (rows_in items) → Below (rows_in above) (onto_rows row (rows_in items))
      by None kept later = subst (λ rows. Below rows (rows_in items)) (append-nil (rows_in above)) later
      by (Some row) kept later = below_step row (rows_in above) (rows_in items) (no_overlap (list_any (same_key file row) (rows_in above)) (list_any (overlaps file row) (rows_in above)) kept.stands) later

  kept_apart : (items : List FileItem) → AreKept file items → AreApart test (rows_in items)
  kept_apart items kept = (kept_below [] items kept).apart

-- ---- rows with a value

-- two rows with a value overlap where their spans meet
by_spans : (file : SourceFile) → takes_missing file ≡ true → (a b : ValueRow) → spans_meet a.span b.span ≡ true → overlaps file (ValueLine a) (ValueLine b) ≡ true
by_spans Scripts takes a b meet = meet
by_spans WordBreakProperty takes a b meet = meet
by_spans UnicodeData takes a b meet = absurd cc
by_spans PropList takes a b meet = absurd cc
by_spans CompositionExclusions takes a b meet = absurd cc
by_spans CaseFolding takes a b meet = absurd cc
by_spans SpecialCasing takes a b meet = absurd cc
by_spans PropertyAliases takes a b meet = absurd cc
by_spans PropertyValueAliases takes a b meet = absurd cc

le_chain : (x y z : ℕ) → nat_le x y ≡ true → nat_le y z ≡ true → nat_le x z ≡ true
le_chain x y z h k = grind (arith, nat_tests)

both_overlap : (file : SourceFile) → takes_missing file ≡ true → (c : ℕ) (a b : Row) → gives_some c a ≡ true → gives_some c b ≡ true → overlaps file a b ≡ true
both_overlap file takes c (ValueLine a) (ValueLine b) h k =
    let p = and_parts (nat_le a.span.lo c) (nat_le c a.span.hi) h in
    let q = and_parts (nat_le b.span.lo c) (nat_le c b.span.hi) k in
    by_spans file takes a b (and_from _ _ (le_chain a.span.lo c b.span.hi p.0 q.1) (le_chain b.span.lo c a.span.hi q.0 p.1))
both_overlap file takes c (ValueLine a) (DataLine b) h k = absurd (true≢false (sym k))
both_overlap file takes c (ValueLine a) (ExclusionLine b) h k = absurd (true≢false (sym k))
both_overlap file takes c (ValueLine a) (FoldLine b) h k = absurd (true≢false (sym k))
both_overlap file takes c (ValueLine a) (CasingLine b) h k = absurd (true≢false (sym k))
both_overlap file takes c (ValueLine a) (AliasLine b) h k = absurd (true≢false (sym k))
both_overlap file takes c (ValueLine a) (MissingLine b) h k = absurd (true≢false (sym k))
both_overlap file takes c (DataLine a) b h k = absurd (true≢false (sym h))
both_overlap file takes c (ExclusionLine a) b h k = absurd (true≢false (sym h))
both_overlap file takes c (FoldLine a) b h k = absurd (true≢false (sym h))
both_overlap file takes c (CasingLine a) b h k = absurd (true≢false (sym h))
both_overlap file takes c (AliasLine a) b h k = absurd (true≢false (sym h))
both_overlap file takes c (MissingLine a) b h k = absurd (true≢false (sym h))

pub values_apart : ValuesAreApart
values_apart file takes items kept c = kept_apart file (gives_some c) (both_overlap file takes c) items kept

-- ---- some of the rows

-- none of them passes where none of all does
none_of_some : (test t : Row → Bool) (rows : List Row) → list_any test rows ≡ false → list_any test (filter t rows) ≡ false
none_of_some test t [] none = refl
none_of_some test t (row ∷ rows) none =
    let p = or_parts (test row) (list_any test rows) none in
    by (t row) p.0 (none_of_some test t rows p.1)
  where
    by : (b : Bool) → test row ≡ false → list_any test (filter t rows) ≡ false → list_any test (cond b (row ∷ filter t rows) (filter t rows)) ≡ false
    by true here rest = or_from _ _ here rest
    by false here rest = rest

apart_within : (test t : Row → Bool) (rows : List Row) → AreApart test rows → AreApart test (filter t rows)
apart_within test t [] apart = tt
apart_within test t (row ∷ rows) apart = by (t row) (apart_within test t rows apart.1)
  where
    by : (b : Bool) → AreApart test (filter t rows) → AreApart test (cond b (row ∷ filter t rows) (filter t rows))
    by true rest = (λ passes. none_of_some test t rows (apart.0 passes), rest)
    by false rest = rest

pub values_apart_within : (t : Row → Bool) (rows : List Row) → AreValuesApart rows → AreValuesApart (filter t rows)
values_apart_within t rows apart c = apart_within (gives_some c) t rows (apart c)
