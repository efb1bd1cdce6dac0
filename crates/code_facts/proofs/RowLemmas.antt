-- Rows of UnicodeData.txt, and the row that covers a code point.
use Rattle.std.proofs.Common.{◌≡◌, ℕ, zero, suc, ◌+◌, ◌<◌, Bool, true, false, cond, ◌&&◌, leb, List, [], ◌∷◌, ◌++◌, length, take, get_or, filter, find, Option, Some, None, refl, ap, subst, ◌∙◌, append_assoc, arith}
use Rattle.std.specs.List.{list_any}
use Rattle.std.proofs.lemmas.List.{take_more, append-nil}
use Rattle.std.proofs.lemmas.List.Elements.{filter-append}
use Rattle.std.proofs.lemmas.Bool.Decides.{nat_tests}
use Rattle.std.proofs.lemmas.Bool.{or_parts}
use Rattle.ucd_facts.specs.Facts.{is_data_of, within, data_in, data_row}
use Rattle.ucd_points.specs.declared.files.SourceFile.{SourceFile}
use Rattle.ucd_points.specs.declared.files.SourceFile.TheVariants.{UnicodeData}
use Rattle.ucd_facts.specs.declared.row.Row.{Row}
use Rattle.ucd_facts.specs.declared.row.DataRow.{DataRow}
use Rattle.ucd_facts.specs.declared.row.Row.TheVariants.{Unit as DataLine, Value as ValueLine, Exclusion as ExclusionLine, Fold as FoldLine, Casing as CasingLine, Alias as AliasLine, Missing as MissingLine}
use Rattle.release_rows.specs.Keys.{key_rule, same_key, overlaps}
use Rattle.release_rows.specs.FileItems.{FileItem, rows_in, onto_rows}
use Rattle.release_rows.specs.Releases.{AreKept, AreKeptBelow}
use Rattle.release_rows.specs.declared.conflict.Conflict.TheVariants.{K1, K4}
use Rattle.code_facts.specs.Rows.{Apart}

-- ---- rows that do not overlap

no_second_rule : (any overlap : Bool) → cond any (Some K1) (cond overlap (Some K4) None) ≡ None → overlap ≡ false
no_second_rule true overlap e = absurd cc
no_second_rule false true e = absurd cc
no_second_rule false false e = refl

two_spans : (c a b d e : ℕ) → (leb a c && leb c b) ≡ true → (leb a e && leb d b) ≡ false → (leb d c && leb c e) ≡ false
two_spans c a b d e inside meet = grind (arith, nat_tests)

no_cover_one : (c : ℕ) (row : DataRow) (other : Row) → within c row.span ≡ true → overlaps UnicodeData (DataLine row) other ≡ false → is_data_of c other ≡ false
no_cover_one c row (DataLine x) inside apart = two_spans c row.span.lo row.span.hi x.span.lo x.span.hi inside apart
no_cover_one c row (ValueLine x) inside apart = refl
no_cover_one c row (ExclusionLine x) inside apart = refl
no_cover_one c row (FoldLine x) inside apart = refl
no_cover_one c row (CasingLine x) inside apart = refl
no_cover_one c row (AliasLine x) inside apart = refl
no_cover_one c row (MissingLine x) inside apart = refl

no_cover : (c : ℕ) (row : DataRow) (above : List Row) → within c row.span ≡ true → list_any (overlaps UnicodeData (DataLine row)) above ≡ false → find (is_data_of c) above ≡ None
no_cover c row [] inside apart = refl
no_cover c row (a ∷ above) inside apart =
    let parts = or_parts (overlaps UnicodeData (DataLine row) a) (list_any (overlaps UnicodeData (DataLine row)) above) apart in
    rw (no_cover_one c row a inside parts.0) (no_cover c row above inside parts.1)

none_above : (c : ℕ) (above : List Row) (row : Row) → key_rule UnicodeData above row ≡ None → is_data_of c row ≡ true → find (is_data_of c) above ≡ None
none_above c above (DataLine row) free inside = no_cover c row above inside (no_second_rule (list_any (same_key UnicodeData (DataLine row)) above) (list_any (overlaps UnicodeData (DataLine row)) above) free)
none_above c above (ValueLine row) free inside = absurd cc
none_above c above (ExclusionLine row) free inside = absurd cc
none_above c above (FoldLine row) free inside = absurd cc
none_above c above (CasingLine row) free inside = absurd cc
none_above c above (AliasLine row) free inside = absurd cc
none_above c above (MissingLine row) free inside = absurd cc

-- ---- the rows of items that are kept

onto_append : (p : Option Row) (xs ys : List Row) → onto_rows p (xs ++ ys) ≡ onto_rows p xs ++ ys
onto_append None xs ys = refl
onto_append (Some x) xs ys = refl

rows_push_by : (above : List FileItem) (item : FileItem) (o : Option Row) → item.row ≡ o → rows_in (above ++ item ∷ []) ≡ rows_in above ++ onto_rows o []
rows_push_by [] item None e = rw e refl
rows_push_by [] item (Some row) e = rw e refl
rows_push_by (a ∷ above) item o e = ap (onto_rows a.row) (rows_push_by above item o e) ∙ onto_append a.row (rows_in above) (onto_rows o [])

abbrev FreeFrom : SourceFile → List Row → List Row → Type 0
FreeFrom file above rows = (i : ℕ) (d : Row) → i < length rows → key_rule file (above ++ take i rows) (get_or rows i d) ≡ None

free_cons : (file : SourceFile) (above : List Row) (row : Row) (rows : List Row) → key_rule file above row ≡ None → FreeFrom file (above ++ row ∷ []) rows → FreeFrom file above (row ∷ rows)
free_cons file above row rows here rest zero d h = rw (append-nil above) here
free_cons file above row rows here rest (suc i) d h = rw (← append_assoc above (row ∷ []) (take i rows)) (rest i d (omega arith))

free_by : (file : SourceFile) (above : List FileItem) (item : FileItem) (items : List FileItem) (o : Option Row) → item.row ≡ o → AreKeptBelow file above (item ∷ items) → FreeFrom file (rows_in (above ++ item ∷ [])) (rows_in items) → FreeFrom file (rows_in above) (rows_in (item ∷ items))
free_by file above item items None e kept rest = rw e (let same = rows_push_by above item None e ∙ append-nil (rows_in above) in subst (λ (xs : List Row). FreeFrom file xs (rows_in items)) same rest)
free_by file above item items (Some row) e kept rest =
    let here : key_rule file (rows_in above) row ≡ None = rw e at kept.0.stands in
    rw e (free_cons file (rows_in above) row (rows_in items) here (subst (λ (xs : List Row). FreeFrom file xs (rows_in items)) (rows_push_by above item (Some row) e) rest))

kept_free : (file : SourceFile) (above items : List FileItem) → AreKeptBelow file above items → FreeFrom file (rows_in above) (rows_in items)
kept_free file above [] kept = λ i d h. absurd (omega arith)
kept_free file above (item ∷ items) kept = free_by file above item items item.row refl kept (kept_free file (above ++ item ∷ []) items kept.1)

pub kept_apart : (items : List FileItem) → AreKept UnicodeData items → Apart (rows_in items)
kept_apart items kept i c other h covers = none_above c (take i (rows_in items)) (get_or (rows_in items) i other) (kept_free UnicodeData [] items kept i other h) covers

-- what passes a test of rows that are apart is apart

none_kept : {X : Type 0} (p : X → Bool) (x : X) (xs : List X) (b : Bool) → p x ≡ false → find p xs ≡ None → find p (cond b (x ∷ xs) xs) ≡ None
none_kept p x xs true e rest = rw e rest
none_kept p x xs false e rest = rest

none_by : {X : Type 0} (p : X → Bool) (x : X) (xs ys : List X) (t b : Bool) → p x ≡ b → find p (x ∷ xs) ≡ None → (find p xs ≡ None → find p ys ≡ None) → find p (cond t (x ∷ ys) ys) ≡ None
none_by p x xs ys t true e none rest = absurd (let bad : Some x ≡ None = rw e at none in cc)
none_by p x xs ys t false e none rest = none_kept p x ys t e (rest (rw e at none))

none_within : {X : Type 0} (p t : X → Bool) (xs : List X) → find p xs ≡ None → find p (filter t xs) ≡ None
none_within p t [] none = refl
none_within p t (x ∷ xs) none = none_by p x xs (filter t xs) (t x) (p x) refl none (none_within p t xs)

abbrev ApartFrom : List Row → List Row → Type 0
ApartFrom above rows = (i c : ℕ) (other : Row) → i < length rows → is_data_of c (get_or rows i other) ≡ true → find (is_data_of c) (above ++ take i rows) ≡ None

apart_rest : (above : List Row) (row : Row) (rows : List Row) → ApartFrom above (row ∷ rows) → ApartFrom (above ++ row ∷ []) rows
apart_rest above row rows apart i c other lt is = rw (append_assoc above (row ∷ []) (take i rows)) (apart (suc i) c other (omega (arith, lt)) is)

apart_put : (above : List Row) (row : Row) (rows : List Row) → ((c : ℕ) → is_data_of c row ≡ true → find (is_data_of c) above ≡ None) → ApartFrom (above ++ row ∷ []) rows → ApartFrom above (row ∷ rows)
apart_put above row rows here rest zero c other lt is = rw (append-nil above) (here c is)
apart_put above row rows here rest (suc i) c other lt is = rw (← append_assoc above (row ∷ []) (take i rows)) (rest i c other (omega (arith, lt)) is)

apart_kept : (t : Row → Bool) (above : List Row) (row : Row) (rows : List Row) (b : Bool) → t row ≡ b → ((c : ℕ) → is_data_of c row ≡ true → find (is_data_of c) (filter t above) ≡ None)
    → ApartFrom (filter t (above ++ row ∷ [])) (filter t rows) → ApartFrom (filter t above) (cond b (row ∷ filter t rows) (filter t rows))
apart_kept t above row rows true e here rest =
    apart_put (filter t above) row (filter t rows) here (subst (λ (xs : List Row). ApartFrom xs (filter t rows)) (filter-append t above (row ∷ []) ∙ ap (λ b. filter t above ++ cond b (row ∷ []) []) e) rest)
apart_kept t above row rows false e here rest =
    subst (λ (xs : List Row). ApartFrom xs (filter t rows)) (filter-append t above (row ∷ []) ∙ ap (λ b. filter t above ++ cond b (row ∷ []) []) e ∙ append-nil (filter t above)) rest

apart_filter : (t : Row → Bool) (above rows : List Row) → ApartFrom above rows → ApartFrom (filter t above) (filter t rows)
apart_filter t above [] apart = λ i c other lt is. absurd (omega (arith, lt))
apart_filter t above (row ∷ rows) apart =
    apart_kept t above row rows (t row) refl
    (λ c is. none_within (is_data_of c) t above (rw append-nil at (apart 0 c row (omega arith) is)))
    (apart_filter t (above ++ row ∷ []) rows (apart_rest above row rows apart))

pub apart_within : (t : Row → Bool) (rows : List Row) → Apart rows → Apart (filter t rows)
apart_within t rows apart = apart_filter t [] rows apart

-- ---- the row that covers a code point

find_push_by : {X : Type 0} (p : X → Bool) (x : X) (xs : List X) (y : X) (b : Bool) → p x ≡ b → (find p xs ≡ None → find p (xs ++ y ∷ []) ≡ cond (p y) (Some y) None) → find p (x ∷ xs) ≡ None → find p (x ∷ (xs ++ y ∷ [])) ≡ cond (p y) (Some y) None
find_push_by p x xs y true t rest none = absurd (let bad : Some x ≡ None = rw t at none in cc)
find_push_by p x xs y false t rest none = rw t (rest (rw t at none))

find_push : {X : Type 0} (p : X → Bool) (xs : List X) (y : X) → find p xs ≡ None → find p (xs ++ y ∷ []) ≡ cond (p y) (Some y) None
find_push p [] y e = refl
find_push p (x ∷ xs) y e = find_push_by p x xs y (p x) refl (find_push p xs y) e

find_other : {X : Type 0} (p : X → Bool) (xs : List X) (y : X) → p y ≡ false → find p (xs ++ y ∷ []) ≡ find p xs
find_other p [] y e = rw e refl
find_other p (x ∷ xs) y e = ap (λ o. cond (p x) (Some x) o) (find_other p xs y e)

data_step_by : (rows : List Row) (i c : ℕ) (row : Row) (b : Bool) → is_data_of c row ≡ b → (is_data_of c row ≡ true → find (is_data_of c) (take i rows) ≡ None)
    → data_in (find (is_data_of c) (take i rows ++ row ∷ [])) ≡ cond b (data_in (Some row)) (data_row (take i rows) c)
data_step_by rows i c row true e free = ap data_in (find_push (is_data_of c) (take i rows) row (free e) ∙ ap (λ t. cond t (Some row) None) e)
data_step_by rows i c row false e free = ap data_in (find_other (is_data_of c) (take i rows) row e)

-- one more row covers its own points, and the others stay
pub data_step : (rows : List Row) (i c : ℕ) (d : Row) → Apart rows → i < length rows → data_row (take (i + 1) rows) c ≡ cond (is_data_of c (get_or rows i d)) (data_in (Some (get_or rows i d))) (data_row (take i rows) c)
data_step rows i c d apart h =
    rw (take_more rows i d h) (data_step_by rows i c (get_or rows i d) (is_data_of c (get_or rows i d)) refl (apart i c d h))
