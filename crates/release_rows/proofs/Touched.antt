-- Outside of what an operation touches the rows stay.
use Rattle.std.proofs.Common.{◌≡◌, ℕ, Bool, true, false, cond, not, List, [], ◌∷◌, ◌++◌, map, take, drop, Option, Some, None, refl, sym, ap, ◌∙◌, take-append-drop}
use Rattle.std.specs.List.{filter, list_any, flat_map}
use Rattle.std.proofs.lemmas.Bool.{or_parts}
use Rattle.std.proofs.lemmas.List.Elements.{filter-append}
use Rattle.std.proofs.lemmas.List.Folds.{list_any-append}
use Rattle.ucd_points.specs.Bounds.{Bounds}
use Rattle.ucd_facts.specs.Facts.{within}
use Rattle.release_rows.specs.FileItems.{FileItem, rows_in, onto_rows, SourceFile, Row}
use Rattle.release_rows.specs.Keys.{same_key, overlaps}
use Rattle.release_rows.specs.Operations.{edited, row_passes, holds_row, has_key, overlaps_another, place_in, put_in, ended, added_item, changed_item, row_spans, spans_with}
use Rattle.release_rows.specs.OperationLaws.{RowsStay, speaks_of}
use Rattle.release_rows.specs.declared.key_rule.KeyRule.TheVariants.{K1, K2, K4}
use Rattle.release_rows.specs.declared.operation.Op.TheVariants.{Add, Change, Withdraw}
use Rattle.release_rows.proofs.RowsApart.{row_instead}
use Rattle.release_rows.proofs.Operations.{rows-append, rows-ended, rows_changed, rows_filter, passed, failed, items_are}

-- what the rows that pass speak of
abbrev spans_in : (Row → Bool) → List Row → List Bounds
spans_in p rows = flat_map row_spans (filter p rows)

spans_are : (p : Row → Bool) (items : List FileItem) → spans_with p items ≡ spans_in p (rows_in items)
spans_are p [] = refl
spans_are p (item ∷ items) = by item.row refl (spans_are p items)
  where
    also : (b : Bool) (r : Row) → p r ≡ b → item.row ≡ Some r → spans_with p items ≡ spans_in p (rows_in items) → spans_with p (item ∷ items) ≡ spans_in p (r ∷ rows_in items)
    also true r e h k = rw (h, e) (ap (λ (bs : List Bounds). row_spans r ++ bs) k)
    also false r e h k = rw (h, e) k

    by : (o : Option Row) → item.row ≡ o → spans_with p items ≡ spans_in p (rows_in items) → spans_with p (item ∷ items) ≡ spans_in p (onto_rows o (rows_in items))
    by None h k = rw h k
    by (Some r) h k = also (p r) r refl h k

-- of the first row what it speaks of, and of the others
spans_parts : (c : ℕ) (p : Row → Bool) (r : Row) (rows : List Row) (b : Bool) → p r ≡ b → list_any (within c) (spans_in p (r ∷ rows)) ≡ false → (b ≡ true → speaks_of c r ≡ false) × (list_any (within c) (spans_in p rows) ≡ false)
spans_parts c p r rows true e h =
    let k : list_any (within c) (row_spans r ++ spans_in p rows) ≡ false = (rw e at h) in
    let parts = or_parts _ _ (sym (list_any-append (within c) (row_spans r) (spans_in p rows)) ∙ k) in
    ((λ _. parts.0), parts.1)
spans_parts c p r rows false e h = let k : list_any (within c) (spans_in p rows) ≡ false = (rw e at h) in ((λ f. absurd cc), k)

-- ---- one row more

one_more : (c : ℕ) (xs : List Row) (row : Row) (ys : List Row) → speaks_of c row ≡ false → filter (speaks_of c) (xs ++ row ∷ ys) ≡ filter (speaks_of c) (xs ++ ys)
one_more c xs row ys h = filter-append (speaks_of c) xs (row ∷ ys) ∙ rw h (sym (filter-append (speaks_of c) xs ys))

-- ---- a row in the place of another

instead_by : (c : ℕ) (row r : Row) (rest more : List Row) (b s : Bool) → (b ≡ true → speaks_of c r ≡ false) → speaks_of c row ≡ false → speaks_of c r ≡ s → filter (speaks_of c) rest ≡ filter (speaks_of c) more → filter (speaks_of c) (cond b row r ∷ rest) ≡ filter (speaks_of c) (r ∷ more)
instead_by c row r rest more true s old new e k = rw (new, old refl) k
instead_by c row r rest more false true old new e k = rw e (ap (λ (rs : List Row). r ∷ rs) k)
instead_by c row r rest more false false old new e k = rw e k

put_instead : (file : SourceFile) (c : ℕ) (row : Row) (rows : List Row) → list_any (within c) (spans_in (same_key file row) rows) ≡ false → speaks_of c row ≡ false → filter (speaks_of c) (map (row_instead file row) rows) ≡ filter (speaks_of c) rows
put_instead file c row [] h new = refl
put_instead file c row (r ∷ rows) h new =
    let parts = spans_parts c (same_key file row) r rows (same_key file row r) refl h in
    instead_by c row r (map (row_instead file row) rows) rows (same_key file row r) (speaks_of c r) parts.0 new refl (put_instead file c row rows parts.1 new)

-- ---- fewer rows

out_by : (c : ℕ) (r : Row) (rest more : List Row) (b s : Bool) → (b ≡ true → speaks_of c r ≡ false) → speaks_of c r ≡ s → filter (speaks_of c) rest ≡ filter (speaks_of c) more → filter (speaks_of c) (cond (not b) (r ∷ rest) rest) ≡ filter (speaks_of c) (r ∷ more)
out_by c r rest more true s old e k = rw (old refl) k
out_by c r rest more false true old e k = rw e (ap (λ (rs : List Row). r ∷ rs) k)
out_by c r rest more false false old e k = rw e k

taken_out : (c : ℕ) (p : Row → Bool) (rows : List Row) → list_any (within c) (spans_in p rows) ≡ false → filter (speaks_of c) (filter (λ row. not (p row)) rows) ≡ filter (speaks_of c) rows
taken_out c p [] h = refl
taken_out c p (r ∷ rows) h =
    let parts = spans_parts c p r rows (p r) refl h in
    out_by c r (filter (λ row. not (p row)) rows) rows (p r) (speaks_of c r) parts.0 refl (taken_out c p rows parts.1)

-- ---- the operation

abbrev Stays : ℕ → List FileItem → List FileItem → Type 0
Stays c items next = filter (speaks_of c) (rows_in next) ≡ filter (speaks_of c) (rows_in items)

add_stays : (c n : ℕ) (row : Row) (bytes : List ℕ) (items : List FileItem) → speaks_of c row ≡ false → Stays c items (put_in items n (added_item row bytes))
add_stays c n row bytes items h =
    let xs = take n items in
    let ys = drop n items in
    let after : rows_in (put_in items n (added_item row bytes)) ≡ rows_in xs ++ row ∷ rows_in ys = rows-append (ended xs) (added_item row bytes ∷ ys) ∙ ap (λ (rs : List Row). rs ++ row ∷ rows_in ys) (rows-ended xs) in
    let before : rows_in items ≡ rows_in xs ++ rows_in ys = ap rows_in (sym (take-append-drop n items)) ∙ rows-append xs ys in
    ap (filter (speaks_of c)) after ∙ one_more c (rows_in xs) row (rows_in ys) h ∙ sym (ap (filter (speaks_of c)) before)

change_stays : (file : SourceFile) (c : ℕ) (row : Row) (bytes : List ℕ) (items : List FileItem) → list_any (within c) (spans_with (same_key file row) items ++ row_spans row) ≡ false → Stays c items (map (changed_item file row bytes) items)
change_stays file c row bytes items h =
    let parts = or_parts _ _ (sym (list_any-append (within c) (spans_with (same_key file row) items) (row_spans row)) ∙ h) in
    ap (filter (speaks_of c)) (rows_changed file row bytes items) ∙ put_instead file c row (rows_in items) (sym (ap (list_any (within c)) (spans_are (same_key file row) items)) ∙ parts.0) parts.1

withdraw_stays : (c : ℕ) (p : Row → Bool) (items : List FileItem) → list_any (within c) (spans_with p items) ≡ false → Stays c items (filter (λ item. not (row_passes p item)) items)
withdraw_stays c p items h = ap (filter (speaks_of c)) (rows_filter p items) ∙ taken_out c p (rows_in items) (sym (ap (list_any (within c)) (spans_are p items)) ∙ h)

pub rows_stay : RowsStay
unfolding edited
rows_stay (Add file row bytes) items next c h outside =
    let a = failed (holds_row (same_key file row) items) _ K1 next h in
    let b = failed (holds_row (overlaps file row) items) _ K4 next a.1 in
    ap (λ (is : List FileItem). filter (speaks_of c) (rows_in is)) (sym (items_are _ next b.1)) ∙ add_stays c (place_in file row items) row bytes items outside
rows_stay (Change file row bytes) items next c h outside =
    let a = passed (holds_row (same_key file row) items) _ K2 next h in
    let b = failed (holds_row (overlaps_another file row) items) _ K4 next a.1 in
    ap (λ (is : List FileItem). filter (speaks_of c) (rows_in is)) (sym (items_are _ next b.1)) ∙ change_stays file c row bytes items outside
rows_stay (Withdraw file key) items next c h outside =
    let a = passed (holds_row (has_key file key) items) _ K2 next h in
    ap (λ (is : List FileItem). filter (speaks_of c) (rows_in is)) (sym (items_are _ next a.1)) ∙ withdraw_stays c (has_key file key) items outside
