-- Rows that meet spans.
use Rattle.std.proofs.Common.{◌≡◌, ℕ, Bool, true, false, ◌||◌, List, [], ◌∷◌, ◌++◌, Option, Some, None, is_some, filter, map, cond, refl, sym, ap, subst, ◌∙◌, append_assoc}
use Rattle.std.specs.List.{All, list_any}
use Rattle.std.proofs.lemmas.List.Elements.{All-head, All-tail, filter-append}
use Rattle.ucd_points.specs.Bounds.{Bounds}
use Rattle.source_rows.specs.KeyNames.{has_code}
use Rattle.source_rows.specs.Laws.{PossibleRowsAreReadable, RowsAreRead}
use Rattle.part_list.specs.declared.entry.Entry.{Entry}
use Rattle.release_rows.specs.FileItems.{rows_in, onto_rows, SourceFile, Row}
use Rattle.release_rows.specs.Keys.{spans_meet}
use Rattle.release_rows.specs.Meetings.{entry_meets}
use Rattle.release_rows.specs.Operations.{row_spans, spans_of}
use Rattle.release_rows.specs.StoredItems.{stored_at, item_at, IsStored}
use Rattle.release_rows.specs.Touching.{meets}
use Rattle.release_rows.specs.declared.stored_item.StoredItem.{StoredItem}
use Rattle.release_rows.proofs.EntrySpans.{stored_spans, stored_no_spans}

onto_behind : (p : Option Row) (rows : List Row) → onto_rows p rows ≡ onto_rows p [] ++ rows
onto_behind None rows = refl
onto_behind (Some row) rows = refl

-- the row of one more item is put
pub rows_more : (file : SourceFile) (text : List ℕ) (items : List (Entry StoredItem)) (e : Entry StoredItem) (rest : List (Entry StoredItem)) (old new whole : List Row)
    → items ≡ e ∷ rest → new ≡ old ++ onto_rows (stored_at file text e).row []
    → old ++ rows_in (map (stored_at file text) items) ≡ whole → new ++ rows_in (map (stored_at file text) rest) ≡ whole
rows_more file text items e rest old new whole split put h =
    let own : List Row = onto_rows (stored_at file text e).row [] in
    let left : List Row = rows_in (map (stored_at file text) rest) in
    let P : List (Entry StoredItem) → Type 0 = λ xs. old ++ rows_in (map (stored_at file text) xs) ≡ whole in
    ap (λ (rows : List Row). rows ++ left) put
    ∙ append_assoc old own left
    ∙ ap (λ (rows : List Row). old ++ rows) (sym (onto_behind (stored_at file text e).row left))
    ∙ subst P split h

meets_by : (spans owns : List Bounds) (lo hi : ℕ) → owns ≡ record { lo = lo; hi = hi } ∷ [] → list_any (λ own. list_any (spans_meet own) spans) owns ≡ list_any (spans_meet (record { lo = lo; hi = hi })) spans
meets_by spans owns lo hi e = rw e (or_none (list_any (spans_meet (record { lo = lo; hi = hi })) spans)) where
  or_none : (b : Bool) → (b || false) ≡ b
  or_none true = refl
  or_none false = refl

filter_one : (p : Row → Bool) (row : Row) (b : Bool) → p row ≡ b → filter p (row ∷ []) ≡ cond b (row ∷ []) []
filter_one p row b e = rw e refl

-- a row with a code speaks of the code points of its entry
pub met : (file : SourceFile) (text : List ℕ) (spans : List Bounds) (e : Entry StoredItem) (o : Option Row) → (stored_at file text e).row ≡ o → RowsAreRead → PossibleRowsAreReadable → IsStored file text e → has_code file ≡ true
    → (b : Bool) → list_any (spans_meet (record { lo = e.code; hi = e.last })) spans ≡ b → filter (meets spans) (onto_rows o []) ≡ cond b (onto_rows o []) []
met file text spans e None is read ok stored code true test = refl
met file text spans e None is read ok stored code false test = refl
met file text spans e (Some row) is read ok stored code b test =
    let some : is_some (item_at file text e.item).row ≡ true = ap (λ (o : Option Row). is_some o) is in
    let own = stored_spans file text e read ok stored some code in
    let spoken : row_spans row ≡ record { lo = e.code; hi = e.last } ∷ [] = sym (ap spans_of is) ∙ own.2 in
    filter_one (meets spans) row b (meets_by spans (row_spans row) e.code e.last spoken ∙ test)

-- a row of names meets nothing
pub not_met : (file : SourceFile) (text : List ℕ) (spans : List Bounds) (e : Entry StoredItem) (o : Option Row) → (stored_at file text e).row ≡ o → RowsAreRead → PossibleRowsAreReadable → IsStored file text e → has_code file ≡ false
    → filter (meets spans) (onto_rows o []) ≡ []
not_met file text spans e None is read ok stored none = refl
not_met file text spans e (Some row) is read ok stored none =
    let some : is_some (item_at file text e.item).row ≡ true = ap (λ (o : Option Row). is_some o) is in
    let spoken : row_spans row ≡ [] = sym (ap spans_of is) ∙ stored_no_spans file text e read ok stored some none in
    filter_one (meets spans) row false (ap (λ (owns : List Bounds). list_any (λ own. list_any (spans_meet own) spans) owns) spoken)

-- the rows of the entries that meet the spans are the rows that meet them
pub rows_met : (file : SourceFile) (text : List ℕ) (spans : List Bounds) (items : List (Entry StoredItem)) → RowsAreRead → PossibleRowsAreReadable → All (IsStored file text) items → has_code file ≡ true
    → rows_in (map (stored_at file text) (filter (entry_meets spans) items)) ≡ filter (meets spans) (rows_in (map (stored_at file text) items))
rows_met file text spans [] read ok stored code = refl
rows_met file text spans (e ∷ items) read ok stored code =
    by (entry_meets spans e) refl (rows_met file text spans items read ok (All-tail (IsStored file text) e items stored) code)
  where
    own : List Row
    own = onto_rows (stored_at file text e).row []

    kept : List (Entry StoredItem)
    kept = filter (entry_meets spans) items

    left : List Row
    left = rows_in (map (stored_at file text) items)

    split : filter (meets spans) (rows_in (map (stored_at file text) (e ∷ items))) ≡ filter (meets spans) own ++ filter (meets spans) left
    split = ap (filter (meets spans)) (onto_behind (stored_at file text e).row left) ∙ filter-append (meets spans) own left

    here : (b : Bool) → entry_meets spans e ≡ b → filter (meets spans) own ≡ cond b own []
    here b test = met file text spans e (stored_at file text e).row refl read ok (All-head (IsStored file text) e items stored) code b test

    by : (b : Bool) → entry_meets spans e ≡ b → rows_in (map (stored_at file text) kept) ≡ filter (meets spans) left
        → rows_in (map (stored_at file text) (filter (entry_meets spans) (e ∷ items))) ≡ filter (meets spans) (rows_in (map (stored_at file text) (e ∷ items)))
    by true test rest =
        rw test (onto_behind (stored_at file text e).row (rows_in (map (stored_at file text) kept))
        ∙ ap (λ (rows : List Row). own ++ rows) rest
        ∙ sym (split ∙ ap (λ (rows : List Row). rows ++ filter (meets spans) left) (here true test)))
    by false test rest = rw test (rest ∙ sym (split ∙ ap (λ (rows : List Row). rows ++ filter (meets spans) left) (here false test)))

-- spans that share code points with the same ones are met by the same rows
pub meets_alike : (spans others : List Bounds) → ((own : Bounds) → list_any (spans_meet own) spans ≡ list_any (spans_meet own) others) → (rows : List Row) → filter (meets spans) rows ≡ filter (meets others) rows
meets_alike spans others alike rows = λ i. filter (λ row. list_any (λ own. alike own i) (row_spans row)) rows

-- no row of names meets a span
pub none_met : (file : SourceFile) (text : List ℕ) (spans : List Bounds) (items : List (Entry StoredItem)) → RowsAreRead → PossibleRowsAreReadable → All (IsStored file text) items → has_code file ≡ false
    → [] ≡ filter (meets spans) (rows_in (map (stored_at file text) items))
none_met file text spans [] read ok stored none = refl
none_met file text spans (e ∷ items) read ok stored none =
    let own : List Row = onto_rows (stored_at file text e).row [] in
    let left : List Row = rows_in (map (stored_at file text) items) in
    let here = not_met file text spans e (stored_at file text e).row refl read ok (All-head (IsStored file text) e items stored) none in
    sym (ap (filter (meets spans)) (onto_behind (stored_at file text e).row left)
    ∙ filter-append (meets spans) own left
    ∙ ap (λ (rows : List Row). rows ++ filter (meets spans) left) here
    ∙ sym (none_met file text spans items read ok (All-tail (IsStored file text) e items stored) none))
