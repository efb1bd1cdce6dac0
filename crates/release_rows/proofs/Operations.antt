-- What the items of a file keep, they keep after an operation.
use Rattle.std.proofs.Common.{◌≡◌, ℕ, Bool, true, false, cond, not, ◌||◌, List, [], ◌∷◌, ◌++◌, map, filter, take, drop, Option, Some, None, Result, Ok, Err, refl, sym, ap, subst, ◌∙◌, append_assoc, append-nil, take-append-drop}
use Rattle.std.specs.List.{list_any}
use Rattle.release_rows.specs.ValuesApartProofs.{onto_append}
use Rattle.source_rows.specs.Faults.{row_or_fault}
use Rattle.source_rows.specs.Trivia.{RowsAreNoTrivia}
use Rattle.release_rows.specs.FileItems.{FileItem, rows_in, onto_rows, SourceFile, Row}
use Rattle.release_rows.specs.Keys.{same_key, overlaps, key_rule}
use Rattle.release_rows.specs.Loading.{content_row}
use Rattle.release_rows.specs.Operations.{edited, row_passes, holds_row, has_key, overlaps_another, place_in, ended, put_in, added_item, changed_item}
use Rattle.release_rows.specs.OperationLaws.{OperationsKeepRows}
use Rattle.release_rows.specs.Releases.{IsKept, AreKeptBelow, AreKept}
use Rattle.release_rows.specs.declared.key_rule.KeyRule.{KeyRule}
use Rattle.release_rows.specs.declared.key_rule.KeyRule.TheVariants.{K1, K2, K4}
use Rattle.release_rows.specs.declared.operation.Op.TheVariants.{Add, Change, Withdraw}
use Rattle.release_rows.proofs.RowsApart.{clashes, all_apart, clashes_with_none, breaks_no_rule, put_between, free_before, taken_out, row_instead, put_instead, any_both}

-- ---- what is kept: each item is read, and no two rows clash

abbrev pub is_read : SourceFile → FileItem → Type 0
is_read file item = content_row file item.content ≡ Ok item.row

abbrev pub AllRead : SourceFile → List FileItem → Type 0
AllRead file [] = Unit {0}
AllRead file (item ∷ items) = is_read file item × AllRead file items

pub rows-append : (xs ys : List FileItem) → rows_in (xs ++ ys) ≡ rows_in xs ++ rows_in ys
rows-append [] ys = refl
rows-append (x ∷ xs) ys = ap (onto_rows x.row) (rows-append xs ys) ∙ onto_append x.row (rows_in xs) (rows_in ys)

pub all_read : (file : SourceFile) (above items : List FileItem) → AreKeptBelow file above items → AllRead file items
all_read file above [] kept = tt
all_read file above (item ∷ items) kept = (kept.0.is_read, all_read file (above ++ item ∷ []) items kept.1)

-- the rows above with those of one more item
above_with : (file : SourceFile) (above : List FileItem) (item : FileItem) (o : Option Row) → item.row ≡ o → IsKept file above item → all_apart file (rows_in above) ≡ true → all_apart file (rows_in (above ++ item ∷ [])) ≡ true
above_with file above item None e kept apart = rw (rows-append above (item ∷ []), e, append-nil (rows_in above)) apart
above_with file above item (Some row) e kept apart =
    let free : key_rule file (rows_in above) row ≡ None = (rw e at kept.stands) in
    rw (rows-append above (item ∷ []), e) (put_between file (rows_in above) row [] (rw (append-nil (rows_in above)) apart) (rw (append-nil (rows_in above)) (clashes_with_none file (rows_in above) row free)))

apart_below : (file : SourceFile) (above items : List FileItem) → AreKeptBelow file above items → all_apart file (rows_in above) ≡ true → all_apart file (rows_in (above ++ items)) ≡ true
apart_below file above [] kept apart = rw (append-nil above) apart
apart_below file above (item ∷ items) kept apart = rw (← append_assoc above (item ∷ []) items) (apart_below file (above ++ item ∷ []) items kept.1 (above_with file above item item.row refl kept.0 apart))

pub all_are_apart : (file : SourceFile) (items : List FileItem) → AreKept file items → all_apart file (rows_in items) ≡ true
all_are_apart file items kept = apart_below file [] items kept refl

kept_item : (file : SourceFile) (above : List FileItem) (item : FileItem) (items : List FileItem) (o : Option Row) → item.row ≡ o → is_read file item → all_apart file (rows_in above ++ onto_rows o (rows_in items)) ≡ true → IsKept file above item
kept_item file above item items None e read apart = record { is_read = read; stands = rw e tt }
kept_item file above item items (Some row) e read apart = record { is_read = read; stands = rw e (breaks_no_rule file (rows_in above) row (free_before file (rows_in above) row (rows_in items) apart)) }

kept_below : (file : SourceFile) (above items : List FileItem) → AllRead file items → all_apart file (rows_in (above ++ items)) ≡ true → AreKeptBelow file above items
kept_below file above [] read apart = tt
kept_below file above (item ∷ items) read apart = (
  kept_item file above item items item.row refl read.0 (rw (← rows-append above (item ∷ items)) apart),
  kept_below file (above ++ item ∷ []) items read.1 (rw (append_assoc above (item ∷ []) items) apart),
)

pub are_kept : (file : SourceFile) (items : List FileItem) → AllRead file items → all_apart file (rows_in items) ≡ true → AreKept file items
are_kept file items read apart = kept_below file [] items read apart

-- ---- the item of an operation's row

pub row_is_read : (file : SourceFile) (row : Row) (bytes : List ℕ) → RowsAreNoTrivia → row_or_fault file bytes ≡ Ok row → content_row file bytes ≡ Ok (Some row)
row_is_read file row bytes law h = rw (law file bytes row h, h) refl

-- ---- an item that is put in

read-append : (file : SourceFile) (xs ys : List FileItem) → AllRead file xs → AllRead file ys → AllRead file (xs ++ ys)
read-append file [] ys h k = k
read-append file (x ∷ xs) ys h k = (h.0, read-append file xs ys h.1 k)

read_parts : (file : SourceFile) (xs ys : List FileItem) → AllRead file (xs ++ ys) → AllRead file xs × AllRead file ys
read_parts file [] ys h = (tt, h)
read_parts file (x ∷ xs) ys h = let k = read_parts file xs ys h.1 in ((h.0, k.0), k.1)

read_ended : (file : SourceFile) (items : List FileItem) → AllRead file items → AllRead file (ended items)
read_ended file [] h = tt
read_ended file (item ∷ []) h = (h.0, tt)
read_ended file (item ∷ next ∷ items) h = (h.0, read_ended file (next ∷ items) h.1)

pub rows-ended : (items : List FileItem) → rows_in (ended items) ≡ rows_in items
rows-ended [] = refl
rows-ended (item ∷ []) = refl
rows-ended (item ∷ next ∷ items) = ap (onto_rows item.row) (rows-ended (next ∷ items))

pub any_rows : (p : Row → Bool) (items : List FileItem) → list_any p (rows_in items) ≡ holds_row p items
any_rows p [] = refl
any_rows p (item ∷ items) = by item.row (any_rows p items)
  where
    by : (o : Option Row) → list_any p (rows_in items) ≡ holds_row p items → list_any p (onto_rows o (rows_in items)) ≡ (row_passes p (record { content = item.content; ending = item.ending; lines = item.lines; row = o }) || holds_row p items)
    by None e = e
    by (Some row) e = ap (λ (b : Bool). p row || b) e

-- the rows of changed items
pub rows_changed : (file : SourceFile) (row : Row) (bytes : List ℕ) (is : List FileItem) → rows_in (map (changed_item file row bytes) is) ≡ map (row_instead file row) (rows_in is)
rows_changed file row bytes [] = refl
rows_changed file row bytes (item ∷ is) = by item.row refl (rows_changed file row bytes is)
  where
    also : (b : Bool) (r : Row) → same_key file row r ≡ b → item.row ≡ Some r → onto_rows (changed_item file row bytes item).row (rows_in (map (changed_item file row bytes) is)) ≡ row_instead file row r ∷ rows_in (map (changed_item file row bytes) is)
    also true r e h = rw (h, e) refl
    also false r e h = rw (h, e) refl

    by : (o : Option Row) → item.row ≡ o → rows_in (map (changed_item file row bytes) is) ≡ map (row_instead file row) (rows_in is) → onto_rows (changed_item file row bytes item).row (rows_in (map (changed_item file row bytes) is)) ≡ map (row_instead file row) (onto_rows o (rows_in is))
    by None h e = rw h e
    by (Some r) h e = also (same_key file row r) r refl h ∙ ap (λ (rs : List Row). row_instead file row r ∷ rs) e

module _ (file : SourceFile) (items : List FileItem) (row : Row) (bytes : List ℕ) (law : RowsAreNoTrivia) (reads : row_or_fault file bytes ≡ Ok row) (kept : AreKept file items) where
  added : (n : ℕ) → holds_row (same_key file row) items ≡ false → holds_row (overlaps file row) items ≡ false → AreKept file (put_in items n (added_item row bytes))
  added n no_key no_overlap =
      let xs = take n items in
      let ys = drop n items in
      let whole : xs ++ ys ≡ items = take-append-drop n items in
      let parts = read_parts file xs ys (subst (AllRead file) (sym whole) (all_read file [] items kept)) in
      let read = read-append file (ended xs) (added_item row bytes ∷ ys) (read_ended file xs parts.0) (row_is_read file row bytes law reads, parts.1) in
      let rows : rows_in items ≡ rows_in xs ++ rows_in ys = ap rows_in (sym whole) ∙ rows-append xs ys in
      let free : list_any (clashes file row) (rows_in items) ≡ false = any_both file row (rows_in items) (any_rows (same_key file row) items ∙ no_key) (any_rows (overlaps file row) items ∙ no_overlap) in
      let apart : all_apart file (rows_in xs ++ row ∷ rows_in ys) ≡ true = put_between file (rows_in xs) row (rows_in ys) (subst (λ (rs : List Row). all_apart file rs ≡ true) rows (all_are_apart file items kept)) (subst (λ (rs : List Row). list_any (clashes file row) rs ≡ false) rows free) in
      are_kept file (put_in items n (added_item row bytes)) read (rw (rows-append (ended xs) (added_item row bytes ∷ ys), rows-ended xs) apart)

  -- ---- an item in the place of another

  read_changed : (is : List FileItem) → AllRead file is → AllRead file (map (changed_item file row bytes) is)
  read_changed [] h = tt
  read_changed (item ∷ is) h = (by (row_passes (same_key file row) item) refl, read_changed is h.1)
    where
      by : (b : Bool) → row_passes (same_key file row) item ≡ b → is_read file (changed_item file row bytes item)
      by true e = rw e (row_is_read file row bytes law reads)
      by false e = rw e h.0

  changed : holds_row (overlaps_another file row) items ≡ false → AreKept file (map (changed_item file row bytes) items)
  changed no_overlap =
      let apart = put_instead file row (rows_in items) (all_are_apart file items kept) (any_rows (overlaps_another file row) items ∙ no_overlap) in
      are_kept file (map (changed_item file row bytes) items) (read_changed items (all_read file [] items kept)) (rw (rows_changed file row bytes items) apart)

-- ---- an item that is taken out

read_filter : (file : SourceFile) (p : FileItem → Bool) (items : List FileItem) → AllRead file items → AllRead file (filter p items)
read_filter file p [] h = tt
read_filter file p (item ∷ items) h = by (p item) (read_filter file p items h.1)
  where
    by : (b : Bool) → AllRead file (filter p items) → AllRead file (cond b (item ∷ filter p items) (filter p items))
    by true k = (h.0, k)
    by false k = k

pub rows_filter : (p : Row → Bool) (items : List FileItem) → rows_in (filter (λ item. not (row_passes p item)) items) ≡ filter (λ row. not (p row)) (rows_in items)
rows_filter p [] = refl
rows_filter p (item ∷ items) = by item.row refl (rows_filter p items)
  where
    also : (b : Bool) (r : Row) → p r ≡ b → item.row ≡ Some r → rows_in (cond (not (row_passes p item)) (item ∷ filter (λ i. not (row_passes p i)) items) (filter (λ i. not (row_passes p i)) items)) ≡ cond (not (p r)) (r ∷ rows_in (filter (λ i. not (row_passes p i)) items)) (rows_in (filter (λ i. not (row_passes p i)) items))
    also true r e h = rw (h, e) refl
    also false r e h = rw (h, e) refl

    by : (o : Option Row) → item.row ≡ o → rows_in (filter (λ i. not (row_passes p i)) items) ≡ filter (λ row. not (p row)) (rows_in items) → rows_in (cond (not (row_passes p item)) (item ∷ filter (λ i. not (row_passes p i)) items) (filter (λ i. not (row_passes p i)) items)) ≡ filter (λ row. not (p row)) (onto_rows o (rows_in items))
    by None h e = rw h e
    by (Some r) h e = also (p r) r refl h ∙ ap (λ (rs : List Row). cond (not (p r)) (r ∷ rs) rs) e

withdrawn : (file : SourceFile) (items : List FileItem) (p : Row → Bool) → AreKept file items → AreKept file (filter (λ item. not (row_passes p item)) items)
withdrawn file items p kept = are_kept file _ (read_filter file _ items (all_read file [] items kept)) (rw (rows_filter p items) (taken_out file (λ row. not (p row)) (rows_in items) (all_are_apart file items kept)))

-- ---- the operation

pub passed : {A : Type 0} (b : Bool) (r : Result A KeyRule) (rule : KeyRule) (x : A) → cond b r (Err rule) ≡ Ok x → (b ≡ true) × (r ≡ Ok x)
passed true r rule x h = (refl, h)
passed false r rule x h = absurd cc

pub failed : {A : Type 0} (b : Bool) (r : Result A KeyRule) (rule : KeyRule) (x : A) → cond b (Err rule) r ≡ Ok x → (b ≡ false) × (r ≡ Ok x)
failed true r rule x h = absurd cc
failed false r rule x h = (refl, h)

abbrev pub found : List FileItem → Result (List FileItem) KeyRule
found items = Ok items

pub items_are : (xs ys : List FileItem) → found xs ≡ found ys → xs ≡ ys
items_are xs ys h = cc

keeps : RowsAreNoTrivia → OperationsKeepRows
unfolding edited
keeps law (Add file row bytes) items next op kept h =
    let a = failed (holds_row (same_key file row) items) _ K1 next h in
    let b = failed (holds_row (overlaps file row) items) _ K4 next a.1 in
    subst (AreKept file) (items_are _ next b.1) (added file items row bytes law op.1 kept (place_in file row items) a.0 b.0)
keeps law (Change file row bytes) items next op kept h =
    let a = passed (holds_row (same_key file row) items) _ K2 next h in
    let b = failed (holds_row (overlaps_another file row) items) _ K4 next a.1 in
    subst (AreKept file) (items_are _ next b.1) (changed file items row bytes law op.1 kept b.0)
keeps law (Withdraw file key) items next op kept h =
    let a = passed (holds_row (has_key file key) items) _ K2 next h in
    subst (AreKept file) (items_are _ next a.1) (withdrawn file items (has_key file key) kept)

pub operations_keep_rows : RowsAreNoTrivia → OperationsKeepRows
operations_keep_rows law = keeps law
