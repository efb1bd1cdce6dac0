-- What is looked for among entries is what is looked for among items.
use Rattle.std.proofs.Common.{◌≡◌, ℕ, Bool, true, false, not, eqb, leb, ◌&&◌, List, [], ◌∷◌, Option, Some, None, Result, Ok, Err, refl, sym, ap, subst, ◌∙◌}
use Rattle.std.specs.Cmp.Lexicographic.{slice_cmp}
use Rattle.std.specs.Ordering.{ordering_then, nat_cmp, is_eq, is_lt}
use Rattle.std.proofs.lemmas.Map.Text.{is_eq-slice_cmp}
use Rattle.std.proofs.Math.Bool.{and-false, and_comm}
use Rattle.ucd_points.specs.MissingLines.{is_trivia}
use Rattle.ucd_facts.specs.declared.row.Row.TheVariants.{Unit as DataLine, Value as ValueLine, Exclusion as ExclusionLine, Fold as FoldLine, Casing as CasingLine, Alias as AliasLine, Missing as MissingLine}
use Rattle.source_rows.specs.Faults.{row_or_fault}
use Rattle.source_rows.specs.Keys.{row_span, key_names, key_code, code_number, same_texts}
use Rattle.source_rows.specs.KeyNames.{ContentsHaveKeys, content_group, content_names, group_of, names_cmp}
use Rattle.source_rows.specs.declared.fault.RowFault.{RowFault}
use Rattle.part_list.specs.declared.entry.Entry.{Entry}
use Rattle.release_rows.specs.Keys.{has_spans, is_missing_row, own_end, row_end, same_key, SourceFile, Row}
use Rattle.release_rows.specs.Loading.{content_row, row_read}
use Rattle.release_rows.specs.Operations.{follows, overlaps_another, row_passes, same_group}
use Rattle.release_rows.specs.Searches.{Sought, IsSoughtRow, comes_behind, forbids, has_names, is_alike, is_of_group, meets_another, starts_alike}
use Rattle.release_rows.specs.StoredItems.{HasSpan, IsStored, content_at, item_at, stored_at}
use Rattle.release_rows.specs.Tags.{HasTag, tag_fits, tag_rises, tells_group, tells_key, tells_order}
use Rattle.release_rows.specs.declared.stored_item.StoredItem.{StoredItem}
use Rattle.release_rows.proofs.SharedSpans.{missing_free, own_meets}
use Rattle.release_rows.proofs.Tagging.{group_fits, guarded, key_fits, order_rises, tag_of}
use Rattle.release_rows.proofs.Texts.{is_eq-then}

-- ---- what is stored is trivia, or reads as its row

abbrev pub StoredAs : SourceFile → List ℕ → Option Row → Type 0
StoredAs file content None = is_trivia file content ≡ true
StoredAs file content (Some row) = (is_trivia file content ≡ false) × (row_or_fault file content ≡ Ok row)

stored_by : (file : SourceFile) (content : List ℕ) (t : Bool) (x : Result Row RowFault) → is_trivia file content ≡ t → row_or_fault file content ≡ x → content_row file content ≡ Ok (row_read (content_row file content)) → StoredAs file content (row_read (content_row file content))
stored_by file content true x e k h = rw e e
stored_by file content false (Ok row) e k h = rw (e, k) (e, k)
stored_by file content false (Err fault) e k h = let a = (rw (e, k) at h) in absurd cc

-- the same of a content that is read
pub content_stored : (file : SourceFile) (content : List ℕ) (row : Option Row) → content_row file content ≡ Ok row → StoredAs file content row
content_stored file content row read =
    let same : row_read (content_row file content) ≡ row = ap row_read read in
    subst (StoredAs file content) same (stored_by file content (is_trivia file content) (row_or_fault file content) refl refl (read ∙ ap (λ (o : Option Row). Ok o) (sym same)))

pub stored_as : (file : SourceFile) (text : List ℕ) (e : Entry StoredItem) → IsStored file text e → StoredAs file (content_at text e.item) (item_at file text e.item).row
stored_as file text e h = stored_by file (content_at text e.item) (is_trivia file (content_at text e.item)) (row_or_fault file (content_at text e.item)) refl refl h.item.is_read

-- ---- names and groups

pub names_equal : (a b : List (List ℕ)) → is_eq (names_cmp a b) ≡ same_texts a b
names_equal [] [] = refl
names_equal [] (y ∷ b) = refl
names_equal (x ∷ a) [] = refl
names_equal (x ∷ a) (y ∷ b) = is_eq-then (slice_cmp nat_cmp x y) (names_cmp a b) ∙ rw (is_eq-slice_cmp x y, names_equal a b) refl

names_alike : (file : SourceFile) (c : List ℕ) (row r : Row) → ContentsHaveKeys → is_trivia file c ≡ false → row_or_fault file c ≡ Ok r → has_names file (key_names file row) c ≡ same_texts (key_names file row) (key_names file r)
names_alike file c row r law t h = rw (t, ← (law file c r h).names) (names_equal (key_names file row) (key_names file r))

group_alike : (file : SourceFile) (c : List ℕ) (row r : Row) → ContentsHaveKeys → is_trivia file c ≡ false → row_or_fault file c ≡ Ok r → is_of_group file (group_of file row) c ≡ same_group file row r
group_alike file c row r law t h = rw (t, ← (law file c r h).group) refl

pub code_is : (row : Row) → code_number (key_code row) ≡ (row_span row).lo
code_is (DataLine row) = refl
code_is (ValueLine row) = refl
code_is (ExclusionLine row) = refl
code_is (FoldLine row) = refl
code_is (CasingLine row) = refl
code_is (AliasLine row) = refl
code_is (MissingLine row) = refl

-- ---- tags rule no row out

-- the tag that is looked for, and that of an entry
sought_tag : (file : SourceFile) (row : Row) (text : List ℕ) (s : Sought) → IsSoughtRow file row text s → HasTag s.file s.tag s.names s.group
sought_tag file row text s i = rw (i.file_is, i.names, i.group) i.tag

pub stored_tag : (file : SourceFile) (text : List ℕ) (s : Sought) (e : Entry StoredItem) → s.file ≡ file → s.text ≡ text → IsStored file text e → HasTag s.file e.tag (content_names s.file (content_at s.text e.item)) (content_group s.file (content_at s.text e.item))
stored_tag file text s e file_is text_is h = rw (file_is, text_is, h.tag) (tag_of file (content_at text e.item))

names_told : (s : Sought) (file : SourceFile) (row : Row) (text : List ℕ) (e : Entry StoredItem) → IsSoughtRow file row text s → IsStored file text e → (tag_fits (tells_key s.file) s.tag e.tag && has_names s.file s.names (content_at s.text e.item)) ≡ has_names s.file s.names (content_at s.text e.item)
names_told s file row text e i h =
    guarded (tag_fits (tells_key s.file) s.tag e.tag) (has_names s.file s.names (content_at s.text e.item))
    (key_fits s.file s.tag e.tag s.names (content_at s.text e.item) (sought_tag file row text s i).by_key (stored_tag file text s e i.file_is i.text_is h))

group_told : (s : Sought) (file : SourceFile) (row : Row) (text : List ℕ) (e : Entry StoredItem) → IsSoughtRow file row text s → IsStored file text e → is_alike s e ≡ is_of_group s.file s.group (content_at s.text e.item)
group_told s file row text e i h =
    guarded (tag_fits (tells_group s.file) s.tag e.tag) (is_of_group s.file s.group (content_at s.text e.item))
    (group_fits s.file s.tag e.tag s.names s.group (content_at s.text e.item) (sought_tag file row text s i) (stored_tag file text s e i.file_is i.text_is h))

order_told : (s : Sought) (file : SourceFile) (row : Row) (text : List ℕ) (e : Entry StoredItem) → IsSoughtRow file row text s → IsStored file text e → comes_behind s e ≡ (is_of_group s.file s.group (content_at s.text e.item) && is_lt (ordering_then (nat_cmp s.code e.code) (names_cmp s.names (content_names s.file (content_at s.text e.item)))))
order_told s file row text e i h =
    let c = content_at s.text e.item in
    let lt = is_lt (ordering_then (nat_cmp s.code e.code) (names_cmp s.names (content_names s.file c))) in
    ap (λ (b : Bool). tag_rises (tells_order s.file) s.code e.code s.tag e.tag && (b && lt)) (group_told s file row text e i h)
    ∙ guarded (tag_rises (tells_order s.file) s.code e.code s.tag e.tag) (is_of_group s.file s.group c && lt)
    (order_rises s.file s.code e.code s.tag e.tag s.names s.group c (sought_tag file row text s i) (stored_tag file text s e i.file_is i.text_is h))

-- ---- the same key

key_by : (file : SourceFile) (text : List ℕ) (e : Entry StoredItem) (row : Row) (o : Option Row) → ContentsHaveKeys → (item_at file text e.item).row ≡ o → StoredAs file (content_at text e.item) o → HasSpan o e.code e.last → (eqb (row_span row).lo e.code && has_names file (key_names file row) (content_at text e.item)) ≡ row_passes (same_key file row) (stored_at file text e)
key_by file text e row None law is st span = rw (is, st) (and-false (eqb (row_span row).lo e.code))
key_by file text e row (Some r) law is st span =
    rw (is, names_alike file (content_at text e.item) row r law st.0 st.1, span.0) (and_comm (eqb (row_span row).lo (row_span r).lo) (same_texts (key_names file row) (key_names file r)))

pub key_found : (file : SourceFile) (text : List ℕ) (e : Entry StoredItem) (row : Row) (s : Sought) → ContentsHaveKeys → IsSoughtRow file row text s → IsStored file text e → starts_alike s e ≡ row_passes (same_key file row) (stored_at file text e)
key_found file text e row s law i h =
    ap (λ (b : Bool). eqb s.code e.code && b) (names_told s file row text e i h)
    ∙ rw (i.file_is, i.text_is, i.code, i.names) (key_by file text e row (item_at file text e.item).row law refl (stored_as file text e h) h.span)

-- ---- an overlap with another row

meets_by : (spans code names meets : Bool) → (spans && (not code && (meets && names))) ≡ (not (names && code) && (spans && (names && meets)))
meets_by true true true true = refl
meets_by true true true false = refl
meets_by true true false true = refl
meets_by true true false false = refl
meets_by true false true true = refl
meets_by true false true false = refl
meets_by true false false true = refl
meets_by true false false false = refl
meets_by false true true meets = refl
meets_by false true false meets = refl
meets_by false false true meets = refl
meets_by false false false meets = refl

not_here : (a b c : Bool) → (a && (b && (c && false))) ≡ false
not_here true true true = refl
not_here true true false = refl
not_here true false c = refl
not_here false b c = refl

turned_off : (s x : Bool) → ((s && false) && x) ≡ false
turned_off true x = refl
turned_off false x = refl

another_by : (file : SourceFile) (text : List ℕ) (e : Entry StoredItem) (row : Row) (missing spans : Bool) (o : Option Row) → ContentsHaveKeys → is_missing_row row ≡ missing → has_spans file ≡ spans → (item_at file text e.item).row ≡ o → StoredAs file (content_at text e.item) o → HasSpan o e.code e.last → ((has_spans file && not (is_missing_row row)) && (not (eqb (row_span row).lo e.code) && ((leb (row_span row).lo e.last && leb e.code (row_end file row)) && has_names file (key_names file row) (content_at text e.item)))) ≡ row_passes (overlaps_another file row) (stored_at file text e)
another_by file text e row missing spans None law m sp is st span = rw (is, st) (not_here (has_spans file && not (is_missing_row row)) (not (eqb (row_span row).lo e.code)) (leb (row_span row).lo e.last && leb e.code (row_end file row)))
another_by file text e row true spans (Some r) law m sp is st span = rw (is, m) (turned_off (has_spans file) _ ∙ sym (missing_free file row r m))
another_by file text e row false true (Some r) law m sp is st span =
    rw (is, m, names_alike file (content_at text e.item) row r law st.0 st.1, span.0, span.1, sp)
    (meets_by true (eqb (row_span row).lo (row_span r).lo) (same_texts (key_names file row) (key_names file r)) (leb (row_span row).lo (row_span r).hi && leb (row_span r).lo (own_end row))
    ∙ own_meets file row r m)
another_by file text e row false false (Some r) law m sp is st span = rw (is, m, sp) (sym (and-false (not (same_key file row r))))

pub another_found : (file : SourceFile) (text : List ℕ) (e : Entry StoredItem) (row : Row) (s : Sought) → ContentsHaveKeys → IsSoughtRow file row text s → IsStored file text e → meets_another s e ≡ row_passes (overlaps_another file row) (stored_at file text e)
another_found file text e row s law i h =
    ap (λ (b : Bool). forbids s && (not (eqb s.code e.code) && ((leb s.code e.last && leb e.code s.last) && b))) (names_told s file row text e i h)
    ∙ rw (i.file_is, i.text_is, i.code, i.last, i.names, i.missing) (another_by file text e row (is_missing_row row) (has_spans file) (item_at file text e.item).row law refl refl refl (stored_as file text e h) h.span)

-- ---- the group

alike_by : (file : SourceFile) (text : List ℕ) (e : Entry StoredItem) (row : Row) (o : Option Row) → ContentsHaveKeys → (item_at file text e.item).row ≡ o → StoredAs file (content_at text e.item) o → is_of_group file (group_of file row) (content_at text e.item) ≡ row_passes (same_group file row) (stored_at file text e)
alike_by file text e row None law is st = rw (is, st) refl
alike_by file text e row (Some r) law is st = rw is (group_alike file (content_at text e.item) row r law st.0 st.1)

pub alike_found : (file : SourceFile) (text : List ℕ) (e : Entry StoredItem) (row : Row) (s : Sought) → ContentsHaveKeys → IsSoughtRow file row text s → IsStored file text e → is_alike s e ≡ row_passes (same_group file row) (stored_at file text e)
alike_found file text e row s law i h =
    group_told s file row text e i h
    ∙ rw (i.file_is, i.text_is, i.group) (alike_by file text e row (item_at file text e.item).row law refl (stored_as file text e h))

behind_by : (file : SourceFile) (text : List ℕ) (e : Entry StoredItem) (row : Row) (o : Option Row) → ContentsHaveKeys → (item_at file text e.item).row ≡ o → StoredAs file (content_at text e.item) o → HasSpan o e.code e.last → (is_of_group file (group_of file row) (content_at text e.item) && is_lt (ordering_then (nat_cmp (row_span row).lo e.code) (names_cmp (key_names file row) (content_names file (content_at text e.item))))) ≡ row_passes (follows file row) (stored_at file text e)
behind_by file text e row None law is st span = rw (is, st) refl
behind_by file text e row (Some r) law is st span =
    rw (is, group_alike file (content_at text e.item) row r law st.0 st.1, ← (law file (content_at text e.item) r st.1).names, span.0, ← code_is row, ← code_is r) refl

pub behind_found : (file : SourceFile) (text : List ℕ) (e : Entry StoredItem) (row : Row) (s : Sought) → ContentsHaveKeys → IsSoughtRow file row text s → IsStored file text e → comes_behind s e ≡ row_passes (follows file row) (stored_at file text e)
behind_found file text e row s law i h =
    order_told s file row text e i h
    ∙ rw (i.file_is, i.text_is, i.code, i.names, i.group) (behind_by file text e row (item_at file text e.item).row law refl (stored_as file text e h) h.span)
