-- A file is loaded if its rows do not meet.
use Rattle.std.proofs.Common.{◌≡◌, ◌≢◌, ℕ, ◌<◌, ◌≤◌, ◌^◌, Bool, true, false, eqb, List, [], ◌∷◌, ◌++◌, length, map, Option, Some, None, Ok, refl, sym, ap, subst, ◌∙◌, arith}
use Rattle.std.specs.List.{All, AllByRecursion, IsDistinct, list_any}
use Rattle.std.proofs.lemmas.Bool.{and_parts, and_from, or_from, eqb-true, le-leb, false_from_ne_true}
use Rattle.std.proofs.lemmas.List.{append-nil, map-append}
use Rattle.std.proofs.lemmas.List.Elements.{All-nil, All-cons, All-append, All-head, All-tail}
use Rattle.ucd_points.specs.Lines.{items_of, joined}
use Rattle.ucd_points.specs.declared.files.SourceFile.TheVariants.{UnicodeData, PropList, Scripts, WordBreakProperty, CompositionExclusions, CaseFolding, SpecialCasing, PropertyAliases, PropertyValueAliases}
use Rattle.part_list.specs.Parts.{PartLists, now_in, next_in}
use Rattle.part_list.specs.declared.entry.Entry.{Entry}
use Rattle.source_rows.specs.Keys.{row_span, key_names, same_texts}
use Rattle.release_rows.specs.Chains.{IsOrderedPlace, placed_extent, places_meet}
use Rattle.release_rows.specs.Cuts.{Ascends}
use Rattle.release_rows.specs.LoadedRows.{EntersSome}
use Rattle.release_rows.specs.Extents.{Extent, meets}
use Rattle.release_rows.specs.FileItems.{FileItem, onto_rows, rows_in, SourceFile, Row}
use Rattle.release_rows.specs.Gathered.{AreGathered, placed_of}
use Rattle.release_rows.specs.Keys.{extent_in, has_spans, row_end, same_key}
use Rattle.release_rows.specs.Loaders.{IsLoaded}
use Rattle.release_rows.specs.Loading.{file_item, file_or_fault, first_fault}
use Rattle.release_rows.specs.Pieces.{Lines, pieces}
use Rattle.release_rows.specs.Releases.{AreKeptBelow}
use Rattle.release_rows.specs.StoredItems.{stored_at, IsStored}
use Rattle.release_rows.specs.declared.loaded_row.LoadedRow.{LoadedRow}
use Rattle.release_rows.specs.declared.keyed_extent.KeyedExtent.{KeyedExtent}
use Rattle.release_rows.specs.declared.stored_item.StoredItem.{StoredItem}
use Rattle.release_rows.proofs.Kept.{items_join}
use Rattle.release_rows.proofs.Loads.{no_faults}
use Rattle.release_rows.proofs.Operations.{AllRead, are_kept}
use Rattle.release_rows.proofs.RowRules.{extent_is, meets_spans, meets_points}
use Rattle.release_rows.proofs.RowsApart.{clashes, all_apart}

-- ---- one more row

pub gathers : (file : SourceFile) (rows : List Row) (row : Option Row) (placed new : List KeyedExtent) (entry : Option LoadedRow) → AreGathered file rows placed → new ≡ placed ++ placed_of entry → EntersSome file entry row → AreGathered file (rows ++ onto_rows row []) new
gathers file rows None placed new None h put enters = record {
  same = rw (put, append-nil placed, append-nil rows) h.same;
  ordered = rw (put, append-nil placed) h.ordered;
}
gathers file rows (Some row) placed new (Some e) h put enters =
    let one : KeyedExtent = record { place = e.place; last = e.last } in
    record {
      same = rw put (map-append placed_extent placed (one ∷ []) ∙ rw (h.same, extent_is file row e.place e.last enters.names enters.code enters.last) (sym (map-append (extent_in file) rows (row ∷ []))));
      ordered = rw put (All-append IsOrderedPlace placed (one ∷ []) h.ordered (All-cons IsOrderedPlace one [] enters.ordered (All-nil IsOrderedPlace)));
    }
gathers file rows (Some row) placed new None h put enters = absurd enters
gathers file rows None placed new (Some e) h put enters = absurd enters

-- ---- rows that do not meet do not clash

abbrev IsOrderedExtent : Extent → Type 0
IsOrderedExtent x = x.first ≤ x.last

no_clash : (file : SourceFile) (a b : Row) (spans : Bool) → has_spans file ≡ spans → IsOrderedExtent (extent_in file a) → IsOrderedExtent (extent_in file b) → meets (extent_in file a) (extent_in file b) ≡ false → clashes file a b ≡ false
no_clash file a b true h ordered ordered' none =
    let keys : same_key file a b ≡ false = false_from_ne_true (same_key file a b) (λ same.
    let parts = and_parts (same_texts (key_names file a) (key_names file b)) (eqb (row_span a).lo (row_span b).lo) same in
    let one = eqb-true (row_span a).lo (row_span b).lo parts.1 in
    let met : meets (extent_in file a) (extent_in file b) ≡ true = and_from _ _ parts.0 (and_from _ _ (le-leb (row_span a).lo (row_end file b) (omega (arith, one, ordered'))) (le-leb (row_span b).lo (row_end file a) (omega (arith, one, ordered)))) in
    absurd (let e : true ≡ false = sym met ∙ none in cc)) in
    or_from _ _ keys (sym (meets_spans file a b h) ∙ none)
no_clash file a b false h ordered ordered' none = or_from _ _ (sym (meets_points file a b h) ∙ none) (rw h refl)

none_clash : (file : SourceFile) (row : Row) (rows : List Row) → IsOrderedExtent (extent_in file row) → All IsOrderedExtent (map (extent_in file) rows) → AllByRecursion (λ x. meets (extent_in file row) x ≡ false) (map (extent_in file) rows) → list_any (clashes file row) rows ≡ false
none_clash file row [] ordered all none = refl
none_clash file row (r ∷ rows) ordered all none =
    let first = All-head IsOrderedExtent (extent_in file r) (map (extent_in file) rows) all in
    let rest = All-tail IsOrderedExtent (extent_in file r) (map (extent_in file) rows) all in
    or_from _ _ (no_clash file row r (has_spans file) refl ordered first none.0) (none_clash file row rows ordered rest none.1)

apart_from : (file : SourceFile) (rows : List Row) → All IsOrderedExtent (map (extent_in file) rows) → IsDistinct meets (map (extent_in file) rows) → all_apart file rows ≡ true
unfolding IsDistinct
apart_from file [] all apart = refl
apart_from file (r ∷ rows) all apart =
    let first = All-head IsOrderedExtent (extent_in file r) (map (extent_in file) rows) all in
    let rest = All-tail IsOrderedExtent (extent_in file r) (map (extent_in file) rows) all in
    rw (none_clash file r rows first rest apart.0, apart_from file rows rest apart.1) refl

extents_ordered : (rows : List KeyedExtent) → All IsOrderedPlace rows → All IsOrderedExtent (map placed_extent rows)
extents_ordered [] all = All-nil IsOrderedExtent
extents_ordered (r ∷ rows) all = All-cons IsOrderedExtent (placed_extent r) (map placed_extent rows) (All-head IsOrderedPlace r rows all) (extents_ordered rows (All-tail IsOrderedPlace r rows all))

none_of : (row : KeyedExtent) (rows : List KeyedExtent) → AllByRecursion (λ r. places_meet row r ≡ false) rows → AllByRecursion (λ x. meets (placed_extent row) x ≡ false) (map placed_extent rows)
none_of row [] none = tt
none_of row (r ∷ rows) none = (none.0, none_of row rows none.1)

extents_apart : (rows : List KeyedExtent) → IsDistinct places_meet rows → IsDistinct meets (map placed_extent rows)
unfolding IsDistinct
extents_apart [] apart = tt
extents_apart (r ∷ rows) apart = (none_of r rows apart.0, extents_apart rows apart.1)

-- ---- the file

all_read : (file : SourceFile) (text : List ℕ) (es : List (Entry StoredItem)) → All (IsStored file text) es → AllRead file (map (stored_at file text) es)
all_read file text [] all = tt
all_read file text (e ∷ es) all = ((All-head (IsStored file text) e es all).item.is_read, all_read file text es (All-tail (IsStored file text) e es all))

no_order : (file : SourceFile) (rows : List Row) → file ≢ UnicodeData → Ascends file rows
no_order UnicodeData rows other = absurd (other refl)
no_order PropList rows other = tt
no_order Scripts rows other = tt
no_order WordBreakProperty rows other = tt
no_order CompositionExclusions rows other = tt
no_order CaseFolding rows other = tt
no_order SpecialCasing rows other = tt
no_order PropertyAliases rows other = tt
no_order PropertyValueAliases rows other = tt

-- the items of all pieces, whose rows do not meet
all_gathered : (file : SourceFile) (text : List ℕ) (es : List (Entry StoredItem)) (rows : List KeyedExtent) → file ≢ UnicodeData → All (IsStored file text) es → AreGathered file (rows_in (map (stored_at file text) es)) rows → IsDistinct places_meet rows → map (stored_at file text) es ≡ map (file_item file) (pieces file (items_of text)) → file_or_fault file text ≡ Ok (map (stored_at file text) es)
unfolding file_or_fault
all_gathered file text es rows other all gathered apart whole =
    let is = map (stored_at file text) es in
    let ps = pieces file (items_of text) in
    let clear = apart_from file (rows_in is) (subst (All IsOrderedExtent) gathered.same (extents_ordered rows gathered.ordered)) (subst (IsDistinct meets) gathered.same (extents_apart rows apart)) in
    let kept = subst (AreKeptBelow file []) whole (are_kept file is (all_read file text es all) clear) in
    let none : first_fault file [] ps ≡ None = no_faults file [] ps kept (no_order file (rows_in (map (file_item file) ps)) other) in
    rw none (ap (λ (items : List FileItem). Ok items) (sym whole))

-- the items that are kept once no piece is left
pub are_loaded : (file : SourceFile) (text : List ℕ) (above : List FileItem) (items : PartLists (Entry StoredItem)) (rows : List KeyedExtent) (left : List Lines) → file ≢ UnicodeData → map (stored_at file text) (now_in items) ≡ above → next_in items ≡ now_in items → All (IsStored file text) (now_in items) → length (now_in items) < 2 ^ 32 → AreGathered file (rows_in above) rows → IsDistinct places_meet rows → above ++ map (file_item file) left ≡ map (file_item file) (pieces file (items_of text)) → left ≡ [] → joined (items_of text) ≡ text → IsLoaded file text items
are_loaded file text above items rows left other is same each few gathered apart whole none lines =
    let all : above ≡ map (file_item file) (pieces file (items_of text)) = sym (append-nil above) ∙ ap (λ (ps : List Lines). above ++ map (file_item file) ps) (sym none) ∙ whole in
    let answer = all_gathered file text (now_in items) rows other each (subst (λ (items : List FileItem). AreGathered file (rows_in items) rows) (sym is) gathered) apart (is ∙ all) in
    record {
      answer = answer;
      same = same;
      each = each;
      few = few;
      whole = items_join file text (map (stored_at file text) (now_in items)) lines answer;
    }
