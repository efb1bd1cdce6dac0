-- What is next once an operation has put, changed or taken out an entry.
use Rattle.std.proofs.Common.{◌≡◌, ℕ, suc, ◌+◌, ◌<◌, ◌≤◌, ◌^◌, List, ◌++◌, length, map, set, take, drop, Result, Ok, Err, refl, sym, subst, arith, All, remove}
use Rattle.std.proofs.lemmas.List.{drop-map, length-append, length-drop, length-set, length-take, map-append, take-map}
use Rattle.std.proofs.lemmas.List.Elements.{All-append, All-drop, All-set, All-take}
use Rattle.part_list.specs.Parts.{PartLists, now_in, next_in}
use Rattle.part_list.specs.declared.entry.Entry.{Entry}
use Rattle.release_rows.specs.FileItems.{FileItem, SourceFile, Row}
use Rattle.release_rows.specs.Finding.{FindsGap, items_of}
use Rattle.release_rows.specs.Operations.{added_item, edited, place_in, put_in}
use Rattle.release_rows.specs.Searches.{Sought, IsSoughtRow}
use Rattle.release_rows.specs.StoredItems.{IsKeptFile, IsStored}
use Rattle.release_rows.specs.declared.edits.Gap.{Gap}
use Rattle.release_rows.specs.declared.key_rule.KeyRule.{KeyRule}
use Rattle.release_rows.specs.declared.key_rule.KeyRule.TheVariants.{K1, K2, K4}
use Rattle.release_rows.specs.declared.operation.Op.TheVariants.{Add}
use Rattle.release_rows.specs.declared.stored_item.StoredItem.{StoredItem}
use Rattle.release_rows.proofs.Arena.{all_still_stored}

-- ---- the entries are kept

-- the text grew, and the entries next are others
pub kept_edited : (file : SourceFile) (text more : List ℕ) (added later : ℕ) (old new : PartLists (Entry StoredItem)) → IsKeptFile file text added old → now_in new ≡ now_in old → All (IsStored file (text ++ more)) (next_in new) → length (next_in new) < 2 ^ 32 + later → added ≤ later → later < 2 ^ 32 → IsKeptFile file (text ++ more) later new
kept_edited file text more added later old new kept now next few le below =
    let few_now = kept.few_now in
    record {
      now = rw now (all_still_stored file text more (now_in old) kept.now);
      next = next;
      few_now = rw now (omega arith);
      few_next = few;
      few_added = below;
    }

-- the text grew
pub kept_grown : (file : SourceFile) (text more : List ℕ) (added : ℕ) (items : PartLists (Entry StoredItem)) → IsKeptFile file text added items → IsKeptFile file (text ++ more) added items
kept_grown file text more added items kept = kept_edited file text more added added items items kept refl (all_still_stored file text more (next_in items) kept.next) kept.few_next (omega arith) kept.few_added

-- an entry next is another one
pub kept_replaced : (file : SourceFile) (text more : List ℕ) (added at : ℕ) (entry : Entry StoredItem) (old new : PartLists (Entry StoredItem)) → IsKeptFile file text added old → now_in new ≡ now_in old → next_in new ≡ set (next_in old) at entry → IsStored file (text ++ more) entry → IsKeptFile file (text ++ more) added new
kept_replaced file text more added at entry old new kept now next one =
    let few = kept.few_next in
    let long = length-set (next_in old) at entry in
    let all = All-set (IsStored file (text ++ more)) (next_in old) at entry one (all_still_stored file text more (next_in old) kept.next) in
    kept_edited file text more added added old new kept now (rw next all) (rw next (omega arith)) (omega arith) kept.few_added

pub map_remove : {A : Type 0} {B : Type 0} (f : A → B) (xs : List A) (i : ℕ) → map f (remove xs i) ≡ remove (map f xs) i
map_remove f xs i = rw (map-append f (take i xs) (drop (suc i) xs), take-map f i xs, drop-map f (suc i) xs) refl

-- an entry next is taken out
pub kept_without : (file : SourceFile) (text : List ℕ) (added at : ℕ) (old new : PartLists (Entry StoredItem)) → IsKeptFile file text added old → now_in new ≡ now_in old → next_in new ≡ remove (next_in old) at → IsKeptFile file text added new
kept_without file text added at old new kept now next =
    let few = kept.few_next in
    let front = length-take at (next_in old) in
    let rest = length-drop (suc at) (next_in old) in
    let long = length-append (take at (next_in old)) (drop (suc at) (next_in old)) in
    let all = All-append (IsStored file text) (take at (next_in old)) (drop (suc at) (next_in old)) (All-take (IsStored file text) at (next_in old) kept.next) (All-drop (IsStored file text) (suc at) (next_in old) kept.next) in
    record {
      now = rw now kept.now;
      next = rw next all;
      few_now = rw now kept.few_now;
      few_next = rw next (omega arith);
      few_added = kept.few_added;
    }

-- ---- a row that is added

pub sought_own : (file : SourceFile) (row : Row) (text : List ℕ) (s : Sought) → IsSoughtRow file row text s → IsSoughtRow s.file row s.text s
sought_own file row text s h = subst (λ (f : SourceFile). IsSoughtRow f row s.text s) (sym h.file_is) (subst (λ (t : List ℕ). IsSoughtRow file row t s) (sym h.text_is) h)

pub finds_gap : (r : Result Gap KeyRule) (file : SourceFile) (row : Row) (text : List ℕ) (s : Sought) (parts : List (List (Entry StoredItem))) → IsSoughtRow file row text s → ((other : Row) → IsSoughtRow s.file other s.text s → FindsGap r s.file s.text other parts) → FindsGap r file text row parts
finds_gap r file row text s parts h found =
    subst (λ (f : SourceFile). FindsGap r f text row parts) h.file_is (subst (λ (t : List ℕ). FindsGap r s.file t row parts) h.text_is (found row (sought_own file row text s h)))

pub rule_of_addition : (rule : KeyRule) (file : SourceFile) (row : Row) (text bytes : List ℕ) (parts : List (List (Entry StoredItem))) → FindsGap (Err rule) file text row parts → edited (items_of file text parts) (Add file row bytes) ≡ Err rule
unfolding edited
rule_of_addition K1 file row text bytes parts h = rw h refl
rule_of_addition K2 file row text bytes parts h = absurd h
rule_of_addition K4 file row text bytes parts h = rw (h.0, h.1) refl

pub items_of_addition : (gap : Gap) (file : SourceFile) (row : Row) (text bytes : List ℕ) (parts : List (List (Entry StoredItem))) (new : List FileItem) → FindsGap (Ok gap) file text row parts → new ≡ put_in (items_of file text parts) (place_in file row (items_of file text parts)) (added_item row bytes) → edited (items_of file text parts) (Add file row bytes) ≡ Ok new
unfolding edited
items_of_addition gap file row text bytes parts new h is = rw (h.0, h.1, is) refl
