-- An entry with a key that is looked for has the row with that key.
use Rattle.std.proofs.Common.{◌≡◌, ℕ, Bool, true, false, not, eqb, ◌&&◌, List, [], ◌∷◌, Option, Some, None, is_some, refl, sym, ap, ◌∙◌}
use mathlib.Core.Bool.{beq}
use Rattle.std.specs.List.{All, list_any}
use Rattle.std.proofs.lemmas.List.Elements.{All-weaker}
use Rattle.std.proofs.Math.Bool.{and-false, and_comm}
use Rattle.source_rows.specs.KeyNames.{ContentsHaveKeys, has_code}
use Rattle.source_rows.specs.Keys.{key_names, key_code, code_number, same_code, same_texts, SourceFile, Row}
use Rattle.source_rows.specs.declared.key.Key.{Key}
use Rattle.part_list.specs.Finds.{FirstAt}
use Rattle.part_list.specs.Parts.{flat}
use Rattle.part_list.specs.declared.entry.Entry.{Entry}
use Rattle.part_list.specs.declared.spot.Spot.{Spot}
use Rattle.release_rows.specs.Finding.{IsFirst, items_of}
use Rattle.release_rows.specs.Operations.{has_key, holds_row, row_passes}
use Rattle.release_rows.specs.Searches.{Sought, has_names, starts_alike}
use Rattle.release_rows.specs.StoredItems.{HasSpan, IsStored, content_at, item_at, stored_at}
use Rattle.release_rows.specs.Tags.{key_tag, tag_fits, tells_key}
use Rattle.release_rows.specs.declared.search.Test.TheVariants.{SameKey}
use Rattle.release_rows.specs.declared.stored_item.StoredItem.{StoredItem}
use Rattle.release_rows.proofs.FoundRows.{found_any}
use Rattle.release_rows.proofs.Moved.{any_moved, first_moved}
use Rattle.release_rows.proofs.RowsApart.{numbers_swap, texts_swap}
use Rattle.release_rows.proofs.Seeking.{StoredAs, code_is, names_equal, stored_as, stored_tag}
use Rattle.release_rows.proofs.Tagging.{guarded, key_fits}

-- what is looked for is the key
pub record IsSoughtKey (file : SourceFile) (key : Key) (text : List ℕ) (s : Sought) : Type 0 where
  pub test_is : s.test ≡ SameKey
  pub file_is : s.file ≡ file
  pub text_is : s.text ≡ text
  pub code : s.code ≡ code_number key.code
  pub names : s.names ≡ key.names
  pub tag : s.tag ≡ key_tag file key.names

-- ---- the test of the code

pub are_same : (a b : Bool) → not (beq a b) ≡ false → a ≡ b
are_same true true h = refl
are_same true false h = absurd cc
are_same false true h = absurd cc
are_same false false h = refl

pub are_apart : (a b : Bool) → not (beq a b) ≡ true → a ≡ b → false ≡ true
are_apart true true h same = h
are_apart true false h same = sym same
are_apart false true h same = same
are_apart false false h same = h

code_tells : (a b : Option ℕ) → is_some a ≡ is_some b → same_code a b ≡ eqb (code_number b) (code_number a)
code_tells (Some a) (Some b) h = numbers_swap a b
code_tells (Some a) None h = absurd cc
code_tells None (Some b) h = absurd cc
code_tells None None h = refl

code_apart : (a b : Option ℕ) → (is_some a ≡ is_some b → false ≡ true) → same_code a b ≡ false
code_apart (Some a) (Some b) h = absurd (let k = h refl in cc)
code_apart (Some a) None h = refl
code_apart None (Some b) h = refl
code_apart None None h = absurd (let k = h refl in cc)

found_by : (file : SourceFile) (text : List ℕ) (e : Entry StoredItem) (key : Key) (o : Option Row) → ContentsHaveKeys → is_some key.code ≡ has_code file → (item_at file text e.item).row ≡ o → StoredAs file (content_at text e.item) o → HasSpan o e.code e.last → (eqb (code_number key.code) e.code && has_names file key.names (content_at text e.item)) ≡ row_passes (has_key file key) (stored_at file text e)
found_by file text e key None law code is st span = rw (is, st) (and-false (eqb (code_number key.code) e.code))
found_by file text e key (Some r) law code is st span =
    let answers = law file (content_at text e.item) r st.1 in
    let same : is_some (key_code r) ≡ is_some key.code = answers.code ∙ sym code in
    rw (is, st.0, ← answers.names, names_equal key.names (key_names file r), span.0, ← code_is r, code_tells (key_code r) key.code same, texts_swap (key_names file r) key.names)
    (and_comm (eqb (code_number key.code) (code_number (key_code r))) (same_texts key.names (key_names file r)))

stored_found : (file : SourceFile) (text : List ℕ) (e : Entry StoredItem) (key : Key) (s : Sought) → ContentsHaveKeys → is_some key.code ≡ has_code file → IsSoughtKey file key text s → IsStored file text e → starts_alike s e ≡ row_passes (has_key file key) (stored_at file text e)
stored_found file text e key s law code i h =
    let c = content_at s.text e.item in
    let sought : s.tag ≡ key_tag s.file s.names = rw (i.file_is, i.names) i.tag in
    let told = guarded (tag_fits (tells_key s.file) s.tag e.tag) (has_names s.file s.names c) (key_fits s.file s.tag e.tag s.names c (λ t. sought) (stored_tag file text s e i.file_is i.text_is h)) in
    ap (λ (b : Bool). eqb s.code e.code && b) told
    ∙ rw (i.file_is, i.text_is, i.code, i.names) (found_by file text e key (item_at file text e.item).row law code refl (stored_as file text e h) h.span)

apart_by : (file : SourceFile) (text : List ℕ) (e : Entry StoredItem) (key : Key) (o : Option Row) → ContentsHaveKeys → (is_some key.code ≡ has_code file → false ≡ true) → (item_at file text e.item).row ≡ o → StoredAs file (content_at text e.item) o → false ≡ row_passes (has_key file key) (stored_at file text e)
apart_by file text e key None law code is st = rw is refl
apart_by file text e key (Some r) law code is st =
    let answers = law file (content_at text e.item) r st.1 in
    rw (is, code_apart (key_code r) key.code (λ same. code (sym same ∙ answers.code))) (sym (and-false (same_texts (key_names file r) key.names)))

none_passes : {A : Type 0} (xs : List A) → list_any (λ x. false) xs ≡ false
none_passes [] = refl
none_passes (x ∷ xs) = none_passes xs

module _ (file : SourceFile) (text : List ℕ) (key : Key) (parts : List (List (Entry StoredItem))) (law : ContentsHaveKeys) (all : All (IsStored file text) (flat parts)) where
  -- a key with a code point where the rows of the file have none, or without one where they have, is that of no row
  pub key_of_none : (is_some key.code ≡ has_code file → false ≡ true) → holds_row (has_key file key) (items_of file text parts) ≡ false
  key_of_none code =
      let tests = All-weaker (IsStored file text) (λ e. false ≡ row_passes (has_key file key) (stored_at file text e)) (λ e h. apart_by file text e key (item_at file text e.item).row law code refl (stored_as file text e h)) (flat parts) all in
      sym (any_moved (λ e. false) (row_passes (has_key file key)) (stored_at file text) (flat parts) tests) ∙ none_passes (flat parts)

  tests : (s : Sought) → is_some key.code ≡ has_code file → IsSoughtKey file key text s → All (λ e. starts_alike s e ≡ row_passes (has_key file key) (stored_at file text e)) (flat parts)
  tests s code is = All-weaker (IsStored file text) (λ e. starts_alike s e ≡ row_passes (has_key file key) (stored_at file text e)) (λ e h. stored_found file text e key s law code is h) (flat parts) all

  pub key_holds : (s : Sought) (o : Option Spot) → is_some key.code ≡ has_code file → IsSoughtKey file key text s → FirstAt o (starts_alike s) parts → holds_row (has_key file key) (items_of file text parts) ≡ is_some o
  key_holds s o code is h = sym (any_moved (starts_alike s) (row_passes (has_key file key)) (stored_at file text) (flat parts) (tests s code is)) ∙ found_any (starts_alike s) parts o h

  pub key_first : (s : Sought) (spot : Spot) → is_some key.code ≡ has_code file → IsSoughtKey file key text s → FirstAt (Some spot) (starts_alike s) parts → IsFirst spot (has_key file key) (items_of file text parts) parts
  key_first s spot code is h = (h.0, sym (first_moved (starts_alike s) (row_passes (has_key file key)) (stored_at file text) (flat parts) (tests s code is)) ∙ h.1, key_holds s (Some spot) code is h)
