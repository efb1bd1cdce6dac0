-- The rows of UnicodeData.txt follow one another.
use Rattle.std.proofs.Common.{◌≡◌, ℕ, ◌+◌, ◌≤◌, Bool, false, ◌&&◌, leb, List, [], ◌∷◌, ◌++◌, Option, Some, None, Ok, refl, sym, subst, ◌∙◌, arith, append-nil}
use Rattle.std.specs.List.{All, list_any}
use Rattle.std.proofs.lemmas.Bool.Decides.{nat_tests}
use Rattle.std.proofs.lemmas.List.Elements.{All-cons, All-head, All-nil}
use Rattle.std.proofs.lemmas.Bool.{or_parts}
use Rattle.release_rows.specs.FileLemmas.{row_ok}
use Rattle.release_rows.specs.ValuesApartProofs.{no_overlap, rows_append}
use Rattle.ucd_points.specs.declared.files.SourceFile.TheVariants.{UnicodeData}
use Rattle.ucd_facts.specs.declared.row.DataRow.{DataRow}
use Rattle.ucd_facts.specs.declared.row.Row.TheVariants.{Unit as DataLine, Value as ValueLine, Exclusion as ExclusionLine, Fold as FoldLine, Casing as CasingLine, Alias as AliasLine, Missing as MissingLine}
use Rattle.source_rows.specs.Laws.{PossibleRowsAreReadable, RowsAreRead}
use Rattle.release_rows.specs.Cuts.{Rises, begins_from}
use Rattle.release_rows.specs.FileItems.{FileItem, onto_rows, rows_in, Row}
use Rattle.release_rows.specs.Keys.{key_rule, overlaps, same_key}
use Rattle.release_rows.specs.Loading.{content_row}
use Rattle.release_rows.specs.Releases.{AreKept, AreKeptBelow}
use Rattle.stability_policies.specs.NamedRows.{AreAbove, named}

-- ---- a row against the one before it

any_last : {X : Type 0} (p : X → Bool) (xs : List X) (x : X) → list_any p (xs ++ x ∷ []) ≡ false → p x ≡ false
any_last p [] x e = (or_parts (p x) false e).0
any_last p (y ∷ xs) x e = any_last p xs x (or_parts (p y) (list_any p (xs ++ x ∷ [])) e).1

apart_spans : (a b d e : ℕ) → d ≤ a → a ≤ b → (leb a e && leb d b) ≡ false → e + 1 ≤ a
apart_spans a b d e from ordered meet = grind (arith, nat_tests)

-- a row that begins at m or behind it, and that the rows above leave free, begins at n or behind it
abbrev Leaves : List Row → ℕ → ℕ → Type 0
Leaves above m n = (r : DataRow) → key_rule UnicodeData above (DataLine r) ≡ None → m ≤ r.span.lo → r.span.lo ≤ r.span.hi → n ≤ r.span.lo

leaves_last : (above : List Row) (x : DataRow) → Leaves (above ++ DataLine x ∷ []) x.span.lo (x.span.hi + 1)
leaves_last above x r free from ordered =
    let rows : List Row = above ++ DataLine x ∷ [] in
    let none : list_any (overlaps UnicodeData (DataLine r)) rows ≡ false = no_overlap (list_any (same_key UnicodeData (DataLine r)) rows) (list_any (overlaps UnicodeData (DataLine r)) rows) free in
    let apart : overlaps UnicodeData (DataLine r) (DataLine x) ≡ false = any_last (overlaps UnicodeData (DataLine r)) above (DataLine x) none in
    apart_spans r.span.lo r.span.hi x.span.lo x.span.hi from ordered apart

-- ---- all rows

module _ (read : RowsAreRead) (ok : PossibleRowsAreReadable) where
  above_by : (item : FileItem) (rest : List Row) (above next : List Row) (m n : ℕ) (o : Option Row) → next ≡ above ++ onto_rows o [] → content_row UnicodeData item.content ≡ Ok o
      → ((row : Row) → o ≡ Some row → key_rule UnicodeData above row ≡ None) → All (begins_from m) (onto_rows o rest) → Rises (onto_rows o rest) → Leaves above m n
      → ((k l : ℕ) → All (begins_from k) rest → Rises rest → Leaves next k l → AreAbove l (named rest)) → AreAbove n (named (onto_rows o rest))
  above_by item rest above next m n None is content free from rise leaves more = more m n from rise (subst (λ xs. Leaves xs m n) (sym (is ∙ append-nil above)) leaves)
  above_by item rest above next m n (Some (DataLine x)) is content free from rise leaves more =
      let span = (row_ok read ok UnicodeData item.content (DataLine x) content).span in
      let ordered : x.span.lo ≤ x.span.hi = span.0 in
      let begins : m ≤ x.span.lo = All-head (begins_from m) (DataLine x) rest from in
      (leaves x (free (DataLine x) refl) begins ordered, ordered, more x.span.lo (x.span.hi + 1) rise.0 rise.1 (subst (λ xs. Leaves xs x.span.lo (x.span.hi + 1)) (sym is) (leaves_last above x)))
  above_by item rest above next m n (Some (ValueLine x)) is content free from rise leaves more = absurd (row_ok read ok UnicodeData item.content (ValueLine x) content)
  above_by item rest above next m n (Some (ExclusionLine x)) is content free from rise leaves more = absurd (row_ok read ok UnicodeData item.content (ExclusionLine x) content)
  above_by item rest above next m n (Some (FoldLine x)) is content free from rise leaves more = absurd (row_ok read ok UnicodeData item.content (FoldLine x) content)
  above_by item rest above next m n (Some (CasingLine x)) is content free from rise leaves more = absurd (row_ok read ok UnicodeData item.content (CasingLine x) content)
  above_by item rest above next m n (Some (AliasLine x)) is content free from rise leaves more = absurd (row_ok read ok UnicodeData item.content (AliasLine x) content)
  above_by item rest above next m n (Some (MissingLine x)) is content free from rise leaves more = absurd (row_ok read ok UnicodeData item.content (MissingLine x) content)

  rows_above : (above items : List FileItem) (m n : ℕ) → AreKeptBelow UnicodeData above items → All (begins_from m) (rows_in items) → Rises (rows_in items) → Leaves (rows_in above) m n → AreAbove n (named (rows_in items))
  rows_above above [] m n kept from rise leaves = tt
  rows_above above (item ∷ items) m n kept from rise leaves =
      above_by item (rows_in items) (rows_in above) (rows_in (above ++ item ∷ [])) m n item.row (rows_append above item) kept.0.is_read (λ row e. rw e at kept.0.stands) from rise leaves
      (λ k l. rows_above (above ++ item ∷ []) items k l kept.1)

  all_from_zero : (rows : List Row) → All (begins_from 0) rows
  all_from_zero [] = All-nil (begins_from 0)
  all_from_zero (row ∷ rows) = All-cons (begins_from 0) row rows (omega arith) (all_from_zero rows)

  pub rows_follow : (items : List FileItem) → AreKept UnicodeData items → Rises (rows_in items) → AreAbove 0 (named (rows_in items))
  rows_follow items kept rise = rows_above [] items 0 0 kept (all_from_zero (rows_in items)) rise (λ r free from ordered. omega arith)
