-- Items that are gone over one by one.
use Rattle.std.proofs.Common.{◌≡◌, ℕ, ◌+◌, true, false, List, ◌∷◌, ◌++◌, length, map, Option, Some, None, refl, sym, ap, subst, ◌∙◌, append_assoc, arith, All, true≢false}
use Rattle.std.proofs.lemmas.List.Elements.{All-head, All-rest}
use Rattle.ucd_points.specs.MissingLines.{is_trivia}
use Rattle.part_list.specs.declared.entry.Entry.{Entry}
use Rattle.release_rows.specs.FileItems.{bytes_of, file_item_bytes, SourceFile, Row}
use Rattle.release_rows.specs.Releases.{numbered_rows, onto_numbered}
use Rattle.release_rows.specs.StoredItems.{content_at, item_at, read_as, stored_at, IsStored}
use Rattle.release_rows.specs.Walking.{IsWalk}
use Rattle.release_rows.specs.declared.stored_item.StoredItem.{StoredItem}
use Rattle.release_rows.proofs.Seeking.{StoredAs, stored_as}

pub first_of : {A : Type 0} (P : A → Type 0) (items : List A) (e : A) (rest : List A) → items ≡ e ∷ rest → All P items → P e
first_of P items e rest split all = All-head P e rest (subst (All P) split all)

pub walks_on : (file : SourceFile) (text : List ℕ) (items : List (Entry StoredItem)) (e : Entry StoredItem) (rest : List (Entry StoredItem)) (line : ℕ) → items ≡ e ∷ rest → IsWalk file text items line → IsWalk file text rest (line + e.item.lines)
walks_on file text items e rest line split walk =
    let stored = first_of (IsStored file text) items e rest split walk.each in
    let few = stored.item.few in
    let fits = walk.fits in
    let long : length items ≡ length (e ∷ rest) = ap length split in
    record { each = All-rest (IsStored file text) e rest items split walk.each; fits = omega arith }

-- behind trivia stand the same rows
pub rows_behind : (file : SourceFile) (text : List ℕ) (items : List (Entry StoredItem)) (e : Entry StoredItem) (rest : List (Entry StoredItem)) (line : ℕ) (whole : List (ℕ × Row)) → items ≡ e ∷ rest → is_trivia file (content_at text e.item) ≡ true → numbered_rows line (map (stored_at file text) items) ≡ whole → numbered_rows (line + e.item.lines) (map (stored_at file text) rest) ≡ whole
rows_behind file text items e rest line whole split trivia h =
    let P : List (Entry StoredItem) → Type 0 = λ xs. numbered_rows line (map (stored_at file text) xs) ≡ whole in
    let first = subst P split h in
    rw trivia at first

-- what is no trivia is a row
row_is : (file : SourceFile) (content : List ℕ) (row : Option Row) → StoredAs file content row → is_trivia file content ≡ false → row ≡ Some (read_as file content)
row_is file content None stored some = absurd (true≢false (sym stored ∙ some))
row_is file content (Some row) stored some = rw stored.1 refl

-- a row stands in front of those behind it
pub row_first : (file : SourceFile) (text : List ℕ) (items : List (Entry StoredItem)) (e : Entry StoredItem) (rest : List (Entry StoredItem)) (line : ℕ) (whole : List (ℕ × Row)) → items ≡ e ∷ rest → All (IsStored file text) items → is_trivia file (content_at text e.item) ≡ false → numbered_rows line (map (stored_at file text) items) ≡ whole → whole ≡ (line, read_as file (content_at text e.item)) ∷ numbered_rows (line + e.item.lines) (map (stored_at file text) rest)
row_first file text items e rest line whole split each some h =
    let P : List (Entry StoredItem) → Type 0 = λ xs. numbered_rows line (map (stored_at file text) xs) ≡ whole in
    let stored = stored_as file text e (first_of (IsStored file text) items e rest split each) in
    sym (subst P split h) ∙ ap (λ (row : Option Row). onto_numbered line row (numbered_rows (line + e.item.lines) (map (stored_at file text) rest))) (row_is file (content_at text e.item) (item_at file text e.item).row stored some)

-- one more item is put behind those so far
pub put_behind : (file : SourceFile) (text : List ℕ) (items : List (Entry StoredItem)) (e : Entry StoredItem) (rest : List (Entry StoredItem)) (old new whole : List ℕ) → items ≡ e ∷ rest → new ≡ old ++ file_item_bytes (stored_at file text e) → old ++ bytes_of (map (stored_at file text) items) ≡ whole → new ++ bytes_of (map (stored_at file text) rest) ≡ whole
put_behind file text items e rest old new whole split put h =
    let P : List (Entry StoredItem) → Type 0 = λ xs. old ++ bytes_of (map (stored_at file text) xs) ≡ whole in
    rw put (append_assoc old (file_item_bytes (stored_at file text e)) (bytes_of (map (stored_at file text) rest)) ∙ subst P split h)
