-- Items with one more behind them.
use Rattle.std.proofs.Common.{◌≡◌, ℕ, ◌+◌, Bool, true, false, ◌||◌, List, [], ◌∷◌, ◌++◌, map, Option, Some, None, refl, sym, ap, ◌∙◌, arith}
use Rattle.std.specs.List.{list_any}
use Rattle.std.proofs.lemmas.List.{append-nil, map-append}
use Rattle.std.proofs.lemmas.List.Sums.{sum_by-append}
use Rattle.std.proofs.lemmas.List.Folds.{list_any-append}
use Rattle.release_rows.specs.ValuesApartProofs.{rows_append}
use Rattle.release_rows.specs.Extents.{Extent, conflict_with}
use Rattle.source_rows.specs.Keys.{row_span}
use Rattle.release_rows.specs.Keys.{extent_in, falls_back, is_back, key_rule, last_start}
use Rattle.release_rows.specs.FileItems.{FileItem, onto_rows, rows_in, lines_of, SourceFile, Row}
use Rattle.release_rows.specs.LoadedRows.{EntersSome}
use Rattle.release_rows.specs.Loading.{rule_by}
use Rattle.release_rows.specs.Places.{extent_at}
use Rattle.release_rows.specs.Progress.{HoldsRows, TakesRow, start_of_entry}
use Rattle.release_rows.specs.declared.conflict.Conflict.{Conflict}
use Rattle.release_rows.specs.declared.loaded_row.LoadedRow.{LoadedRow}
use Rattle.release_rows.proofs.RowRules.{back_is, extent_is, no_conflict, rule_told}

-- the first code point of the last row, with one more row or none
abbrev start_with : Option ℕ → Option Row → Option ℕ
start_with before None = before
start_with before (Some row) = Some (row_span row).lo

start_is : (file : SourceFile) (before : Option ℕ) (entry : Option LoadedRow) (row : Option Row) → EntersSome file entry row → start_of_entry before entry ≡ start_with before row
start_is file before None None h = refl
start_is file before (Some e) (Some row) h = ap (λ (n : ℕ). Some n) h.code
start_is file before None (Some row) h = absurd h
start_is file before (Some e) None h = absurd h

pub lines_with : (items : List FileItem) (item : FileItem) → lines_of (items ++ item ∷ []) ≡ lines_of items + item.lines
lines_with items item = sum_by-append (λ i. i.lines) items (item ∷ []) ∙ omega arith

start_of : (rows : List Row) (row : Row) → last_start (rows ++ row ∷ []) ≡ Some (row_span row).lo
start_of [] row = refl
start_of (r ∷ []) row = refl
start_of (r ∷ s ∷ rows) row = start_of (s ∷ rows) row

start_grows : (rows : List Row) (row : Option Row) → start_with (last_start rows) row ≡ last_start (rows ++ onto_rows row [])
start_grows rows None = ap last_start (sym (append-nil rows))
start_grows rows (Some row) = sym (start_of rows row)

pub start_after : (file : SourceFile) (items : List FileItem) (item : FileItem) (start : Option ℕ) (entry : Option LoadedRow) → start ≡ last_start (rows_in items) → EntersSome file entry item.row → start_of_entry start entry ≡ last_start (rows_in (items ++ item ∷ []))
start_after file items item start entry same enters =
    start_is file start entry item.row enters ∙ ap (λ (o : Option ℕ). start_with o item.row) same ∙ start_grows (rows_in items) item.row ∙ ap last_start (sym (rows_append items item))

-- ---- extents

behind : (a b : Bool) → (b || a) ≡ (a || (b || false))
behind true true = refl
behind true false = refl
behind false true = refl
behind false false = refl

-- the extents that are kept, with that of one more row
holds_one : (file : SourceFile) (above : List Row) (row : Row) (kept new : List Extent) → HoldsRows file above kept → ((p : Extent → Bool) → list_any p new ≡ (p (extent_in file row) || list_any p kept)) → HoldsRows file (above ++ row ∷ []) new
holds_one file above row kept new holds more = λ p.
    let x = extent_in file row in
    more p
    ∙ ap (λ (b : Bool). p x || b) (holds p)
    ∙ behind (list_any p (map (extent_in file) above)) (p x)
    ∙ sym (list_any-append p (map (extent_in file) above) (x ∷ []))
    ∙ ap (list_any p) (sym (map-append (extent_in file) above (row ∷ [])))

pub takes_row : (file : SourceFile) (above : List Row) (row : Option Row) (kept new : List Extent) (before : Option ℕ) (e : LoadedRow) (conflict : Option Conflict) (back : Bool) → HoldsRows file above kept → before ≡ last_start above → EntersSome file (Some e) row → conflict ≡ conflict_with kept (extent_at e.place e.last) → (conflict_with kept (extent_at e.place e.last) ≡ None → (p : Extent → Bool) → list_any p new ≡ (p (extent_at e.place e.last) || list_any p kept)) → back ≡ is_back file before e.place.code → TakesRow file above row new (rule_by conflict back)
takes_row file above None kept new before e conflict back holds start enters is more falls = absurd enters
takes_row file above (Some row) kept new before e conflict back holds start enters is more falls =
    let x = extent_is file row e.place e.last enters.names enters.code enters.last in
    let told : conflict ≡ key_rule file above row = is ∙ rule_told file row above kept e.place e.last holds enters.names enters.code enters.last in
    let late : back ≡ falls_back file above row = back_is file row above before e.place.code back falls start enters.code in (
      rw (told, late) refl,
      λ none.
          holds_one file above row kept new holds (rw (← x) (more (sym is ∙ no_conflict conflict back none))),
    )
