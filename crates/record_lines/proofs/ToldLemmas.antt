-- What is told of code points, row by row.
use Rattle.std.proofs.Common.{◌≡◌, ℕ, Bool, true, false, List, [], ◌∷◌, ◌++◌, map, refl, sym, ap, ◌∙◌, append_assoc, append-nil, if◌then◌else◌}
use Rattle.std.specs.List.{list_any}
use Rattle.std.proofs.lemmas.Bool.{or_parts}
use Rattle.ucd_points.specs.Bounds.{within}
use Rattle.ucd_facts.specs.declared.row.Row.TheVariants.{Alias as AliasLine}
use Rattle.release_rows.specs.OperationLaws.{speaks_of}
use Rattle.source_rows.specs.Keys.{row_span, SourceFile, Row}
use Rattle.record_lines.specs.FileLines.{place_lines}
use Rattle.record_lines.specs.PointTexts.{with_more}
use Rattle.record_lines.specs.RowLines.{if_speaks, place_of, rows_lines}
use Rattle.record_lines.specs.declared.point_text.PointText.{PointText}

-- ---- more and more

abbrev pub told_of : ℕ → List ℕ → PointText
told_of p text = record { point = p; text = text }

told_at : (p : ℕ) (s t : List ℕ) → s ≡ t → told_of p s ≡ told_of p t
told_at p s t same = ap (told_of p) same

-- what f gives and then what g gives, where h gives both
pub more_twice : (f g h : ℕ → List ℕ) → ((c : ℕ) → h c ≡ f c ++ g c) → (told : List PointText) → map (with_more g) (map (with_more f) told) ≡ map (with_more h) told
more_twice f g h both [] = refl
more_twice f g h both (one ∷ others) =
    ap (λ (xs : List PointText). with_more g (with_more f one) ∷ xs) (more_twice f g h both others)
    ∙ ap (λ (x : PointText). x ∷ map (with_more h) others)
    (told_at one.point ((one.text ++ f one.point) ++ g one.point) (one.text ++ h one.point)
    (append_assoc one.text (f one.point) (g one.point) ∙ ap (λ xs. one.text ++ xs) (sym (both one.point))))

pub same_more : (f g : ℕ → List ℕ) → ((c : ℕ) → f c ≡ g c) → (told : List PointText) → map (with_more f) told ≡ map (with_more g) told
same_more f g same [] = refl
same_more f g same (one ∷ others) =
    ap (λ (xs : List PointText). with_more f one ∷ xs) (same_more f g same others)
    ∙ ap (λ (x : PointText). x ∷ map (with_more g) others) (told_at one.point (one.text ++ f one.point) (one.text ++ g one.point) (ap (λ xs. one.text ++ xs) (same one.point)))

pub no_more : (f : ℕ → List ℕ) → ((c : ℕ) → f c ≡ []) → (told : List PointText) → map (with_more f) told ≡ told
no_more f none [] = refl
no_more f none (one ∷ others) =
    ap (λ (xs : List PointText). with_more f one ∷ xs) (no_more f none others)
    ∙ ap (λ (x : PointText). x ∷ others) (told_at one.point (one.text ++ f one.point) one.text (ap (λ xs. one.text ++ xs) (none one.point) ∙ append-nil one.text))

-- ---- one row

by_speaking : (file : SourceFile) (lines : List (List ℕ)) (n : ℕ) (row : Row) (rest : List (ℕ × Row)) (c : ℕ) (b : Bool) → speaks_of c row ≡ b → rows_lines file lines ((n, row) ∷ rest) c ≡ if_speaks row (place_lines file lines (place_of (n, row))) c ++ rows_lines file lines rest c
by_speaking file lines n row rest c true is = rw is refl
by_speaking file lines n row rest c false is = rw is refl

-- the lines of the first row, and those of the others
pub first_row : (file : SourceFile) (lines : List (List ℕ)) (n : ℕ) (row : Row) (rest : List (ℕ × Row)) (c : ℕ) → rows_lines file lines ((n, row) ∷ rest) c ≡ if_speaks row (place_lines file lines (place_of (n, row))) c ++ rows_lines file lines rest c
first_row file lines n row rest c = by_speaking file lines n row rest c (speaks_of c row) refl

pub one_row : (file : SourceFile) (lines : List (List ℕ)) (n : ℕ) (row : Row) (c : ℕ) → rows_lines file lines ((n, row) ∷ []) c ≡ if_speaks row (place_lines file lines (place_of (n, row))) c
one_row file lines n row c = first_row file lines n row [] c ∙ append-nil (if_speaks row (place_lines file lines (place_of (n, row))) c)

pub first_alone : (file : SourceFile) (lines : List (List ℕ)) (n : ℕ) (row : Row) (rest : List (ℕ × Row)) (c : ℕ) → rows_lines file lines ((n, row) ∷ rest) c ≡ rows_lines file lines ((n, row) ∷ []) c ++ rows_lines file lines rest c
first_alone file lines n row rest c = first_row file lines n row rest c ∙ ap (λ xs. xs ++ rows_lines file lines rest c) (sym (one_row file lines n row c))

-- ---- a code point and a row

pub spoken_of : (row : Row) (text : List ℕ) (one : PointText) → speaks_of one.point row ≡ true → with_more (if_speaks row text) one ≡ told_of one.point (one.text ++ text)
spoken_of row text one is = told_at one.point (one.text ++ if_speaks row text one.point) (one.text ++ text) (ap (λ (b : Bool). one.text ++ (if b then text else [])) is)

pub not_spoken_of : (row : Row) (text : List ℕ) (one : PointText) → speaks_of one.point row ≡ false → with_more (if_speaks row text) one ≡ one
not_spoken_of row text one is = told_at one.point (one.text ++ if_speaks row text one.point) one.text (ap (λ (b : Bool). one.text ++ (if b then text else [])) is ∙ append-nil one.text)

-- ---- a row that covers none

unspoken : (row : Row) (c : ℕ) → within c (row_span row) ≡ false → speaks_of c row ≡ false
unspoken (AliasLine row) c out = refl
unspoken _ c out = rw out refl

quiet : (row : Row) (text : List ℕ) (c : ℕ) → within c (row_span row) ≡ false → if_speaks row text c ≡ []
quiet row text c out = rw (unspoken row c out) refl

pub none_covered : (row : Row) (text : List ℕ) (told : List PointText) → list_any (λ (one : PointText). within one.point (row_span row)) told ≡ false → map (with_more (if_speaks row text)) told ≡ told
none_covered row text [] none = refl
none_covered row text (one ∷ others) none =
    let parts = or_parts (within one.point (row_span row)) (list_any (λ (one : PointText). within one.point (row_span row)) others) none in
    ap (λ (xs : List PointText). with_more (if_speaks row text) one ∷ xs) (none_covered row text others parts.1)
    ∙ ap (λ (x : PointText). x ∷ others) (told_at one.point (one.text ++ if_speaks row text one.point) one.text (ap (λ xs. one.text ++ xs) (quiet row text one.point parts.0) ∙ append-nil one.text))
