-- Outside of what a patch touches the rows stay.
use Rattle.std.proofs.Common.{◌≡◌, ℕ, ◌+◌, false, List, [], ◌∷◌, ◌++◌, length, take, drop, set, get_or, Option, Some, None, inl, inr, refl, sym, ap, subst, ◌∙◌}
use Rattle.std.specs.List.{filter, list_any}
use Rattle.std.proofs.lemmas.Bool.{cases_eq, cases_lt, or_parts}
use Rattle.std.proofs.lemmas.List.{append_assoc, drop-drop, get_or-set_other, get_or-set_same, set_past, take-append-drop}
use Rattle.std.proofs.lemmas.List.Elements.{filter-append}
use Rattle.std.proofs.lemmas.List.Folds.{list_any-append}
use Rattle.ucd_facts.specs.Facts.{within}
use Rattle.ucd_points.specs.SourceFiles.{file_place}
use Rattle.part_list.specs.Parts.{spliced}
use Rattle.release_rows.specs.FileItems.{FileItem, onto_rows, rows_in, Row}
use Rattle.release_rows.specs.OperationLaws.{speaks_of}
use Rattle.release_rows.specs.Operations.{spans_of}
use Rattle.release_rows.specs.Patches.{RowsStayBack, SpliceItems, Stands, item_spans, patch_spans, undone}
use Rattle.release_rows.specs.Releases.{items_at}
use Rattle.release_rows.proofs.Operations.{rows-append}

abbrev Files : Type 0
Files = List (List FileItem)

abbrev Speaking : ℕ → List FileItem → List Row
Speaking c items = filter (speaks_of c) (rows_in items)

-- no row speaks of the code point
none_by : (c : ℕ) (row : Option Row) (items : List FileItem) → list_any (within c) (spans_of row) ≡ false → Speaking c items ≡ [] → filter (speaks_of c) (onto_rows row (rows_in items)) ≡ []
none_by c None items out rest = rest
none_by c (Some row) items out rest = rw out rest

none_speak : (c : ℕ) (items : List FileItem) → list_any (within c) (item_spans items) ≡ false → Speaking c items ≡ []
none_speak c [] out = refl
none_speak c (item ∷ items) out =
    let parts = or_parts (list_any (within c) (spans_of item.row)) (list_any (within c) (item_spans items)) (sym (list_any-append (within c) (spans_of item.row) (item_spans items)) ∙ out) in
    none_by c item.row items parts.0 (none_speak c items parts.1)

-- so it is without such items
speaking_three : (c : ℕ) (front mid rest : List FileItem) → Speaking c mid ≡ [] → Speaking c (front ++ mid ++ rest) ≡ Speaking c front ++ Speaking c rest
speaking_three c front mid rest none =
    ap (Speaking c) (append_assoc front mid rest)
    ∙ ap (filter (speaks_of c)) (rows-append front (mid ++ rest)) ∙ filter-append (speaks_of c) (rows_in front) (rows_in (mid ++ rest))
    ∙ ap (λ (rs : List Row). Speaking c front ++ rs) (ap (filter (speaks_of c)) (rows-append mid rest) ∙ filter-append (speaks_of c) (rows_in mid) (rows_in rest) ∙ ap (λ (rs : List Row). rs ++ Speaking c rest) none)

spliced_speaks : (c : ℕ) (s : SpliceItems) (items : List FileItem) → Stands s items → list_any (within c) (item_spans s.later) ≡ false → list_any (within c) (item_spans s.earlier) ≡ false → Speaking c (spliced items s.at (length s.later) s.earlier) ≡ Speaking c items
spliced_speaks c s items stands out out' =
    let front = take s.at items in
    let rest = drop (s.at + length s.later) items in
    let cut : items ≡ front ++ s.later ++ rest =
    sym (take-append-drop s.at items)
    ∙ ap (λ (l : List FileItem). front ++ l) (sym (take-append-drop (length s.later) (drop s.at items)) ∙ ap (λ (l : List FileItem). l ++ drop (length s.later) (drop s.at items)) stands.here ∙ ap (λ (l : List FileItem). s.later ++ l) (drop-drop (length s.later) s.at items))
    ∙ sym (append_assoc front s.later rest) in
    speaking_three c front s.earlier rest (none_speak c s.earlier out') ∙ sym (ap (Speaking c) cut ∙ speaking_three c front s.later rest (none_speak c s.later out))

-- ---- in the files

in_files : (c p n : ℕ) (files : Files) (items : List FileItem) → Speaking c items ≡ Speaking c (get_or files p []) → Speaking c (get_or (set files p items) n []) ≡ Speaking c (get_or files n [])
in_files c p n files items same =
    elim (cases_eq n p) [
      | inl is ↦ subst (λ k. Speaking c (get_or (set files p items) k []) ≡ Speaking c (get_or files k [])) (sym is)
          (elim (cases_lt p (length files)) [
            | inl less ↦ ap (Speaking c) (get_or-set_same files p items [] less) ∙ same
            | inr past ↦ ap (λ (fs : Files). Speaking c (get_or fs p [])) (set_past files p items past)
          ])
      | inr other ↦ ap (Speaking c) (get_or-set_other files p n items [] other)
    ]

pub rows_stay_back : RowsStayBack
rows_stay_back [] files file c defined out = refl
rows_stay_back (s ∷ patch) files file c defined out =
    let spans = item_spans s.later ++ item_spans s.earlier in
    let parts = or_parts (list_any (within c) spans) (list_any (within c) (patch_spans patch)) (sym (list_any-append (within c) spans (patch_spans patch)) ∙ out) in
    let both = or_parts (list_any (within c) (item_spans s.later)) (list_any (within c) (item_spans s.earlier)) (sym (list_any-append (within c) (item_spans s.later) (item_spans s.earlier)) ∙ parts.0) in
    rows_stay_back patch (undone s files) file c defined.1 parts.1
    ∙ in_files c (file_place s.file) (file_place file) files (spliced (items_at files s.file) s.at (length s.later) s.earlier) (spliced_speaks c s (items_at files s.file) defined.0 both.0 both.1)
