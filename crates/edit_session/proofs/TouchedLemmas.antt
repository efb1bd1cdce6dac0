-- The code points that operations touch.
use Rattle.std.proofs.Common.{◌≡◌, ℕ, Bool, true, false, cond, true≢false, List, [], ◌++◌, length, set, get_or, filter, Result, Ok, Err, refl, sym, ap, subst, ◌∙◌, inl, inr}
use Rattle.std.specs.List.{list_any}
use Rattle.std.proofs.lemmas.Bool.{cases_eq, cases_lt, or_parts}
use Rattle.std.proofs.lemmas.List.{get_or-set_other, get_or-set_same, set_past}
use Rattle.std.proofs.lemmas.List.Folds.{list_any-append}
use Rattle.ucd_points.specs.Bounds.{Bounds}
use Rattle.ucd_facts.specs.Facts.{Facts, within}
use Rattle.ucd_points.specs.SourceFiles.{file_at, file_at-place, file_place}
use Rattle.release_rows.specs.FileItems.{FileItem, rows_in, SourceFile}
use Rattle.release_rows.specs.OperationLaws.{RowsStay, speaks_of}
use Rattle.release_rows.specs.Operations.{AnswersOp, edited, op_file, op_or_rule, touched, with_edited}
use Rattle.release_rows.specs.Releases.{items_at, with_items}
use Rattle.release_rows.specs.declared.key_rule.KeyRule.{KeyRule}
use Rattle.release_rows.specs.declared.operation.Op.{Op}
use Rattle.code_facts.specs.Locality.{FactsStay, OthersGiveNone, gives_facts}
use Rattle.edit_session.specs.Groups.{HasTouched, files_facts}

abbrev Files : Type 0
Files = List (List FileItem)

-- ---- spans one behind the other

apart : (c : ℕ) (before spans after : List Bounds) → after ≡ before ++ spans → list_any (within c) after ≡ false → (list_any (within c) before ≡ false) × (list_any (within c) spans ≡ false)
apart c before spans after is out =
    or_parts (list_any (within c) before) (list_any (within c) spans) (sym (list_any-append (within c) before spans) ∙ ap (list_any (within c)) (sym is) ∙ out)

-- ---- an operation

-- in every file the same rows speak of the code point
abbrev SameRows : ℕ → List FileItem → List FileItem → Type 0
SameRows c items next = filter (speaks_of c) (rows_in next) ≡ filter (speaks_of c) (rows_in items)

rows_there : (files : Files) (p n : ℕ) (items : List FileItem) (c : ℕ) → SameRows c (get_or files p []) items → SameRows c (get_or files n []) (get_or (set files p items) n [])
rows_there files p n items c same =
    elim (cases_eq n p) [
      | inl is ↦ subst (λ k. SameRows c (get_or files k []) (get_or (set files p items) k [])) (sym is)
          (elim (cases_lt p (length files)) [
            | inl less ↦ subst (SameRows c (get_or files p [])) (sym (get_or-set_same files p items [] less)) same
            | inr past ↦ ap (λ (fs : Files). filter (speaks_of c) (rows_in (get_or fs p []))) (set_past files p items past)
          ])
      | inr other ↦ ap (λ (xs : List FileItem). filter (speaks_of c) (rows_in xs)) (get_or-set_other files p n items [] other)
    ]

facts_there : RowsStay → FactsStay → (op : Op) (files : Files) (items : List FileItem) (c : ℕ) → edited (items_at files (op_file op)) op ≡ Ok items → list_any (within c) (touched (items_at files (op_file op)) op) ≡ false
    → files_facts (with_items files (op_file op) items) c ≡ files_facts files c
facts_there rows_stay facts_stay op files items c is out =
    facts_stay (λ file. rows_in (items_at files file)) (λ file. rows_in (items_at (with_items files (op_file op) items) file)) c
    (λ file. rows_there files (file_place (op_file op)) (file_place file) items c (rows_stay op (items_at files (op_file op)) items c is out))

by_edit : RowsStay → FactsStay → (op : Op) (files next : Files) (before spans after : List Bounds) (r : Result (List FileItem) KeyRule) → edited (items_at files (op_file op)) op ≡ r
    → AnswersOp {A = Files} (Ok spans) (with_edited files (op_file op) r) (touched (items_at files (op_file op)) op) files next → after ≡ before ++ spans → HasTouched files next before after
by_edit rows_stay facts_stay op files next before spans after (Ok items) e h is = record {
  stays = λ c out.
      let none : list_any (within c) (touched (items_at files (op_file op)) op) ≡ false = ap (list_any (within c)) (sym h.1) ∙ (apart c before spans after is out).1 in
      ap (λ (fs : Files). files_facts fs c) h.0 ∙ facts_there rows_stay facts_stay op files items c e none;
  grows = λ c out. (apart c before spans after is out).0;
}
by_edit rows_stay facts_stay op files next before spans after (Err rule) e h is = absurd h

touched_spans : RowsStay → FactsStay → (op : Op) (files next : Files) (before spans after : List Bounds)
    → AnswersOp {A = Files} (Ok spans) (op_or_rule files op) (touched (items_at files (op_file op)) op) files next → after ≡ before ++ spans → HasTouched files next before after
touched_spans rows_stay facts_stay op files next before spans after h is =
    by_edit rows_stay facts_stay op files next before spans after (edited (items_at files (op_file op)) op) refl h is

-- ---- an operation on a file that gives no facts

other_items : (files : Files) (op : Op) (items : List FileItem) → gives_facts (op_file op) ≡ false → (file : SourceFile) → gives_facts file ≡ true → items_at (with_items files (op_file op) items) file ≡ items_at files file
other_items files op items none file some =
    elim (cases_eq (file_place file) (file_place (op_file op))) [
      | inl is ↦ absurd (true≢false (sym some ∙ ap gives_facts (sym (file_at-place file) ∙ ap file_at is ∙ file_at-place (op_file op)) ∙ none))
      | inr other ↦ get_or-set_other files (file_place (op_file op)) (file_place file) items [] other
    ]

none_by : OthersGiveNone → (op : Op) (files next : Files) (before spans all : List Bounds) (r : Result (List FileItem) KeyRule) → gives_facts (op_file op) ≡ false
    → AnswersOp {A = Files} (Ok spans) (with_edited files (op_file op) r) all files next → HasTouched files next before before
none_by others op files next before spans all (Ok items) none h = record {
  stays = λ c out.
      ap (λ (fs : Files). files_facts fs c) h.0
      ∙ ap (λ (F : ℕ → Facts). F c) (others (λ file. rows_in (items_at files file)) (λ file. rows_in (items_at (with_items files (op_file op) items) file)) (λ file some. ap rows_in (other_items files op items none file some)));
  grows = λ c out. out;
}
none_by others op files next before spans all (Err rule) none h = absurd h

-- what an operation touches is put behind the others where its file gives facts
pub touched_by : RowsStay → FactsStay → OthersGiveNone → (op : Op) (files next : Files) (before spans after : List Bounds) (gives : Bool) → gives_facts (op_file op) ≡ gives
    → AnswersOp {A = Files} (Ok spans) (op_or_rule files op) (touched (items_at files (op_file op)) op) files next → after ≡ cond gives (before ++ spans) before → HasTouched files next before after
touched_by rows_stay facts_stay others op files next before spans after true gives h is = touched_spans rows_stay facts_stay op files next before spans after h is
touched_by rows_stay facts_stay others op files next before spans after false gives h is =
    subst (HasTouched files next before) (sym is) (none_by others op files next before spans (touched (items_at files (op_file op)) op) (edited (items_at files (op_file op)) op) gives h)

-- ---- operations

pub then_touched : (first second third : Files) (before between after : List Bounds) → HasTouched first second before between → HasTouched second third between after → HasTouched first third before after
then_touched first second third before between after h k = record {
  stays = λ c out. k.stays c out ∙ h.stays c (k.grows c out);
  grows = λ c out. h.grows c (k.grows c out);
}
