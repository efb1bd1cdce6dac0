-- The files of a release, one of which an operation is carried out on.
use Rattle.std.proofs.Common.{◌≡◌, ℕ, ◌+◌, ◌<◌, List, [], ◌∷◌, ◌++◌, length, map, take, drop, set, get_or, Result, Ok, Err, refl, sym, ap, subst, ◌∙◌, arith}
use Rattle.std.proofs.lemmas.List.{get_or-map, get_or_default, length-append, length-drop, length-map, length-take-le, set-get_or}
use Rattle.std.proofs.lemmas.List.Edits.{map_over_more}
use Rattle.ucd_points.specs.Bounds.{Bounds}
use Rattle.ucd_points.specs.SourceFiles.{file_at-place, file_at, file_place, file_place_small, source_files}
use Rattle.ucd_points.specs.declared.files.SourceFile.TheVariants.{UnicodeData}
use Rattle.release_rows.specs.FileItems.{FileItem, FileLists, SourceFile}
use Rattle.release_rows.specs.OperationLaws.{OperationsKeepCuts, OperationsKeepOrder, OperationsKeepRows}
use Rattle.release_rows.specs.Operations.{AnswersOp, IsOp, edited, op_file, op_or_rule, with_edited}
use Rattle.release_rows.specs.Releases.{AllAreKept, AreKept, AreSound, committed, discarded, files_next, files_now, items_at, with_items}
use Rattle.release_rows.specs.declared.key_rule.KeyRule.{KeyRule}
use Rattle.release_rows.specs.declared.operation.Op.{Op}
use Rattle.release_rows.specs.declared.operation.OpStop.{OpStop}
use Rattle.release_rows.specs.declared.operation.OpStop.TheVariants.{Key as Breaks, Memory}
use Rattle.release_rows.proofs.Files.{files_with, kept_with, next_with, now_with}

-- ---- what is answered for a file, is answered for the release

same_items : (files : List (List FileItem)) (file : SourceFile) → with_items files file (items_at files file) ≡ files
same_items files file = set-get_or files (file_place file) []

lifted : (files : List (List FileItem)) (file : SourceFile) (r : Result (List Bounds) OpStop) (e : Result (List FileItem) KeyRule) (spans : List Bounds) (next : List FileItem) → AnswersOp r e spans (items_at files file) next → AnswersOp r (with_edited files file e) spans files (with_items files file next)
lifted files file (Ok s) (Ok items) spans next h = (ap (with_items files file) h.0, h.1)
lifted files file (Ok s) (Err rule) spans next h = absurd h
lifted files file (Err (Breaks rule)) (Ok items) spans next h = absurd h
lifted files file (Err (Breaks rule)) (Err broken) spans next h = (h.0, ap (with_items files file) h.1 ∙ same_items files file)
lifted files file (Err Memory) e spans next h = ap (with_items files file) h ∙ same_items files file

-- what holds of sound items, holds after an operation
pub record Keeping (op : Op) : Type 0 where
  pub rows : OperationsKeepRows
  pub order : OperationsKeepOrder
  pub cuts : OperationsKeepCuts
  pub is : IsOp op

still_sound : (op : Op) (items : List FileItem) (r : Result (List Bounds) OpStop) (e : Result (List FileItem) KeyRule) (spans : List Bounds) (next : List FileItem) → Keeping op → AreSound (op_file op) items → edited items op ≡ e → AnswersOp r e spans items next → AreSound (op_file op) next
still_sound op items (Ok s) (Ok new) spans next laws sound done h = rw h.0 (record { kept = laws.rows op items new laws.is sound.kept done; ascends = laws.order op items new sound.ascends done; cut = laws.cuts op items new laws.is sound.cut done })
still_sound op items (Ok s) (Err rule) spans next laws sound done h = absurd h
still_sound op items (Err (Breaks rule)) (Ok new) spans next laws sound done h = absurd h
still_sound op items (Err (Breaks rule)) (Err broken) spans next laws sound done h = rw h.1 sound
still_sound op items (Err Memory) e spans next laws sound done h = rw h sound

-- ---- the file at its place

module _ (files : List FileLists) (file : SourceFile) (n : ℕ) (d : FileLists) (all : map (λ (l : FileLists). l.file) files ≡ source_files) (here : n ≡ file_place file) where
  within : n < length files
  within =
      let nine : length (map (λ (l : FileLists). l.file) files) ≡ 9 = ap length all in
      let same = length-map files (λ (l : FileLists). l.file) in
      let small = file_place_small file in
      omega arith

  pub file_here : (get_or files n d).file ≡ file
  file_here = sym (get_or-map (λ (l : FileLists). l.file) files n d UnicodeData within) ∙ ap (λ (fs : List SourceFile). get_or fs n UnicodeData) all ∙ ap file_at here ∙ file_at-place file

  pub next_here : (get_or files n d).next ≡ items_at (files_next files) file
  next_here = sym (get_or-map (λ (l : FileLists). l.next) files n d [] within) ∙ ap (λ (k : ℕ). get_or (files_next files) k []) here

  now_here : (get_or files n d).now ≡ items_at (files_now files) file
  now_here = sym (get_or-map (λ (l : FileLists). l.now) files n d [] within) ∙ ap (λ (k : ℕ). get_or (files_now files) k []) here

  pub kept_here : AllAreKept (files_next files) → AreKept (get_or files n d).file (get_or files n d).next
  kept_here kept = rw (file_here, next_here) (kept.each file).kept

  pub files_same : (new : FileLists) → new.file ≡ (get_or files n d).file → map (λ (l : FileLists). l.file) (set files n new) ≡ source_files
  files_same new same = rw here (files_with files file new all (same ∙ file_here))

  pub now_same : (new : FileLists) → new.now ≡ (get_or files n d).now → files_now (set files n new) ≡ files_now files
  now_same new same = rw here (now_with files file new ∙ ap (with_items (files_now files) file) (same ∙ now_here) ∙ same_items (files_now files) file)

  pub next_are : (new : FileLists) → files_next (set files n new) ≡ with_items (files_next files) file new.next
  next_are new = rw here (next_with files file new)

  pub answered : (r : Result (List Bounds) OpStop) (op : Op) (spans : List FileItem → List Bounds) (new : FileLists) → op_file op ≡ file → AnswersOp r (edited (get_or files n d).next op) (spans (get_or files n d).next) (get_or files n d).next new.next → AnswersOp r (op_or_rule (files_next files) op) (spans (items_at (files_next files) (op_file op))) (files_next files) (files_next (set files n new))
  answered r op spans new of h =
      let at : AnswersOp r (edited (items_at (files_next files) file) op) (spans (items_at (files_next files) file)) (items_at (files_next files) file) new.next = subst (λ (is : List FileItem). AnswersOp r (edited is op) (spans is) is new.next) next_here h in
      rw (of, next_are new) (lifted (files_next files) file r (edited (items_at (files_next files) file) op) (spans (items_at (files_next files) file)) new.next at)

  pub all_kept : (r : Result (List Bounds) OpStop) (op : Op) (spans : List FileItem → List Bounds) (new : FileLists) → Keeping op → AllAreKept (files_next files) → op_file op ≡ file → AnswersOp r (edited (get_or files n d).next op) (spans (get_or files n d).next) (get_or files n d).next new.next → AllAreKept (files_next (set files n new))
  all_kept r op spans new laws kept of h =
      let at : AnswersOp r (edited (items_at (files_next files) file) op) (spans (items_at (files_next files) file)) (items_at (files_next files) file) new.next = subst (λ (xs : List FileItem). AnswersOp r (edited xs op) (spans xs) xs new.next) next_here h in
      let old : AreSound (op_file op) (items_at (files_next files) file) = rw of (kept.each file) in
      let next : AreSound file new.next = subst (λ (f : SourceFile). AreSound f new.next) of (still_sound op (items_at (files_next files) file) r (edited (items_at (files_next files) file) op) (spans (items_at (files_next files) file)) new.next laws old refl at) in
      rw (next_are new) (kept_with (files_next files) file new.next kept next)

-- ---- all files together

pub now_committed : (files : List FileLists) → files_now (map committed files) ≡ files_next files
now_committed [] = refl
now_committed (f ∷ fs) = ap (λ (xs : List (List FileItem)). f.next ∷ xs) (now_committed fs)

pub next_committed : (files : List FileLists) → files_next (map committed files) ≡ files_next files
next_committed [] = refl
next_committed (f ∷ fs) = ap (λ (xs : List (List FileItem)). f.next ∷ xs) (next_committed fs)

pub files_committed : (files : List FileLists) → map (λ (l : FileLists). l.file) (map committed files) ≡ map (λ (l : FileLists). l.file) files
files_committed [] = refl
files_committed (f ∷ fs) = ap (λ (xs : List SourceFile). f.file ∷ xs) (files_committed fs)

pub now_discarded : (files : List FileLists) → files_now (map discarded files) ≡ files_now files
now_discarded [] = refl
now_discarded (f ∷ fs) = ap (λ (xs : List (List FileItem)). f.now ∷ xs) (now_discarded fs)

pub next_discarded : (files : List FileLists) → files_next (map discarded files) ≡ files_now files
next_discarded [] = refl
next_discarded (f ∷ fs) = ap (λ (xs : List (List FileItem)). f.now ∷ xs) (next_discarded fs)

pub files_discarded : (files : List FileLists) → map (λ (l : FileLists). l.file) (map discarded files) ≡ map (λ (l : FileLists). l.file) files
files_discarded [] = refl
files_discarded (f ∷ fs) = ap (λ (xs : List SourceFile). f.file ∷ xs) (files_discarded fs)

-- one more file is done
pub more_done : {P : Type 0} (f : P → P) (xs ys : List P) (k : ℕ) (d new : P) → length xs ≡ 9 → ys ≡ map f (take k xs) ++ drop k xs → k < 9 → new ≡ f (get_or ys k d) → set ys k new ≡ map f (take (k + 1) xs) ++ drop (k + 1) xs
more_done f xs ys k d new nine so_far lt is =
    let first = length-append (map f (take k xs)) (drop k xs) in
    let second = length-map (take k xs) f in
    let third = length-take-le k xs (omega arith) in
    let fourth = length-drop k xs in
    let whole = ap length so_far in
    let read = sym (get_or_default ys k (get_or ys k d) d (omega arith)) in
    rw is (map_over_more f xs ys k (get_or ys k d) (omega arith) so_far read)
