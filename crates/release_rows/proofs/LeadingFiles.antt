-- Patches lead back, in all files.
use Rattle.std.proofs.Common.{◌≡◌, ℕ, ◌+◌, ◌<◌, List, [], ◌++◌, ◌∷◌, length, map, take, drop, set, get_or, true, Result, Ok, Err, sym, ap, subst, ◌∙◌, arith, is_err}
use Rattle.std.proofs.lemmas.List.{append_assoc, drop_more, get_or-map, get_or_at, length-append, length-drop, length-map, length-take-le, set_at, take_more}
use Rattle.ucd_points.specs.Bounds.{Bounds}
use Rattle.ucd_points.specs.declared.memory.Memory.{Memory}
use Rattle.ucd_points.specs.SourceFiles.{file_at, file_place, file_place-at, source_files}
use Rattle.ucd_points.specs.declared.files.SourceFile.TheVariants.{UnicodeData}
use Rattle.part_list.specs.Parts.{spliced}
use Rattle.release_rows.specs.Back.{LeadsOn}
use Rattle.release_rows.specs.FileItems.{FileItem, FileLists, SourceFile}
use Rattle.release_rows.specs.Patches.{AnswersBack, LeadsBack, SpliceItems, undone}
use Rattle.release_rows.specs.Releases.{ReleaseItems, files_next, files_now, items_at, with_items}
use Rattle.release_rows.proofs.FilesEdited.{next_are, next_here}

-- one more file has its items now
mixed_more : (now next : List (List FileItem)) (at : ℕ) → at < length now → length next ≡ length now
    → (get_or (take at now ++ drop at next) at [] ≡ get_or next at []) × (set (take at now ++ drop at next) at (get_or now at []) ≡ take (at + 1) now ++ drop (at + 1) next)
mixed_more now next at lt both =
    let long = length-take-le at now (omega arith) in
    let cut : take at now ++ drop at next ≡ take at now ++ get_or next at [] ∷ drop (at + 1) next = ap (λ (l : List (List FileItem)). take at now ++ l) (drop_more next at [] (omega arith)) in (
      ap (λ (l : List (List FileItem)). get_or l at []) cut ∙ get_or_at (take at now) (get_or next at []) (drop (at + 1) next) [] at long,
      ap (λ (l : List (List FileItem)). set l at (get_or now at [])) cut ∙ set_at (take at now) (get_or next at []) (drop (at + 1) next) (get_or now at []) at long
          ∙ sym (ap (λ (l : List (List FileItem)). l ++ drop (at + 1) next) (take_more now at [] lt) ∙ append_assoc (take at now) (get_or now at [] ∷ []) (drop (at + 1) next)),
    )

pub leads_file : (files : List FileLists) (patch new : List SpliceItems) (at : ℕ) (d : FileLists) → map (λ (l : FileLists). l.file) files ≡ source_files → at < 9
    → LeadsBack patch (files_next files) (take at (files_now files) ++ drop at (files_next files)) → LeadsOn patch new (get_or files at d).file (get_or files at d).next (get_or files at d).now → LeadsBack new (files_next files) (take (at + 1) (files_now files) ++ drop (at + 1) (files_next files))
leads_file files patch new at d all lt so_far leads =
    let lists = get_or files at d in
    let long : length files ≡ 9 = sym (length-map files (λ (l : FileLists). l.file)) ∙ ap length all in
    let within : at < length files = omega arith in
    let nows = length-map files (λ (l : FileLists). l.now) in
    let nexts = length-map files (λ (l : FileLists). l.next) in
    let file_is : lists.file ≡ file_at at = sym (get_or-map (λ (l : FileLists). l.file) files at d UnicodeData within) ∙ ap (λ (fs : List SourceFile). get_or fs at UnicodeData) all in
    let place : file_place lists.file ≡ at = ap file_place file_is ∙ file_place-at at lt in
    let now_is : get_or (files_now files) at [] ≡ lists.now = get_or-map (λ (l : FileLists). l.now) files at d [] within in
    let next_is : get_or (files_next files) at [] ≡ lists.next = get_or-map (λ (l : FileLists). l.next) files at d [] within in
    let step = mixed_more (files_now files) (files_next files) at (omega arith) (omega arith) in
    let start = take at (files_now files) ++ drop at (files_next files) in
    let first = length-append (take at (files_now files)) (drop at (files_next files)) in
    let second = length-take-le at (files_now files) (omega arith) in
    let third = length-drop at (files_next files) in
    let here : items_at start lists.file ≡ lists.next = ap (λ k. get_or start k []) place ∙ step.0 ∙ next_is in
    let there : with_items start lists.file lists.now ≡ take (at + 1) (files_now files) ++ drop (at + 1) (files_next files) = ap (λ k. set start k lists.now) place ∙ ap (set start at) (sym now_is) ∙ step.1 in
    subst (LeadsBack new (files_next files)) there (leads (files_next files) start so_far (omega arith) here)

-- a splice is undone in its file
pub undone_next : (files : List FileLists) (s : SpliceItems) (n : ℕ) (d : FileLists) → map (λ (l : FileLists). l.file) files ≡ source_files → n ≡ file_place s.file → (new : FileLists) → new.next ≡ spliced (get_or files n d).next s.at (length s.later) s.earlier → files_next (set files n new) ≡ undone s (files_next files)
undone_next files s n d all here new is =
    next_are files s.file n d all here new ∙ ap (with_items (files_next files) s.file) (is ∙ ap (λ (l : List FileItem). spliced l s.at (length s.later) s.earlier) (next_here files s.file n d all here))

-- nothing was prepared where memory ran out
pub answers_none : (result : Result (List Bounds) Memory) (patch : List SpliceItems) (old new : ReleaseItems) → is_err result ≡ true → new ≡ old → AnswersBack result patch old new
answers_none (Ok spans) patch old new e same = absurd cc
answers_none (Err e) patch old new h same = same
