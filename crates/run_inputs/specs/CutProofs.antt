-- The verdict on what was read, of which no more was read than decides it, is the verdict on what was seen.
use Rattle.std.proofs.Common.{◌≡◌, ℕ, ◌+◌, List, map, Option, Some, None, Result, Ok, Err, refl, ap, ◌∙◌}
use mathlib.Core.Path.{fun_ext}
use Rattle.ucd_points.specs.SourceFiles.{file_place, source_files}
use Rattle.release_rows.specs.FileItems.{FileItem, SourceFile}
use Rattle.release_rows.specs.Loading.{file_or_fault}
use Rattle.release_rows.specs.declared.load_stop.LoadRule.TheVariants as load
use Rattle.ucd_model.specs.Validity.{first_broken}
use Rattle.edit_session.specs.Groups.{files_facts}
use Rattle.run_endings.specs.Endings.{Seen}
use Rattle.run_endings.specs.Reading.{cut}
use Rattle.run_endings.specs.ReadingProofs.{cut_decides, held_cut}
use Rattle.run_inputs.specs.Held.{held_at, source_held}
use Rattle.run_inputs.specs.Refusals.{folder_line, folder_verdict, script_line, script_told, told}
use Rattle.run_inputs.specs.Verdict.{all_items, and_then, commands_in, file_verdict, script_verdict, second_verdict, told_items, valid_files}
use Rattle.run_inputs.specs.declared.refusal.FileRule.{FileRule}
use Rattle.run_inputs.specs.declared.refusal.FileRule.TheVariants.{G02}
use Rattle.run_inputs.specs.declared.refusal.FolderRefusal.{FolderRefusal}

-- ---- a folder

cut_file : (file : SourceFile) (held : Option (List ℕ)) → file_verdict file (cut held) ≡ file_verdict file held
unfolding file_verdict
cut_file file None = refl
cut_file file (Some bytes) = ap (told_items file) (cut_decides bytes (Err (record { line = 0; rule = load.G02 })) (file_or_fault file))

abbrev folder_from : List ℕ → (SourceFile → Result (List FileItem) FolderRefusal) → Result (List (List FileItem)) (List ℕ)
folder_from folder verdict_on = told (folder_line folder) (and_then (all_items verdict_on source_files) (λ files. valid_files files (first_broken (files_facts files))))

pub cut_folder : (folder : List ℕ) (seen : Seen) (first : ℕ) → folder_verdict folder (source_held (map cut seen) first) ≡ folder_verdict folder (source_held seen first)
cut_folder folder seen first =
    ap (folder_from folder) (fun_ext (λ file. ap (file_verdict file) (held_cut seen (first + file_place file)) ∙ cut_file file (source_held seen first file)))

-- ---- the file beside it

pub cut_second : (held : Option (List ℕ)) → second_verdict (cut held) ≡ second_verdict held
cut_second None = refl
cut_second (Some bytes) = cut_decides {A = Result (List ℕ) FileRule} bytes (Err G02) (λ bs. Ok bs)

pub cut_script : (path : List ℕ) (seen : Seen) (at : ℕ) → script_told path (held_at (map cut seen) at) ≡ script_told path (held_at seen at)
unfolding script_verdict
cut_script path seen at =
    ap (λ (bytes : Result (List ℕ) FileRule). told (script_line path) (commands_in bytes)) (ap second_verdict (held_cut seen at) ∙ cut_second (held_at seen at))
