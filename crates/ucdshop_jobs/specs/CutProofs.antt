-- The verdict on what was read, of which no more was read than decides it, is the verdict on what was seen.
-- all_three files commands earlier   the three together, or the refusal of the first that has one
use Rattle.std.proofs.Common.{◌≡◌, ℕ, List, map, Option, Some, None, Result, Ok, refl, ap, ◌∙◌}
use Rattle.release_rows.specs.FileItems.{FileItem}
use Rattle.script_lines.specs.declared.command.Command.{Command}
use Rattle.run_endings.specs.Reading.{cut}
use Rattle.run_endings.specs.Endings.{Seen}
use Rattle.run_inputs.specs.CutProofs.{cut_folder, cut_script}
use Rattle.run_inputs.specs.Held.{held_at, source_held}
use Rattle.run_inputs.specs.Refusals.{folder_verdict}
use Rattle.run_inputs.specs.Verdict.{and_then}
use Rattle.ucdshop_jobs.specs.Jobs.{Job}
use Rattle.ucdshop_jobs.specs.Run.{Inputs, commands_verdict, earlier_place, earlier_verdict, inputs_verdict}

cut_commands : (script : Option (List ℕ)) (seen : Seen) → commands_verdict script (held_at (map cut seen) 9) ≡ commands_verdict script (held_at seen 9)
cut_commands None seen = refl
cut_commands (Some script) seen = cut_script script seen 9

cut_earlier : (previous : Option (List ℕ)) (seen : Seen) (first : ℕ) → earlier_verdict previous (source_held (map cut seen) first) ≡ earlier_verdict previous (source_held seen first)
cut_earlier None seen first = refl
cut_earlier (Some folder) seen first = ap (λ (files : Result (List (List FileItem)) (List ℕ)). and_then files (λ fs. Ok (Some fs))) (cut_folder folder seen first)

abbrev Earlier : Type 0
Earlier = Result (Option (List (List FileItem))) (List ℕ)

abbrev pub all_three : Result (List (List FileItem)) (List ℕ) → Result (List Command) (List ℕ) → Earlier → Result Inputs (List ℕ)
all_three files commands earlier = and_then files (λ f. and_then commands (λ c. and_then earlier (λ e. Ok (record { files = f; commands = c; earlier = e }))))

pub cut_verdict : (job : Job) (seen : Seen) → inputs_verdict job (map cut seen) ≡ inputs_verdict job seen
cut_verdict job seen =
    let read : Seen = map cut seen in
    let first : ℕ = earlier_place job in
    ap (λ (files : Result (List (List FileItem)) (List ℕ)). all_three files (commands_verdict job.script (held_at read 9)) (earlier_verdict job.previous (source_held read first)))
    (cut_folder job.folder seen 0)
    ∙ ap (λ (commands : Result (List Command) (List ℕ)). all_three (folder_verdict job.folder (source_held seen 0)) commands (earlier_verdict job.previous (source_held read first)))
    (cut_commands job.script seen)
    ∙ ap (all_three (folder_verdict job.folder (source_held seen 0)) (commands_verdict job.script (held_at seen 9))) (cut_earlier job.previous seen first)
