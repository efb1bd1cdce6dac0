-- What `desk` and `undo` read and judge: a folder of nine files, and the file behind it.
--
-- read_from is what the bytes of the file behind tell, and with_files puts that to the files of the folder
use Rattle.std.proofs.Common.{◌≡◌, ℕ, List, map, Option, Result, Ok, sym, ap, ◌∙◌, arith}
use Rattle.release_rows.specs.Releases.{ReleaseItems, FileItem}
use Rattle.run_endings.specs.Endings.{Seen}
use Rattle.run_endings.specs.Reading.{cut}
use Rattle.run_endings.specs.ReadingProofs.{held_cut}
use Rattle.run_inputs.specs.CutProofs.{cut_folder, cut_second}
use Rattle.run_inputs.specs.Held.{StayOutside, held_at, source_held}
use Rattle.run_inputs.specs.Refusals.{folder_verdict}
use Rattle.run_inputs.specs.Verdict.{and_then, second_verdict}
use Rattle.run_inputs.specs.declared.refusal.FileRule.{FileRule}

module _ {A B : Type 0} (read_from : Result (List ℕ) FileRule → Result A (List ℕ)) (with_files : List (List FileItem) → Result A (List ℕ) → Result B (List ℕ)) (input : List ℕ) where
  abbrev from_both : Result (List (List FileItem)) (List ℕ) → Option (List ℕ) → Result B (List ℕ)
  from_both files held = and_then files (λ items. with_files items (read_from (second_verdict held)))

  abbrev verdict : Seen → Result B (List ℕ)
  verdict seen = from_both (folder_verdict input (source_held seen 0)) (held_at seen 9)

  -- of what is seen no more is read than decides
  pub cut_verdict : (seen : Seen) → verdict (map cut seen) ≡ verdict seen
  cut_verdict seen =
      ap (λ (files : Result (List (List FileItem)) (List ℕ)). from_both files (held_at (map cut seen) 9)) (cut_folder input seen 0)
      ∙ ap (λ (file : Result (List ℕ) FileRule). and_then (folder_verdict input (source_held seen 0)) (λ items. with_files items (read_from file))) (ap second_verdict (held_cut seen 9) ∙ cut_second (held_at seen 9))

  -- the folder is judged, and what is held behind it stays
  pub judged_behind : (old new : Seen) (bench : ReleaseItems) → folder_verdict input (source_held old 0) ≡ Ok bench.current → StayOutside 0 old new
      → with_files bench.current (read_from (second_verdict (held_at new 9))) ≡ verdict old
  judged_behind old new bench files others =
      ap (λ (held : Option (List ℕ)). with_files bench.current (read_from (second_verdict held))) (others.behind 9 (omega arith))
      ∙ ap (λ (v : Result (List (List FileItem)) (List ℕ)). from_both v (held_at old 9)) (sym files)
