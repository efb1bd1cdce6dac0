-- What `conform` reads and judges.
use Rattle.std.proofs.Common.{◌≡◌, ℕ, List, map, Option, Result, Ok, sym, ap, ◌∙◌, arith}
use Rattle.release_rows.specs.Releases.{ReleaseItems, FileItem}
use Rattle.norm_conformance.specs.declared.case.Cases.{Cases}
use Rattle.edit_session.specs.Benches.{HasNothingPrepared}
use Rattle.run_endings.specs.Endings.{Seen}
use Rattle.run_endings.specs.Reading.{cut}
use Rattle.run_endings.specs.ReadingProofs.{held_cut}
use Rattle.run_endings.specs.declared.stop.Stop.{Stop}
use Rattle.run_inputs.specs.CutProofs.{cut_folder, cut_second}
use Rattle.run_inputs.specs.Held.{StayOutside, held_at, source_held}
use Rattle.run_inputs.specs.Judging.{ToldAs}
use Rattle.run_inputs.specs.Refusals.{folder_verdict}
use Rattle.run_inputs.specs.Verdict.{and_then, release_items, second_verdict}
use Rattle.ucdshop_more_core.proofs.FolderLemmas.{still_items}
use Rattle.ucdshop_more_core.specs.Trials.{cases_of, cases_told, trial_verdict, with_cases}
use Rattle.ucdshop_more_core.specs.declared.trial.Trial.{Trial}

abbrev from_both : Result (List (List FileItem)) (List ℕ) → Result Cases (List ℕ) → Result Trial (List ℕ)
from_both files cases = and_then files (λ items. with_cases (release_items items) cases)

-- of what is seen no more is read than decides
cut_cases : (tests : List ℕ) (seen : Seen) → cases_told tests (held_at (map cut seen) 9) ≡ cases_told tests (held_at seen 9)
cut_cases tests seen = ap (cases_of tests) (ap second_verdict (held_cut seen 9) ∙ cut_second (held_at seen 9))

pub cut_trial : (input tests : List ℕ) (seen : Seen) → trial_verdict input tests (map cut seen) ≡ trial_verdict input tests seen
cut_trial input tests seen =
    ap (λ (files : Result (List (List FileItem)) (List ℕ)). from_both files (cases_told tests (held_at (map cut seen) 9))) (cut_folder input seen 0)
    ∙ ap (from_both (folder_verdict input (source_held seen 0))) (cut_cases tests seen)

-- the folder is judged, and what is held behind it stays
pub judged_behind : (input tests : List ℕ) (old new : Seen) (bench : ReleaseItems) → folder_verdict input (source_held old 0) ≡ Ok bench.current → HasNothingPrepared bench → StayOutside 0 old new
    → with_cases bench (cases_told tests (held_at new 9)) ≡ trial_verdict input tests old
judged_behind input tests old new bench files still others =
    ap (λ (held : Option (List ℕ)). with_cases bench (cases_told tests held)) (others.behind 9 (omega arith))
    ∙ ap (λ (release : ReleaseItems). with_cases release (cases_told tests (held_at old 9))) (sym (still_items bench still))
    ∙ ap (λ (v : Result (List (List FileItem)) (List ℕ)). from_both v (cases_told tests (held_at old 9))) (sym files)

abbrev pub TriedAs : Result Trial Stop → Result Trial (List ℕ) → Type 0
TriedAs result verdict = ToldAs (λ (trial : Trial). trial) result verdict
