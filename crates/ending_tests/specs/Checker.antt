-- A program that judges the source files of a folder, and writes one file: what a second program needs to say.
-- Check                    the folder that is judged, and the path that is written
-- check_of folder output   these two
-- form words               `DATA OUT`; None for all other words
-- valid_ending check       the ending where nothing is refused: one file, which says so, and the summary
-- judged check verdict     Finishes with it; or Refuses with the line that refuses the folder
-- checker                  the program
use Rattle.std.specs.Prelude.{ℕ, false, List, [], ◌∷◌, Option, Some, None, Result, Ok, Err, codes}
use Rattle.run_endings.specs.Endings.{Ending, Expected, Finishes, Program, Refuses}
use Rattle.run_inputs.specs.Held.{source_held}
use Rattle.run_inputs.specs.Paths.{sources_in}
use Rattle.run_inputs.specs.Refusals.{folder_verdict}

pub record Check : Type 0 where
  pub folder : List ℕ
  pub output : List ℕ

abbrev pub check_of : (folder output : List ℕ) → Check
check_of folder output = record { folder = folder; output = output }

abbrev pub form : List (List ℕ) → Option Check
form (folder ∷ output ∷ []) = Some (check_of folder output)
form _ = None

abbrev pub valid_ending : Check → Ending
valid_ending check = record { files = record { path = check.output; bytes = codes "valid\n" } ∷ []; summary = codes "check: valid\n"; done = false }

abbrev pub judged : {A : Type 0} → Check → Result A (List ℕ) → Expected
judged check (Ok files) = Finishes (valid_ending check)
judged check (Err line) = Refuses line

abbrev pub checker : Program Check
checker = record {
  usage = codes "usage: check DATA OUT\n";
  form = form;
  needed = λ check. sources_in check.folder;
  written = λ check. check.output ∷ [];
  expected = λ check seen. judged check (folder_verdict check.folder (source_held seen 0));
}
