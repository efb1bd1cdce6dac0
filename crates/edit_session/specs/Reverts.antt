-- Groups with a way back, and ways that are gone back.
-- IsValidWayBack patch files   the patch is a way back from the files, and the rows to which it leads are valid
-- Keeps patch after before     the patch leads from the files after a group back to those before it, and is such a way
-- first_of result              the first of two answers; or why there is none
-- RevertsAs result files old new   what a revert is answered and what it leaves: these files, now and next, and the code points whose
--                              records differ; all is as it was if memory ran out
use Rattle.std.specs.Prelude.{◌≡◌, List, None, Result, Ok, Err}
use Rattle.ucd_points.specs.declared.memory.Memory.{Memory}
use Rattle.ucd_model.specs.Validity.{first_broken}
use Rattle.release_rows.specs.Patches.{IsWayBack, LeadsBack, SpliceItems, back}
use Rattle.release_rows.specs.Releases.{ReleaseItems, FileItem}
use Rattle.edit_session.specs.Groups.{changed, files_facts}
use Rattle.edit_session.specs.declared.accepted.Accepted.{Accepted}

pub record IsValidWayBack (patch : List SpliceItems) (files : List (List FileItem)) : Type 0 where
  pub way : IsWayBack patch files
  pub valid : first_broken (files_facts (back patch files)) ≡ None

pub record Keeps (patch : List SpliceItems) (after before : List (List FileItem)) : Type 0 where
  pub leads : LeadsBack patch after before
  pub way : IsValidWayBack patch after

abbrev pub first_of : {A B E : Type 0} → Result (A × B) E → Result A E
first_of (Ok (first, second)) = Ok first
first_of (Err stop) = Err stop

abbrev pub RevertsAs : Result Accepted Memory → List (List FileItem) → ReleaseItems → ReleaseItems → Type 0
RevertsAs (Ok accepted) files old new = (new ≡ record { current = files; prepared = files }) × (accepted.changed ≡ changed (files_facts old.current) (files_facts files))
RevertsAs (Err _) files old new = new ≡ old
