-- Writing the files that a run makes.
-- file_of output                         the file of an output, without its line
-- files_of outputs                       the files of the outputs, in order
-- StopsAt place output line outputs tells old new   the output is the one at this place, and the line is its line; where contents
--                                        are told, the files before it are put in order, its path holds anything or is absent,
--                                        and every other path holds what it held
-- StoppedAt line outputs tells old new   so it is at some place, of some output
use Rattle.std.specs.Prelude.{◌≡◌, ◌≢◌, ℕ, Bool, IsTrue, List, take, map, slice_get, Some}
use Rattle.run_endings.specs.Endings.{Contents, NewFile, after}
use Rattle.run_endings.specs.declared.output.Output.{Output}

abbrev pub file_of : Output → NewFile
file_of output = record { path = output.path; bytes = output.bytes }

abbrev pub files_of : List Output → List NewFile
files_of outputs = map file_of outputs

pub record StopsAt (place : ℕ) (output : Output) (line : List ℕ) (outputs : List Output) (tells : Bool) (old new : Contents) : Type 0 where
  pub here : slice_get outputs place ≡ Some output
  pub told : line ≡ output.fault_line
  pub others : IsTrue tells → (path : List ℕ) → path ≢ output.path → new path ≡ after (take place (files_of outputs)) old path

abbrev pub StoppedAt : List ℕ → List Output → Bool → Contents → Contents → Type 0
StoppedAt line outputs tells old new = (place : ℕ) × (output : Output) × StopsAt place output line outputs tells old new
