-- What a run is to do, by its words and by what the shelf holds.
-- Job                              what is asked for: Desk input events output, to let editors work on the release of a folder as a file of
--                                  events says, and to write what its files are then, and what was replied, into another folder;
--                                  Undo input script output depth, to carry out on the release of a folder what a script asks of a history that
--                                  keeps so many earlier states, and to write what its files are then, what is derived of them, and what
--                                  was answered, into another folder;
--                                  Conform input tests output, to write into a folder what the release of a folder
--                                  misses of the cases in a file; Ages output folders, to write the ages of code points over the releases of these
--                                  folders, in order, and what each step from a release to the next breaks, into another folder
-- folder_limit                     the greatest number of folders
-- depth_limit                      the greatest number of earlier states that a history keeps
-- desk_form arguments              what the words behind `desk` ask for: DATA, EVENTS and OUT
-- within_limit depth               the number, where it is from 1 to the limit
-- undo_depth word                  the number of earlier states that a word asks for: a decimal number with no zero to spare, from 1 to the limit
-- undo_form arguments              what the words behind `undo` ask for: DATA, SCRIPT, OUT and DEPTH
-- conform_form arguments           what the words behind `conform` ask for: DATA, TESTS and OUT
-- ages_form arguments              what the words behind `ages` ask for: OUT, and one folder or more, up to the limit
-- form words                       what the words ask for; None where they have no listed form
-- needed job                       the paths that are read, in order
--
-- The verdict
-- folders_verdict folders seen     the release in each of these folders, of which this was seen, folder after folder; or the line that
--                                  refuses the first folder that is refused: by a file, or by a code point
--
-- What is written
-- events_of turns                  the events of turns, in order
-- lines_of turns                   the lines of their marks
-- desk_log_file folder text        the log: its path below the folder, with its text
-- desk_ending_by output files text accepted refused   the ending of `desk`: the source files as they are then, and the log; how many
--                                  groups were carried out, and how often an editor was turned away: then something is refused
-- desk_ending_from output s turns  the ending of `desk` on a desk of this state, by what the turns leave and what is replied to them
-- desk_ending output session       the ending of `desk` on a new desk
-- release_files folder files       the source files, as they are then, and what is derived of them
-- undo_log_file folder text        the log: its path below the folder, with its text
-- course_ending output s           the ending of `undo` by what its moves come to: something is refused where a group is, or where there was
--                                  nothing to take back
-- undo_ending output depth draft   the ending of `undo` on a new history that keeps so many earlier states
-- misses_file folder misses        what is missed: its path below the folder, with its text
-- conform_ending output trial      the ending of `conform` on this trial: something is broken where something is missed
-- ages_file folder releases        the ages: their path below the folder, with their text
-- steps_file folder releases       the steps: their path below the folder, with their text
-- aged_count releases              how many code points have an age: the total that their text tells
-- age_counts releases              what the summary counts
-- ages_ending output releases      the ending of `ages` on these releases: something is broken where a step has a break
-- output_paths job                 the paths of the files that are written, which the words alone give
-- finished ending verdict          Finishes with the ending on what was judged; or Refuses with the line that refuses it
-- expected_of job seen             what is expected of a job, by what was seen at the paths that it needs
-- ucdshop_more                     this program
use Rattle.std.specs.Prelude.{ℕ, ◌&&◌, List, [], ◌∷◌, ◌++◌, length, map, drop, Option, Some, None, Result, Ok, Err, nat_le, nat_lt, if◌then◌else◌, codes, count_by, flat_map, option_map, bytes_eq}
use Rattle.release_rows.specs.Releases.{ReleaseItems, FileItem}
use Rattle.ucd_points.specs.Limits.{point_count}
use Rattle.ucd_points.specs.SourceFiles.{source_files}
use Rattle.ucd_facts.specs.Enumerations.{derived_files}
use Rattle.ucd_model.specs.Labels.{labelled}
use Rattle.age_chain.specs.Ages.{age, age_label, age_text}
use Rattle.bench_editors.specs.Desks.{DeskState, after_events, replies, started}
use Rattle.bench_editors.specs.declared.event.Event.{Event}
use Rattle.run_endings.specs.Endings.{NewFile, Ending, Expected, Finishes, Program, Refuses, Seen}
use Rattle.run_inputs.specs.Files.{derived_file, source_file}
use Rattle.run_inputs.specs.Held.{source_held}
use Rattle.run_inputs.specs.Paths.{derived_in, sources_in}
use Rattle.run_inputs.specs.Refusals.{folder_verdict}
use Rattle.run_inputs.specs.Verdict.{and_then, release_items}
use Rattle.script_pieces.specs.Decimals.{number_of}
use Rattle.ucdshop_more_core.specs.DeskTexts.{desk_log, is_accepted, is_turned_away}
use Rattle.ucdshop_more_core.specs.Drafts.{Draft, draft_verdict}
use Rattle.ucdshop_more_core.specs.Paths.{ages_in, desk_log_in, misses_in, steps_in, undo_log_in}
use Rattle.ucdshop_more_core.specs.Printed.{AgeCounts, ages_summary, conform_summary, desk_summary, undo_summary, usage}
use Rattle.ucdshop_more_core.specs.Sessions.{Session, session_verdict}
use Rattle.ucdshop_more_core.specs.Trials.{trial_verdict}
use Rattle.ucdshop_more_core.specs.Turns.{Turn}
use Rattle.ucdshop_more_core.specs.Undoing.{Course, course}
use Rattle.ucdshop_more_core.specs.declared.trial.Trial.{Trial}
use Rattle.ucdshop_more_core.specs.MissTexts.{misses_of, misses_text}
use Rattle.norm_conformance.specs.declared.miss.Miss.{Miss}
use Rattle.ucdshop_more_core.specs.Steps.{breaks_in, steps_of, steps_text}

-- ---- the words

pub data Job : Type 0 where
  Desk : (input events output : List ℕ) → Job
  Undo : (input script output : List ℕ) (depth : ℕ) → Job
  Conform : (input tests output : List ℕ) → Job
  Ages : (output : List ℕ) (folders : List (List ℕ)) → Job

abbrev pub folder_limit : ℕ
folder_limit = 16

abbrev pub depth_limit : ℕ
depth_limit = 1024

abbrev pub desk_form : List (List ℕ) → Option Job
desk_form (input ∷ events ∷ output ∷ []) = Some (Desk input events output)
desk_form _ = None

abbrev pub within_limit : Option ℕ → Option ℕ
within_limit (Some depth) = if nat_le 1 depth && nat_le depth depth_limit then Some depth else None
within_limit None = None

abbrev pub undo_depth : List ℕ → Option ℕ
undo_depth word = within_limit (number_of word)

abbrev pub undo_form : List (List ℕ) → Option Job
undo_form (input ∷ script ∷ output ∷ depth ∷ []) = option_map (Undo input script output) (undo_depth depth)
undo_form _ = None

abbrev pub conform_form : List (List ℕ) → Option Job
conform_form (input ∷ tests ∷ output ∷ []) = Some (Conform input tests output)
conform_form _ = None

abbrev pub ages_form : List (List ℕ) → Option Job
ages_form [] = None
ages_form (output ∷ folders) = if nat_lt 0 (length folders) && nat_le (length folders) folder_limit then Some (Ages output folders) else None

abbrev pub form : List (List ℕ) → Option Job
form [] = None
form (word ∷ arguments) =
    if bytes_eq word (codes "desk") then desk_form arguments
    else (if bytes_eq word (codes "undo") then undo_form arguments
    else (if bytes_eq word (codes "conform") then conform_form arguments
    else (if bytes_eq word (codes "ages") then ages_form arguments
    else None)))

-- ---- what is read

abbrev pub needed : Job → List (List ℕ)
needed (Desk input events output) = sources_in input ++ events ∷ []
needed (Undo input script output depth) = sources_in input ++ script ∷ []
needed (Conform input tests output) = sources_in input ++ tests ∷ []
needed (Ages output folders) = flat_map sources_in folders

-- ---- the verdict

-- a folder has nine files
abbrev pub folders_verdict : List (List ℕ) → Seen → Result (List ReleaseItems) (List ℕ)
folders_verdict [] seen = Ok []
folders_verdict (folder ∷ later) seen =
    and_then (folder_verdict folder (source_held seen 0)) (λ files. and_then (folders_verdict later (drop 9 seen)) (λ releases. Ok (release_items files ∷ releases)))

-- ---- what is written

abbrev pub events_of : List Turn → List Event
events_of turns = map (λ (turn : Turn). turn.event) turns

abbrev pub lines_of : List Turn → List ℕ
lines_of turns = map (λ (turn : Turn). turn.line) turns

abbrev pub desk_log_file : List ℕ → List ℕ → NewFile
desk_log_file folder text = record { path = desk_log_in folder; bytes = text }

abbrev pub desk_ending_by : List ℕ → List (List FileItem) → List ℕ → ℕ → ℕ → Ending
desk_ending_by output files text accepted refused = record {
  files = map (source_file output files) source_files ++ desk_log_file output text ∷ [];
  summary = desk_summary accepted refused;
  done = nat_lt 0 refused;
}

abbrev pub desk_ending_from : List ℕ → DeskState → List Turn → Ending
desk_ending_from output s turns =
    let answers = replies s (events_of turns) in
    desk_ending_by output (after_events s (events_of turns)).files (desk_log (lines_of turns) answers) (count_by is_accepted answers) (count_by is_turned_away answers)

abbrev pub desk_ending : List ℕ → Session → Ending
desk_ending output session = desk_ending_from output (started session.files) session.turns

abbrev pub release_files : List ℕ → List (List FileItem) → List NewFile
release_files folder files = map (source_file folder files) source_files ++ map (derived_file folder files) derived_files

abbrev pub undo_log_file : List ℕ → List ℕ → NewFile
undo_log_file folder text = record { path = undo_log_in folder; bytes = text }

abbrev pub course_ending : List ℕ → Course → Ending
course_ending output s = record {
  files = release_files output s.history.files ++ undo_log_file output s.log ∷ [];
  summary = undo_summary s.accepted s.undone;
  done = nat_lt 0 s.refused;
}

abbrev pub undo_ending : List ℕ → ℕ → Draft → Ending
undo_ending output depth draft = course_ending output (course depth draft.files draft.moves)

abbrev pub misses_file : List ℕ → List Miss → NewFile
misses_file folder misses = record { path = misses_in folder; bytes = misses_text misses }

abbrev pub conform_ending : List ℕ → Trial → Ending
conform_ending output trial = record {
  files = misses_file output (misses_of trial) ∷ [];
  summary = conform_summary (length trial.cases.list) (length (misses_of trial));
  done = nat_lt 0 (length (misses_of trial));
}

abbrev pub ages_file : List ℕ → List ReleaseItems → NewFile
ages_file folder releases = record { path = ages_in folder; bytes = age_text releases }

abbrev pub steps_file : List ℕ → List ReleaseItems → NewFile
steps_file folder releases = record { path = steps_in folder; bytes = steps_text (steps_of releases) }

abbrev pub aged_count : List ReleaseItems → ℕ
aged_count releases = labelled point_count (λ c. age_label (age releases c))

abbrev pub age_counts : List ReleaseItems → AgeCounts
age_counts releases = record { releases = length releases; points = aged_count releases; breaks = breaks_in (steps_of releases) }

abbrev pub ages_ending : List ℕ → List ReleaseItems → Ending
ages_ending output releases = record {
  files = ages_file output releases ∷ steps_file output releases ∷ [];
  summary = ages_summary (age_counts releases);
  done = nat_lt 0 (breaks_in (steps_of releases));
}

abbrev pub output_paths : Job → List (List ℕ)
output_paths (Desk input events output) = sources_in output ++ desk_log_in output ∷ []
output_paths (Undo input script output depth) = sources_in output ++ map (derived_in output) derived_files ++ undo_log_in output ∷ []
output_paths (Conform input tests output) = misses_in output ∷ []
output_paths (Ages output folders) = ages_in output ∷ steps_in output ∷ []

abbrev pub finished : {A : Type 0} → (A → Ending) → Result A (List ℕ) → Expected
finished ending (Ok value) = Finishes (ending value)
finished ending (Err line) = Refuses line

abbrev pub expected_of : Job → Seen → Expected
expected_of (Desk input events output) seen = finished (desk_ending output) (session_verdict input events seen)
expected_of (Undo input script output depth) seen = finished (undo_ending output depth) (draft_verdict input script seen)
expected_of (Conform input tests output) seen = finished (conform_ending output) (trial_verdict input tests seen)
expected_of (Ages output folders) seen = finished (ages_ending output) (folders_verdict folders seen)

abbrev pub ucdshop_more : Program Job
ucdshop_more = record { usage = usage; form = form; needed = needed; written = output_paths; expected = expected_of }
