-- What a run is to do, by its words and by what the shelf holds.
--
-- What a run keeps stands in Promises.antt of run_endings, of any program; here stands this one, `ucdshop`. Its headline, phrase by phrase:
--   the words are a command               form, in Jobs.antt
--   every file loads                      file_verdict, in Verdict.antt of run_inputs; load_or_fault, in Loading.antt of release_rows
--   every code point is valid             valid_files, in Verdict.antt of run_inputs; first_broken, in Validity.antt of ucd_model
--   the script has no fault               script_told, in Refusals.antt of run_inputs; script_from, in Scripts.antt of script_lines
--   a command is carried out, or refused  step and session, in Session.antt; that a refused one changes nothing, in SessionLaws.antt
--   exactly the expected files            new_files, below; the words alone give their paths: output_paths, in Jobs.antt
--   each with exactly the expected bytes  part_files, below; source_file and derived_file, in Files.antt of run_inputs
--   exactly the breaks of the policies    breaks_since, below; report, in Reports.antt of stability_policies
-- RunExamples.antt has forms, lines and summaries, worked out.
--
-- The verdict
-- Inputs                           the items of the source files, in order, the commands, and the items of the source files of the
--                                  earlier release; None where there is none
-- commands_verdict script held     the commands of the script at this path, where it holds this; none where there is no script
-- earlier_verdict folder held      the earlier release, where its source files hold this; None where there is none
-- earlier_place job                the place of its first file among what is held: behind the release and the script
-- inputs_verdict job held          what is held of the source files, of the script behind them, and of the source files of the earlier
--                                  release behind that gives; or the line that refuses the first of these: a file, a code point, the
--                                  script, a file of the earlier release, a code point of it
-- made_text n file                 the text of a source file of the release that is made of n
-- made_held n file                 it as what is held
-- made_texts number                the texts of the source files of the release that is made of a number, and of its script
-- texts_of made seen               the texts that a job works on: those that are made of the number, else what was seen
-- job_verdict job seen             what these give, or the line that refuses them
--
-- What is written
-- log_file folder log              the log: its path below the folder, with its bytes
-- sets_file folder sets            the answers to the questions: their path below the folder, with their bytes
-- policy_file folder breaks        the policy report of these breaks: its path below the folder, with its text
-- made_file folder n file          a source file of the release that is made of n: its path below the folder, with its bytes
-- made_script folder               the script that is made: its path below the folder, with its bytes
-- made_files folder made           the release and the script that are made of the number; none where there is none
-- part_files job s breaks part     a part that a job writes after a session, with these breaks of policies: the source files as the
--                                  session leaves them, what is derived of them, the log, the answers, the policy report, or what is made
-- new_files job s breaks           all files that it writes then, in order
-- counts_of session breaks         what the summary counts
-- summary_of made rows s breaks    the summary of a job that began with so many rows of UnicodeData.txt, after a session, with these
--                                  breaks: that of a release that was made, or of any other
-- ending_of job rows s breaks      the ending of such a job
-- breaks_since earlier files       the breaks of the stability policies by these files against those of the earlier release; none where
--                                  there is none
-- inputs_ending job inputs         the ending of a job on these inputs: after the session of their commands, with the breaks by the files
--                                  that it leaves
-- judged job verdict               Finishes with the ending on what was judged; or Refuses with the line that refuses it
-- expected_of job seen             what is expected of a job, by what was seen at the paths that it needs
-- ucdshop                          this program
use Rattle.std.specs.Prelude.{ℕ, ◌+◌, ◌||◌, List, [], ◌∷◌, ◌++◌, length, map, Option, Some, None, Result, Ok, Err, nat_lt, option_to_list, flat_map}
use Rattle.ucd_facts.specs.Enumerations.{derived_files}
use Rattle.ucd_points.specs.SourceFiles.{source_files}
use Rattle.release_rows.specs.FileItems.{FileItem, SourceFile}
use Rattle.script_lines.specs.declared.command.Command.{Command}
use Rattle.release_maker.specs.MadeTexts.{source_text, script_text}
use Rattle.stability_policies.specs.ReportTexts.{report_text}
use Rattle.stability_policies.specs.Reports.{report}
use Rattle.stability_policies.specs.declared.breaks.Break.{Break}
use Rattle.ucdshop_jobs.specs.Jobs.{Job, form, needed, output_paths}
use Rattle.ucdshop_jobs.specs.Making.{data_rows, made_counts}
use Rattle.ucdshop_jobs.specs.Paths.{log_in, sets_in, script_in, policy_in}
use Rattle.ucdshop_jobs.specs.declared.job.Part.{Part}
use Rattle.ucdshop_jobs.specs.declared.job.Part.TheVariants.{Sources, Derived, Log, Sets, Report, Made}
use Rattle.run_endings.specs.Endings.{NewFile, Ending, Expected, Finishes, Program, Refuses, Seen}
use Rattle.ucdshop_jobs.specs.Printed.{Counts, summary, made_summary, usage}
use Rattle.run_inputs.specs.Files.{derived_file, source_file}
use Rattle.run_inputs.specs.Held.{held_at, source_held}
use Rattle.run_inputs.specs.Paths.{source_in}
use Rattle.run_inputs.specs.Refusals.{folder_verdict, script_told}
use Rattle.ucdshop_jobs.specs.Session.{Session, session}
use Rattle.run_inputs.specs.Verdict.{and_then, release_items}

-- ---- the verdict

pub record Inputs : Type 0 where
  pub files : List (List FileItem)
  pub commands : List Command
  pub earlier : Option (List (List FileItem))

abbrev pub commands_verdict : Option (List ℕ) → Option (List ℕ) → Result (List Command) (List ℕ)
commands_verdict None held = Ok []
commands_verdict (Some script) held = script_told script held

abbrev pub earlier_verdict : Option (List ℕ) → (SourceFile → Option (List ℕ)) → Result (Option (List (List FileItem))) (List ℕ)
earlier_verdict None held = Ok None
earlier_verdict (Some folder) held = and_then (folder_verdict folder held) (λ files. Ok (Some files))

abbrev pub earlier_place : Job → ℕ
earlier_place job = 9 + length (option_to_list job.script)

abbrev pub inputs_verdict : Job → Seen → Result Inputs (List ℕ)
inputs_verdict job held =
    and_then (folder_verdict job.folder (source_held held 0)) (λ files. and_then (commands_verdict job.script (held_at held 9)) (λ commands.
    and_then (earlier_verdict job.previous (source_held held (earlier_place job))) (λ earlier. Ok (record { files = files; commands = commands; earlier = earlier }))))

unfoldable pub made_text : ℕ → SourceFile → List ℕ
made_text n file = source_text n file

abbrev pub made_held : ℕ → SourceFile → Option (List ℕ)
made_held n file = Some (made_text n file)

abbrev pub made_texts : ℕ → Seen
made_texts number = map (made_held number) source_files ++ Some script_text ∷ []

abbrev pub texts_of : Option ℕ → Seen → Seen
texts_of None seen = seen
texts_of (Some number) seen = made_texts number

abbrev pub job_verdict : Job → Seen → Result Inputs (List ℕ)
job_verdict job seen = inputs_verdict job (texts_of job.made seen)

-- ---- what is written

abbrev pub log_file : List ℕ → List ℕ → NewFile
log_file folder log = record { path = log_in folder; bytes = log }

abbrev pub sets_file : List ℕ → List ℕ → NewFile
sets_file folder sets = record { path = sets_in folder; bytes = sets }

abbrev pub policy_file : List ℕ → List Break → NewFile
policy_file folder breaks = record { path = policy_in folder; bytes = report_text breaks }

abbrev pub made_file : List ℕ → ℕ → SourceFile → NewFile
made_file folder n file = record { path = source_in folder file; bytes = made_text n file }

abbrev pub made_script : List ℕ → NewFile
made_script folder = record { path = script_in folder; bytes = script_text }

abbrev pub made_files : List ℕ → Option ℕ → List NewFile
made_files folder None = []
made_files folder (Some number) = map (made_file folder number) source_files ++ made_script folder ∷ []

abbrev pub part_files : Job → Session → List Break → Part → List NewFile
part_files job s breaks Sources = map (source_file job.output s.files) source_files
part_files job s breaks Derived = map (derived_file job.output s.files) derived_files
part_files job s breaks Log = log_file job.output s.log ∷ []
part_files job s breaks Sets = sets_file job.output s.sets ∷ []
part_files job s breaks Report = policy_file job.output breaks ∷ []
part_files job s breaks Made = made_files job.output job.made

abbrev pub new_files : Job → Session → List Break → List NewFile
new_files job s breaks = flat_map (part_files job s breaks) job.parts

abbrev pub counts_of : Session → List Break → Counts
counts_of s breaks = record { accepted = s.accepted; refused = s.refused; answered = s.answered; broken = length breaks }

abbrev pub summary_of : Option ℕ → ℕ → Session → List Break → List ℕ
summary_of None rows s breaks = summary (counts_of s breaks)
summary_of (Some number) rows s breaks = made_summary (made_counts number rows s)

abbrev pub ending_of : Job → ℕ → Session → List Break → Ending
ending_of job rows s breaks = record {
  files = new_files job s breaks;
  summary = summary_of job.made rows s breaks;
  done = nat_lt 0 s.refused || nat_lt 0 (length breaks);
}

abbrev pub breaks_since : Option (List (List FileItem)) → List (List FileItem) → List Break
breaks_since None files = []
breaks_since (Some earlier) files = report (release_items earlier) (release_items files)

abbrev pub inputs_ending : Job → Inputs → Ending
inputs_ending job inputs =
    let s = session inputs.files inputs.commands in ending_of job (data_rows inputs.files) s (breaks_since inputs.earlier s.files)

abbrev pub judged : Job → Result Inputs (List ℕ) → Expected
judged job (Ok inputs) = Finishes (inputs_ending job inputs)
judged job (Err line) = Refuses line

abbrev pub expected_of : Job → Seen → Expected
expected_of job seen = judged job (job_verdict job seen)

abbrev pub ucdshop : Program Job
ucdshop = record { usage = usage; form = form; needed = needed; written = output_paths; expected = expected_of }
