-- Judging the texts that a run works on.
-- IsMadeForJob given job          what was made is the release of the job's number; nothing where it has none
-- given_verdict job given   what is held of what is given gives, or the line that refuses it
-- behind_verdict job held files   what is held gives behind the release, whose files are these: with the commands and the earlier release
-- earlier_inputs job held files commands   the same behind the commands: with the earlier release
-- inputs_of inputs          what the benches' files and the commands stand for
use Rattle.std.specs.Prelude.{◌≡◌, ℕ, List, Result, Ok, option_map}
use Rattle.release_rows.specs.FileItems.{FileItem}
use Rattle.script_lines.specs.declared.command.Command.{Command}
use Rattle.run_endings.specs.Endings.{Seen}
use Rattle.run_inputs.specs.Held.{held_at, source_held}
use Rattle.run_inputs.specs.Verdict.{and_then}
use Rattle.ucdshop_jobs.specs.Jobs.{Job}
use Rattle.ucdshop_jobs.specs.Run.{Inputs, commands_verdict, earlier_place, earlier_verdict, inputs_verdict}
use Rattle.ucdshop_jobs.specs.declared.given.Given.{Given}
use Rattle.ucdshop_jobs.specs.declared.inputs.Inputs.{Inputs as InputsMade}

abbrev pub IsMadeForJob : Given → Job → Type 0
IsMadeForJob given job = given.made ≡ job.made

abbrev pub given_verdict : Job → Given → Result Inputs (List ℕ)
given_verdict job given = inputs_verdict job given.held.items

abbrev pub earlier_inputs : Job → Seen → List (List FileItem) → List Command → Result Inputs (List ℕ)
earlier_inputs job held files commands =
    and_then (earlier_verdict job.previous (source_held held (earlier_place job))) (λ earlier. Ok (record { files = files; commands = commands; earlier = earlier }))

abbrev pub behind_verdict : Job → Seen → List (List FileItem) → Result Inputs (List ℕ)
behind_verdict job held files = and_then (commands_verdict job.script (held_at held 9)) (λ commands. earlier_inputs job held files commands)

abbrev pub inputs_of : InputsMade → Inputs
inputs_of inputs = record { files = inputs.bench.current; commands = inputs.commands; earlier = option_map (λ bench. bench.current) inputs.earlier }
