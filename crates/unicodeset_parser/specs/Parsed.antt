-- The tree of a text, or the fault with the least place.
-- parsed text                 what the tokens of the text give; S1 where it is not UTF-8, at the end of its longest front that is
-- stop_of f                   the fault, as the code answers it
-- stop_fault stop             the fault that the stop tells; None if memory ran out
-- Gives view result wanted    the result shows what is wanted: the value, or the fault with its rule and place. If memory ran out, nothing is claimed
use Rattle.std.specs.Prelude.{ℕ, List, length, Result, Err, if◌then◌else◌, Option, Some, None}
use Rattle.std.specs.Str.{is_utf8}
use Rattle.std.specs.Str.Lossy.{utf8_valid_len}
use Rattle.ucd_points.specs.Answers.{AnswersBy}
use Rattle.unicodeset_parser.specs.Trees.{Tree}
use Rattle.unicodeset_parser.specs.Lexing.{tokens}
use Rattle.unicodeset_parser.specs.Machine.{Fault, fault, before, run}
use Rattle.unicodeset_parser.specs.declared.stop.SetRule.TheVariants.{S1}
use Rattle.unicodeset_parser.specs.declared.stop.SetStop.{SetStop}
use Rattle.unicodeset_parser.specs.declared.stop.SetStop.TheVariants.{Fault as Stopped, Memory}

unfoldable pub parsed : List ℕ → Result Tree Fault
parsed text = if is_utf8 text then run (length text) before (tokens 0 0 text) else Err (fault S1 (utf8_valid_len text))

abbrev pub stop_of : Fault → SetStop
stop_of f = Stopped f.rule f.at

abbrev pub stop_fault : SetStop → Option Fault
stop_fault (Stopped rule at) = Some (fault rule at)
stop_fault Memory = None

abbrev pub Gives : {X T : Type 0} → (X → T) → Result X SetStop → Result T Fault → Type 0
Gives view result wanted = AnswersBy view stop_fault result wanted
