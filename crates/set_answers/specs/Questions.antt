-- What a question is answered on the files of a release. UTS #35, "Unicode Sets".
-- files_sources files             what names are resolved by in these files
-- files_record files              the record of each code point that is derived of the rows of these files
-- files_hold files test c         what a test says of the code point c, by the rows of these files and by what is derived of them;
--                                 past 10FFFF it holds of nothing
-- text_fault f, name_fault f      why a question is refused: its text is out of the grammar; a name in it has no meaning
-- named_answer answer             the spans, or why a name refuses the question
-- tree_answer files tree          the members of a tree as maximal ascending spans, or the first name without meaning
-- parsed_answer files tree        the same of what a text is read as; the fault of the text where it is no set
-- question_answer files text      what a question of this text is answered on these files: the members of its set as maximal ascending
--                                 spans; or the fault of the text, and if it has none, the first name without meaning
-- stop_fault stop                 the fault that the stop tells; None if memory ran out
-- AskedAs result expected         the spans, or the rule and the place, are those that were expected; no claim if memory ran out
use Rattle.std.specs.Prelude.{ℕ, Bool, ◌&&◌, nat_lt, List, Result, Ok, Err, Option, Some, None}
use Rattle.ucd_points.specs.Answers.{AnswersBy}
use Rattle.ucd_points.specs.Bounds.{Bounds}
use Rattle.ucd_points.specs.Limits.{point_count}
use Rattle.ucd_facts.specs.Facts.{facts}
use Rattle.ucd_model.specs.Records.{Record, record_at}
use Rattle.release_rows.specs.Releases.{rows_of_items, FileItem}
use Rattle.property_aliases.specs.Sources.{Sources, sources_of}
use Rattle.property_aliases.specs.declared.property.Test.{Test}
use Rattle.unicodeset_parser.specs.Machine.{Fault as TextFault}
use Rattle.unicodeset_parser.specs.Parsed.{parsed}
use Rattle.unicodeset_parser.specs.Trees.{Tree}
use Rattle.unicodeset_eval.specs.Questions.{NameFault, answer}
use Rattle.unicodeset_eval.specs.Tests.{test_holds}
use Rattle.set_answers.specs.declared.ask_stop.AskFault.{AskFault}
use Rattle.set_answers.specs.declared.ask_stop.AskRule.TheVariants.{Text, Name}
use Rattle.set_answers.specs.declared.ask_stop.AskStop.{AskStop}
use Rattle.set_answers.specs.declared.ask_stop.AskStop.TheVariants.{Fault, Memory}

abbrev pub files_sources : List (List FileItem) → Sources
files_sources files = sources_of (record { current = files; prepared = files })

abbrev pub files_record : List (List FileItem) → ℕ → Record
files_record files = record_at (facts (rows_of_items files))

abbrev pub files_hold : List (List FileItem) → Test → ℕ → Bool
files_hold files test c = nat_lt c point_count && test_holds (files_record files) (rows_of_items files) test c

abbrev pub text_fault : TextFault → AskFault
text_fault f = record { rule = Text f.rule; at = f.at }

abbrev pub name_fault : NameFault → AskFault
name_fault f = record { rule = Name f.rule; at = f.at }

abbrev pub named_answer : Result (List Bounds) NameFault → Result (List Bounds) AskFault
named_answer (Ok spans) = Ok spans
named_answer (Err f) = Err (name_fault f)

abbrev pub tree_answer : List (List FileItem) → Tree → Result (List Bounds) AskFault
tree_answer files tree = named_answer (answer (files_sources files) (files_hold files) point_count tree)

abbrev pub parsed_answer : List (List FileItem) → Result Tree TextFault → Result (List Bounds) AskFault
parsed_answer files (Ok tree) = tree_answer files tree
parsed_answer files (Err f) = Err (text_fault f)

unfoldable pub question_answer : List (List FileItem) → List ℕ → Result (List Bounds) AskFault
question_answer files text = parsed_answer files (parsed text)

abbrev pub stop_fault : AskStop → Option AskFault
stop_fault (Fault fault) = Some fault
stop_fault Memory = None

abbrev pub AskedAs : Result (List Bounds) AskStop → Result (List Bounds) AskFault → Type 0
AskedAs result expected = AnswersBy (λ spans. spans) stop_fault result expected
