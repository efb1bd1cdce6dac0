-- The cases that NormalizationTest.txt holds, or the first fault.
-- CaseFault                     the number of a line, and the rule that it breaks
-- case_of n part columns        the case on line n with these columns
-- with_part k result            with a line of part k before the lines: `@Part1` stands among them where k is 1
-- with_case case result         with a case before the others
-- with_line n part said rest    what line n says, and behind it the rest, which is given the part that it stands in
-- NumberedLine                  the content of a line, and its number
-- numbered n items              the lines with their numbers; n is that of the first one
-- numbered_lines bytes          the lines of a file; its first line has the number 1
-- cases_from part lines         what the lines hold, of which the first stands in this part
-- cases_or_fault bytes          what the file holds: its first line stands in part 0
-- onto before result            the cases behind those of `before`
-- stop_fault stop               the fault that the stop tells; None if memory ran out
-- CasesAs result expected       the cases, or the fault, are what was expected; no claim if memory ran out
-- LineAs result n part old new said   line n was put to the cases before it: `result` is the part of the lines behind it, or the rule
--                               that the line breaks; no claim if memory ran out
use Rattle.std.specs.Prelude.{◌≡◌, ℕ, ◌+◌, false, ◌||◌, List, [], ◌∷◌, ◌++◌, Result, Ok, Err, ◌==◌, ⊤, Option, Some, None}
use Rattle.ucd_points.specs.Answers.{AnswersBy}
use Rattle.ucd_points.specs.Lines.{LineItem, items_of}
use Rattle.norm_conformance.specs.Lines.{said}
use Rattle.norm_conformance.specs.declared.case.Case.{Case}
use Rattle.norm_conformance.specs.declared.case.Cases.{Cases}
use Rattle.norm_conformance.specs.declared.columns.Columns.{Columns}
use Rattle.norm_conformance.specs.declared.line.Line.{Line}
use Rattle.norm_conformance.specs.declared.line.Line.TheVariants.{Passed, Part, Tested}
use Rattle.norm_conformance.specs.declared.stop.CaseRule.{CaseRule}
use Rattle.norm_conformance.specs.declared.stop.CaseStop.{CaseStop}
use Rattle.norm_conformance.specs.declared.stop.CaseStop.TheVariants.{Fault, Memory}

pub record CaseFault : Type 0 where
  pub line : ℕ
  pub rule : CaseRule

abbrev pub case_of : ℕ → ℕ → Columns → Case
case_of n part columns = record { line = n; part = part; c1 = columns.c1; c2 = columns.c2; c3 = columns.c3; c4 = columns.c4; c5 = columns.c5 }

abbrev pub with_part : ℕ → Result Cases CaseFault → Result Cases CaseFault
with_part k (Ok cases) = Ok (record { list = cases.list; part_one = (k == 1) || cases.part_one })
with_part k (Err fault) = Err fault

abbrev pub with_case : Case → Result Cases CaseFault → Result Cases CaseFault
with_case case (Ok cases) = Ok (record { list = case ∷ cases.list; part_one = cases.part_one })
with_case case (Err fault) = Err fault

abbrev pub with_line : ℕ → ℕ → Result Line CaseRule → (ℕ → Result Cases CaseFault) → Result Cases CaseFault
with_line n part (Ok Passed) rest = rest part
with_line n part (Ok (Part k)) rest = with_part k (rest k)
with_line n part (Ok (Tested columns)) rest = with_case (case_of n part columns) (rest part)
with_line n part (Err rule) rest = Err (record { line = n; rule = rule })

-- ---- the file

pub record NumberedLine : Type 0 where
  pub number : ℕ
  pub content : List ℕ

abbrev pub numbered : ℕ → List LineItem → List NumberedLine
numbered n [] = []
numbered n (item ∷ items) = record { number = n; content = item.content } ∷ numbered (n + 1) items

abbrev pub numbered_lines : List ℕ → List NumberedLine
numbered_lines bytes = numbered 1 (items_of bytes)

abbrev pub cases_from : ℕ → List NumberedLine → Result Cases CaseFault
cases_from part [] = Ok (record { list = []; part_one = false })
cases_from part (l ∷ ls) = with_line l.number part (said l.content) (λ next. cases_from next ls)

unfoldable pub cases_or_fault : List ℕ → Result Cases CaseFault
cases_or_fault bytes = cases_from 0 (numbered_lines bytes)

-- ---- answers

abbrev pub onto : Cases → Result Cases CaseFault → Result Cases CaseFault
onto before (Ok cases) = Ok (record { list = before.list ++ cases.list; part_one = before.part_one || cases.part_one })
onto before (Err fault) = Err fault

abbrev pub stop_fault : CaseStop → Option CaseFault
stop_fault (Fault line rule) = Some (record { line = line; rule = rule })
stop_fault Memory = None

abbrev pub CasesAs : Result Cases CaseStop → Result Cases CaseFault → Type 0
CasesAs result expected = AnswersBy (λ cases. cases) stop_fault result expected

abbrev pub LineAs : Result ℕ CaseStop → ℕ → ℕ → Cases → Cases → Result Line CaseRule → Type 0
LineAs (Ok next) n part old new said = (rest : ℕ → Result Cases CaseFault) → onto old (with_line n part said rest) ≡ onto new (rest next)
LineAs (Err (Fault line rule)) n part old new said = (line ≡ n) × (said ≡ Err rule)
LineAs (Err Memory) n part old new said = ⊤
