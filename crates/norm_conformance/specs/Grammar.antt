-- What NormalizationTest.txt holds, as a grammar, and its first fault. The head of that file; UAX #44, section 4.2.
-- IsPart content k            the line is `@Part` and the digit k
-- Spells field points         the words of the field are one to 64 code points, and these are the points
-- HasFields content fs        the line is neither passed over nor begins with `@`, and these are its fields
-- HasColumns content columns  it has five fields, behind which is nothing or an empty field, and they spell the columns
-- LinesAreRead                what a line says is what these tell
-- AreCases part lines cases   the lines, of which the first stands in this part, hold these cases
--   nothing_left                no lines
--   passed                      a blank line or a comment, and then such lines
--   marked                      a line of a part, and then lines of which the first stands in that part
--   tested                      a case, and then such lines
-- HasPartOne lines            one of the lines is `@Part1`
-- CasesAreRead                a file has cases exactly where its lines hold them, the first one standing in part 0; and `part_one` tells
--                             whether `@Part1` is among them
-- FirstFault lines fault      a line breaks this rule, and no line before it breaks one
-- FaultsAreFirst              a file is refused exactly by its first fault
use Rattle.std.specs.Prelude.{◌≡◌, ◌↔◌, ◌⊎◌, ℕ, ◌+◌, ◌<◌, ◌≤◌, true, false, List, [], ◌∷◌, ◌++◌, length, Some, Ok, Err, codes}
use Rattle.std.specs.List.{AllByRecursion as Each}
use Rattle.ucd_points.specs.Fields.{fields}
use Rattle.ucd_points.specs.declared.files.SourceFile.TheVariants.{PropList}
use Rattle.ucd_facts.specs.Mappings.{mapping_of}
use Rattle.norm_conformance.specs.Cases.{CaseFault, NumberedLine, case_of, cases_or_fault, numbered_lines}
use Rattle.norm_conformance.specs.Lines.{is_end, is_mark, is_passed, said, text_of}
use Rattle.norm_conformance.specs.declared.case.Case.{Case}
use Rattle.norm_conformance.specs.declared.case.Cases.{Cases}
use Rattle.norm_conformance.specs.declared.columns.Columns.{Columns}
use Rattle.norm_conformance.specs.declared.line.Line.{Line}
use Rattle.norm_conformance.specs.declared.line.Line.TheVariants.{Passed, Part, Tested}

-- ---- a line

pub record IsPart (content : List ℕ) (k : ℕ) : Type 0 where
  pub read : is_passed content ≡ false
  pub text : text_of content ≡ codes "@Part" ++ (48 + k) ∷ []
  pub digit : k ≤ 9

pub record Spells (field points : List ℕ) : Type 0 where
  pub words : mapping_of field ≡ Some points
  pub some : 0 < length points

pub record HasFields (content : List ℕ) (fs : List (List ℕ)) : Type 0 where
  pub read : is_passed content ≡ false
  pub unmarked : is_mark (text_of content) ≡ false
  pub fields : fields PropList content ≡ fs

pub record HasColumns (content : List ℕ) (columns : Columns) : Type 0 where
  pub f1 : List ℕ
  pub f2 : List ℕ
  pub f3 : List ℕ
  pub f4 : List ℕ
  pub f5 : List ℕ
  pub more : List (List ℕ)
  pub fields : HasFields content (f1 ∷ f2 ∷ f3 ∷ f4 ∷ f5 ∷ more)
  pub end : is_end more ≡ true
  pub c1 : Spells f1 columns.c1
  pub c2 : Spells f2 columns.c2
  pub c3 : Spells f3 columns.c3
  pub c4 : Spells f4 columns.c4
  pub c5 : Spells f5 columns.c5

pub record SaidBy (content : List ℕ) : Type 0 where
  pub passed : (said content ≡ Ok Passed) ↔ (is_passed content ≡ true)
  pub part : (k : ℕ) → (said content ≡ Ok (Part k)) ↔ IsPart content k
  pub columns : (columns : Columns) → (said content ≡ Ok (Tested columns)) ↔ HasColumns content columns

abbrev pub LinesAreRead : Type 0
LinesAreRead = (content : List ℕ) → SaidBy content

-- ---- the lines

pub data AreCases : ℕ → List NumberedLine → List Case → Type 0 where
  nothing_left : {part : ℕ} → AreCases part [] []
  passed : {part : ℕ} {l : NumberedLine} {ls : List NumberedLine} {cases : List Case} → is_passed l.content ≡ true → AreCases part ls cases → AreCases part (l ∷ ls) cases
  marked : {part : ℕ} {l : NumberedLine} {ls : List NumberedLine} {cases : List Case} (k : ℕ) → IsPart l.content k → AreCases k ls cases → AreCases part (l ∷ ls) cases
  tested : {part : ℕ} {l : NumberedLine} {ls : List NumberedLine} {cases : List Case} (columns : Columns) → HasColumns l.content columns → AreCases part ls cases → AreCases part (l ∷ ls) (case_of l.number part columns ∷ cases)

abbrev pub HasPartOne : List NumberedLine → Type 0
HasPartOne [] = ⊥
HasPartOne (l ∷ ls) = IsPart l.content 1 ⊎ HasPartOne ls

pub record AreTests (lines : List NumberedLine) (cases : Cases) : Type 0 where
  pub list : AreCases 0 lines cases.list
  pub part_one : (cases.part_one ≡ true) ↔ HasPartOne lines

abbrev pub CasesAreRead : Type 0
CasesAreRead = (bytes : List ℕ) (cases : Cases) → (cases_or_fault bytes ≡ Ok cases) ↔ AreTests (numbered_lines bytes) cases

-- ---- faults

pub record SaysSome (l : NumberedLine) : Type 0 where
  pub line : Line
  pub says : said l.content ≡ Ok line

pub record FirstFault (lines : List NumberedLine) (fault : CaseFault) : Type 0 where
  pub before : List NumberedLine
  pub content : List ℕ
  pub rest : List NumberedLine
  pub cut : lines ≡ before ++ record { number = fault.line; content = content } ∷ rest
  pub none_before : Each SaysSome before
  pub breaks : said content ≡ Err fault.rule

abbrev pub FaultsAreFirst : Type 0
FaultsAreFirst = (bytes : List ℕ) (fault : CaseFault) → (cases_or_fault bytes ≡ Err fault) ↔ FirstFault (numbered_lines bytes) fault
