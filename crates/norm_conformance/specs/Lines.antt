-- What a line of NormalizationTest.txt says by itself. The head of that file; UAX #44, section 4.2.
-- is_passed content        the line is blank, or a comment
-- text_of content          what stands before the first `#`, without white space around it
-- is_mark text             the text begins with `@`
-- digit_alone bs           what one decimal digit alone is worth; None of all other bytes
-- part_of text             the digit of `@Part` and a digit; None of all other texts
-- points_in field          the one to 64 code points that a field spells, between white space; None of all other fields
-- is_end fields            no field, or one empty field
-- columns_by c1 .. c5      the columns; N2 where one of them is not there
-- columns_in fields        the columns of five fields with is_end behind them; N1 where there are no such fields
-- marked part              a line of this part; N3 where there is none
-- tested columns           a case with these columns, or the rule in their place
-- said content             what the line says, or the first rule that it breaks
use Rattle.std.specs.Prelude.{ℕ, ◌-◌, Bool, true, false, List, [], ◌∷◌, take, drop, Option, Some, None, Result, Ok, Err, ◌==◌, codes, if◌then◌else◌, bytes_eq}
use Rattle.std.specs.List.{before_first}
use Rattle.ucd_points.specs.Fields.{fields, is_digit, is_hash, trim}
use Rattle.ucd_points.specs.Lines.{is_comment}
use Rattle.ucd_points.specs.declared.files.SourceFile.TheVariants.{PropList}
use Rattle.ucd_facts.specs.Mappings.{mapping_of}
use Rattle.source_rows.specs.DataFaults.{at_least_one}
use Rattle.norm_conformance.specs.declared.columns.Columns.{Columns}
use Rattle.norm_conformance.specs.declared.line.Line.{Line}
use Rattle.norm_conformance.specs.declared.line.Line.TheVariants.{Passed, Part, Tested}
use Rattle.norm_conformance.specs.declared.stop.CaseRule.{CaseRule}
use Rattle.norm_conformance.specs.declared.stop.CaseRule.TheVariants.{N1, N2, N3}

abbrev pub is_passed : List ℕ → Bool
is_passed content = is_comment content

abbrev pub text_of : List ℕ → List ℕ
text_of content = trim (before_first is_hash content)

-- ---- parts

abbrev pub is_mark : List ℕ → Bool
is_mark (b ∷ bs) = b == 64
is_mark [] = false

abbrev pub digit_alone : List ℕ → Option ℕ
digit_alone (b ∷ []) = if is_digit b then Some (b - 48) else None
digit_alone _ = None

abbrev pub part_of : List ℕ → Option ℕ
part_of text = if bytes_eq (take 5 text) (codes "@Part") then digit_alone (drop 5 text) else None

abbrev pub marked : Option ℕ → Result Line CaseRule
marked (Some part) = Ok (Part part)
marked None = Err N3

-- ---- columns

abbrev pub points_in : List ℕ → Option (List ℕ)
points_in field = at_least_one (mapping_of field)

abbrev pub is_end : List (List ℕ) → Bool
is_end [] = true
is_end ([] ∷ []) = true
is_end _ = false

abbrev pub columns_by : Option (List ℕ) → Option (List ℕ) → Option (List ℕ) → Option (List ℕ) → Option (List ℕ) → Result Columns CaseRule
columns_by (Some c1) (Some c2) (Some c3) (Some c4) (Some c5) = Ok (record { c1 = c1; c2 = c2; c3 = c3; c4 = c4; c5 = c5 })
columns_by _ _ _ _ _ = Err N2

abbrev pub columns_in : List (List ℕ) → Result Columns CaseRule
columns_in (a ∷ b ∷ c ∷ d ∷ e ∷ more) = if is_end more then columns_by (points_in a) (points_in b) (points_in c) (points_in d) (points_in e) else Err N1
columns_in _ = Err N1

abbrev pub tested : Result Columns CaseRule → Result Line CaseRule
tested (Ok columns) = Ok (Tested columns)
tested (Err rule) = Err rule

-- ---- a line

abbrev pub said : List ℕ → Result Line CaseRule
said content =
    if is_passed content
    then Ok Passed
    else (if is_mark (text_of content)
    then marked (part_of (text_of content))
    else tested (columns_in (fields PropList content)))
