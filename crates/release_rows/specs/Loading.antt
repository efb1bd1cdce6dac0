-- The items of a file, or the first line that breaks a rule.
-- LoadFault                          the number of a line, and the rule that is broken there
-- some_row result                    the same result, with the row as one that is there
-- content_row file content           nothing of trivia; else the row that the content stands for, or its first fault
-- row_read result                    the row that was read; none of trivia, and none where there is a fault
-- file_item file piece               the item of a piece: its content, ending and number of lines, and its row; no row for
--                                    trivia, and none where the content has a fault
-- is_g04 fault                       the fault is G04
-- lacks_its_last result              the result is the fault G09
-- faulty_last file piece fault       the fault is that of the second line of a range: no code point there (G04), where the first
--                                    line by itself lacks nothing but its second one (G09)
-- fault_line file line piece fault   the line of the fault of a piece that begins at this line: the next one where the fault is
--                                    that of the second line of a range, else this one
-- load_rule rule                     K1 and K4 as rules of loading
-- rule_by rule back                  the rule of keys and spans; K5 where there is none and the row falls back
-- row_rule file above row            the rule that a row breaks against the rows above it: K1, then K4, then K5
-- at_line line rule                  the fault of this rule on the line; None where there is no rule
-- fault_by file above piece result   the fault of a piece whose content is read so
-- piece_fault file above piece       the fault of a piece below the items above it: the row's own comes first
-- or_later fault later               the fault where there is one, else the later one
-- first_fault file above pieces      of the first piece that has one, below the items above it; None where no piece has
-- unless_fault fault items           the fault where there is one, else the items
-- items_or_fault file above pieces   the items above and those of the pieces below them, or the first fault of the pieces
-- file_or_fault file bytes           the items of the file, or its first fault
-- load_or_fault file bytes           the same; bytes above the limit have G02, on line 0
use Rattle.std.specs.Prelude.{ℕ, ◌+◌, Bool, true, false, ◌&&◌, List, [], ◌∷◌, ◌++◌, map, length, Option, Some, None, Result, Ok, Err, is_some, nat_lt, if◌then◌else◌}
use Rattle.ucd_points.specs.Limits.{file_limit}
use Rattle.ucd_points.specs.Lines.{items_of}
use Rattle.ucd_points.specs.MissingLines.{is_trivia}
use Rattle.source_rows.specs.Faults.{row_or_fault}
use Rattle.source_rows.specs.declared.fault.RowFault.{RowFault}
use Rattle.source_rows.specs.declared.fault.RowFault.TheVariants.{G04, G09}
use Rattle.release_rows.specs.Keys.{key_rule, falls_back}
use Rattle.release_rows.specs.Pieces.{Lines, pieces, piece_content, piece_ending, piece_lines}
use Rattle.release_rows.specs.FileItems.{FileItem, rows_in, lines_of, SourceFile, Row}
use Rattle.release_rows.specs.declared.conflict.Conflict.{Conflict}
use Rattle.release_rows.specs.declared.conflict.Conflict.TheVariants.{K1, K4}
use Rattle.release_rows.specs.declared.load_stop.LoadRule.{LoadRule}
use Rattle.release_rows.specs.declared.load_stop.LoadRule.TheVariants.{G02, Row as RowRule, K1 as KeyTwice, K4 as Overlap, K5}

pub record LoadFault : Type 0 where
  pub line : ℕ
  pub rule : LoadRule

-- ---- a piece by itself

abbrev some_row : Result Row RowFault → Result (Option Row) RowFault
some_row (Ok row) = Ok (Some row)
some_row (Err fault) = Err fault

abbrev pub content_row : SourceFile → List ℕ → Result (Option Row) RowFault
content_row file content = if is_trivia file content then Ok None else some_row (row_or_fault file content)

abbrev pub row_read : Result (Option Row) RowFault → Option Row
row_read (Ok row) = row
row_read (Err fault) = None

abbrev pub file_item : SourceFile → Lines → FileItem
file_item file p = record { content = piece_content p; ending = piece_ending p; lines = piece_lines p; row = row_read (content_row file (piece_content p)) }

abbrev pub is_g04 : RowFault → Bool
is_g04 G04 = true
is_g04 _ = false

abbrev pub lacks_its_last : Result Row RowFault → Bool
lacks_its_last (Err G09) = true
lacks_its_last _ = false

abbrev pub faulty_last : SourceFile → Lines → RowFault → Bool
faulty_last file p fault = is_g04 fault && (is_some p.last && lacks_its_last (row_or_fault file p.first.content))

abbrev pub fault_line : SourceFile → ℕ → Lines → RowFault → ℕ
fault_line file line p fault = if faulty_last file p fault then line + 1 else line

-- ---- a row among the rows above it

abbrev pub load_rule : Conflict → LoadRule
load_rule K1 = KeyTwice
load_rule K4 = Overlap

abbrev pub rule_by : Option Conflict → Bool → Option LoadRule
rule_by (Some rule) back = Some (load_rule rule)
rule_by None back = if back then Some K5 else None

abbrev pub row_rule : SourceFile → List Row → Row → Option LoadRule
row_rule file above row = rule_by (key_rule file above row) (falls_back file above row)

abbrev pub at_line : ℕ → Option LoadRule → Option LoadFault
at_line line (Some rule) = Some (record { line = line; rule = rule })
at_line line None = None

abbrev fault_by : SourceFile → List FileItem → Lines → Result (Option Row) RowFault → Option LoadFault
fault_by file above p (Ok None) = None
fault_by file above p (Ok (Some row)) = at_line (lines_of above + 1) (row_rule file (rows_in above) row)
fault_by file above p (Err fault) = Some (record { line = fault_line file (lines_of above + 1) p fault; rule = RowRule fault })

abbrev pub piece_fault : SourceFile → List FileItem → Lines → Option LoadFault
piece_fault file above p = fault_by file above p (content_row file (piece_content p))

-- ---- a file

abbrev or_later : Option LoadFault → Option LoadFault → Option LoadFault
or_later (Some fault) later = Some fault
or_later None later = later

abbrev pub first_fault : SourceFile → List FileItem → List Lines → Option LoadFault
first_fault file above [] = None
first_fault file above (p ∷ ps) = or_later (piece_fault file above p) (first_fault file (above ++ file_item file p ∷ []) ps)

abbrev pub unless_fault : Option LoadFault → List FileItem → Result (List FileItem) LoadFault
unless_fault (Some fault) items = Err fault
unless_fault None items = Ok items

abbrev pub items_or_fault : SourceFile → List FileItem → List Lines → Result (List FileItem) LoadFault
items_or_fault file above ps = unless_fault (first_fault file above ps) (above ++ map (file_item file) ps)

unfoldable pub file_or_fault : SourceFile → List ℕ → Result (List FileItem) LoadFault
file_or_fault file bytes = items_or_fault file [] (pieces file (items_of bytes))

abbrev pub load_or_fault : SourceFile → List ℕ → Result (List FileItem) LoadFault
load_or_fault file bytes = if nat_lt file_limit (length bytes) then Err (record { line = 0; rule = G02 }) else file_or_fault file bytes
