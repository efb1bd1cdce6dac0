-- Lines that look like comments and are rows: `# @missing: SPAN; NAME` gives the value of the code points that no other row covers.
-- UAX #44, section 4.2.10.
-- takes_missing file           the file has such rows: Scripts.txt and WordBreakProperty.txt
-- mark                         `@missing:`
-- behind_mark bs               what stands behind the mark, with white space before it or none; None where there is no mark
-- behind_hash bs               the same behind a `#`
-- missing_rest file content    what stands behind the mark of such a line; None of every other line
-- is_missing file content      the line is such a line
-- is_trivia file content       the line is blank or a comment, and is no such line: it stands for no row
use Rattle.std.specs.Prelude.{ℕ, Bool, true, false, ◌&&◌, not, List, [], ◌∷◌, length, drop, ◌==◌, eqb, Option, Some, None, is_some, if◌then◌else◌, codes}
use Rattle.std.specs.List.{starts_with}
use Rattle.ucd_points.specs.Lines.{unindented, is_comment}
use Rattle.ucd_points.specs.declared.files.SourceFile.{SourceFile}
use Rattle.ucd_points.specs.declared.files.SourceFile.TheVariants.{Scripts, WordBreakProperty}

abbrev pub takes_missing : SourceFile → Bool
takes_missing Scripts = true
takes_missing WordBreakProperty = true
takes_missing _ = false

abbrev pub mark : List ℕ
mark = codes "@missing:"

abbrev pub behind_mark : List ℕ → Option (List ℕ)
behind_mark bs = if starts_with eqb bs mark then Some (drop (length mark) bs) else None

abbrev pub behind_hash : List ℕ → Option (List ℕ)
behind_hash [] = None
behind_hash (b ∷ bs) = if b == 35 then behind_mark (unindented bs) else None

unfoldable pub missing_rest : SourceFile → List ℕ → Option (List ℕ)
missing_rest file content = if takes_missing file then behind_hash (unindented content) else None

abbrev pub is_missing : SourceFile → List ℕ → Bool
is_missing file content = is_some (missing_rest file content)

abbrev pub is_trivia : SourceFile → List ℕ → Bool
is_trivia file content = is_comment content && not (is_missing file content)
