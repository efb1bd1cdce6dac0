-- The texts of a release that is made from a number, and of a script for it. The release is this project's own.
-- base i               the i-th code point of the first series, counted from 0: 20000 (hexadecimal) and on
-- composite i          of the second series: 30000 and on
-- compat i             of the third series: 40000 and on
-- mark_line            the row of 0300, a mark of class 230
-- base_line i          the row of base i, which has no mapping
-- composite_line i     the row of composite i, which decomposes canonically to base i and the mark
-- compat_line i        the row of compat i, which has a compatibility mapping to the same two
-- command_line j       the command that adds the folding of composite j to base j
-- line_text line       a line and LF
-- series line n        the lines of the numbers below n, ascending
-- data_text m          UnicodeData.txt with m rows of each series: the mark, and then the series one after the other. UAX #44,
--                      section 4.2
-- source_text n file   the text of a source file of the release that is made from n: 1000 times n rows of each series; all files but
--                      UnicodeData.txt are empty
-- script_text          the script: 1000 commands
use Rattle.std.specs.Prelude.{ℕ, ◌+◌, ◌*◌, List, [], ◌++◌, codes}
use Rattle.std.specs.List.{range_with_len, flat_map}
use Rattle.ucd_model.specs.DerivedText.{line_end}
use Rattle.ucd_points.specs.HexText.{hex_text}
use Rattle.ucd_points.specs.declared.files.SourceFile.{SourceFile}
use Rattle.ucd_points.specs.declared.files.SourceFile.TheVariants.{UnicodeData}

abbrev pub base : ℕ → ℕ
base i = 131072 + i

abbrev pub composite : ℕ → ℕ
composite i = 196608 + i

abbrev pub compat : ℕ → ℕ
compat i = 262144 + i

abbrev pub mark_line : List ℕ
mark_line = codes "0300;MARK;Mn;230;NSM;;;;;N;;;;;"

abbrev pub base_line : ℕ → List ℕ
base_line i = hex_text (base i) ++ codes ";BASE;Lo;0;L;;;;;N;;;;;"

abbrev pub composite_line : ℕ → List ℕ
composite_line i = hex_text (composite i) ++ codes ";COMPOSITE;Lo;0;L;" ++ hex_text (base i) ++ codes " 0300;;;;N;;;;;"

abbrev pub compat_line : ℕ → List ℕ
compat_line i = hex_text (compat i) ++ codes ";COMPAT;Lo;0;L;<compat> " ++ hex_text (base i) ++ codes " 0300;;;;N;;;;;"

abbrev pub command_line : ℕ → List ℕ
command_line j = codes "add CaseFolding.txt " ++ hex_text (composite j) ++ codes "; C; " ++ hex_text (base j)

abbrev pub line_text : List ℕ → List ℕ
line_text line = line ++ line_end

unfoldable pub series : (ℕ → List ℕ) → ℕ → List ℕ
series line n = flat_map (λ i. line_text (line i)) (range_with_len 0 n)

abbrev pub data_text : ℕ → List ℕ
data_text m = line_text mark_line ++ series base_line m ++ series composite_line m ++ series compat_line m

abbrev pub source_text : ℕ → SourceFile → List ℕ
source_text n UnicodeData = data_text (1000 * n)
source_text n _ = []

abbrev pub script_text : List ℕ
script_text = series command_line 1000
