-- The text of a key.
-- behind_name sep names   the first name with what stands between it and the code point; nothing for no names
-- joined_span lo hi       one code point's digits, or those of the first and the last one joined by `..`
-- value_key_text code names   the code point; of the names of a missing row `# @missing: ` and the span up to the code point that the
--                         second one writes
-- key_text file key       the text of the key: its code point, and behind it the property of PropList.txt, the status of a folding,
--                         or the conditions of a casing where there are any; of an alias row its names with ` ; ` between them; of a missing row
--                         its span behind `# @missing: `
-- KeyTextsReadBack        the text of the key of a row that the file can have is read as that key
use Rattle.std.specs.Prelude.{◌≡◌, ℕ, List, [], ◌∷◌, ◌++◌, Option, Ok, if◌then◌else◌, codes, bytes_eq}
use Rattle.ucd_facts.specs.RowTexts.{case_text, names_text}
use Rattle.ucd_facts.specs.RowValues.{RowOk}
use Rattle.ucd_points.specs.declared.files.SourceFile.TheVariants.{PropList, Scripts, WordBreakProperty, CaseFolding, SpecialCasing, PropertyAliases, PropertyValueAliases}
use Rattle.source_rows.specs.Keys.{key_of, SourceFile, Row}
use Rattle.source_rows.specs.KeyGrammar.{key_or_fault}
use Rattle.source_rows.specs.declared.key.Key.{Key}

abbrev pub behind_name : List ℕ → List (List ℕ) → List ℕ
behind_name sep [] = []
behind_name sep (name ∷ names) = sep ++ name

abbrev pub joined_span : List ℕ → List ℕ → List ℕ
joined_span lo hi = if bytes_eq lo hi then lo else lo ++ codes ".." ++ hi

abbrev pub value_key_text : Option ℕ → List (List ℕ) → List ℕ
value_key_text code (mark ∷ last ∷ names) = codes "# @missing: " ++ joined_span (case_text code) last
value_key_text code _ = case_text code

abbrev pub key_text : SourceFile → Key → List ℕ
key_text PropList key = case_text key.code ++ behind_name (codes " ; ") key.names
key_text CaseFolding key = case_text key.code ++ behind_name (codes "; ") key.names
key_text SpecialCasing key = case_text key.code ++ behind_name (codes "; ") key.names
key_text PropertyAliases key = names_text key.names
key_text PropertyValueAliases key = names_text key.names
key_text Scripts key = value_key_text key.code key.names
key_text WordBreakProperty key = value_key_text key.code key.names
key_text _ key = case_text key.code

abbrev pub KeyTextsReadBack : Type 0
KeyTextsReadBack = (file : SourceFile) (row : Row) → RowOk file row → key_or_fault file (key_text file (key_of file row)) ≡ Ok (key_of file row)
