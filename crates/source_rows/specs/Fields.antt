-- The fields of a text that has no comment. UAX #44, section 4.2.
-- fields_of text   what stands between the `;`, each without white space around it; one field where there is no `;`
-- row_fields file content   the fields of a line of a file other than UnicodeData.txt, up to a comment; of a missing line those behind
--                  its mark
-- fields_in line   the 15 fields of a line of UnicodeData.txt as a list
-- with_word done word   the word behind what stands so far, and behind a space where anything does
use Rattle.std.specs.Prelude.{ℕ, List, [], ◌∷◌, ◌++◌, map, unwrap_or}
use Rattle.std.specs.List.{slice_split, before_first}
use Rattle.ucd_points.specs.Fields.{trim, is_semicolon, is_hash}
use Rattle.ucd_points.specs.MissingLines.{missing_rest}
use Rattle.ucd_points.specs.declared.files.SourceFile.{SourceFile}
use Rattle.source_rows.specs.declared.fifteen.DataFields.{DataFields}

abbrev pub fields_of : List ℕ → List (List ℕ)
fields_of text = map trim (slice_split is_semicolon text)

abbrev pub row_fields : SourceFile → List ℕ → List (List ℕ)
row_fields file content = fields_of (before_first is_hash (unwrap_or (missing_rest file content) content))

abbrev pub fields_in : DataFields → List (List ℕ)
fields_in line = line.f0.now ∷ line.f1.now ∷ line.f2.now ∷ line.f3.now ∷ line.f4.now ∷ line.f5.now ∷ line.f6.now ∷ line.f7.now ∷ line.f8.now ∷ line.f9.now ∷ line.f10.now ∷ line.f11.now ∷ line.f12.now ∷ line.f13.now ∷ line.f14.now ∷ []

abbrev pub with_word : List ℕ → List ℕ → List ℕ
with_word [] word = word
with_word (b ∷ bs) word = (b ∷ bs) ++ 32 ∷ word
