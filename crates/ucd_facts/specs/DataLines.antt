-- Which lines of UnicodeData.txt stand for which rows. UAX #44, section 5.3, table 9.
-- SpellsDecomposition bs kind cs   field 5: no bytes; a mapping of one or two code points; or a tag and, with white space between
--                                  or not, a mapping of one or more. UAX #44, section 5.7.3
-- kept_of fs                       fields 4 and 6 to 11, which are kept as they stand; no bytes for a field that is not there
-- ReadsValues fs row               fields 2 to 14, the same for a single line and the first line of a range
-- ReadsSingle fs row               one line with a name that is not that of a range
-- ReadsPair first last row         the lines `<Label, First>` and `<Label, Last>`; of the last one the code and the name are read
use Rattle.std.specs.Prelude.{◌≡◌, ℕ, ◌<◌, ◌≤◌, true, false, List, [], ◌++◌, length, Some, codes}
use Rattle.ucd_facts.specs.Names.{category_of, tag_text}
use Rattle.ucd_points.specs.Fields.{field, point_of, is_name, is_range_name, class_of, case_of}
use Rattle.ucd_facts.specs.Mappings.{SpellsMapping}
use Rattle.ucd_facts.specs.declared.decomposition.Kind.{Kind}
use Rattle.ucd_facts.specs.declared.decomposition.Kind.TheVariants.{Plain, Canonical, Compat}
use Rattle.ucd_facts.specs.declared.row.OtherFields.{OtherFields}
use Rattle.ucd_facts.specs.declared.row.DataRow.{DataRow}

abbrev pub SpellsDecomposition : List ℕ → Kind → List ℕ → Type 0
SpellsDecomposition bs Plain cs = (bs ≡ []) × (cs ≡ [])
SpellsDecomposition bs Canonical cs = SpellsMapping bs cs × (0 < length cs) × (length cs ≤ 2)
SpellsDecomposition bs (Compat tag) cs = (rest : List ℕ) × (bs ≡ tag_text tag ++ rest) × SpellsMapping rest cs × (0 < length cs)

abbrev pub kept_of : List (List ℕ) → OtherFields
kept_of fs = record { f4 = field fs 4; f6 = field fs 6; f7 = field fs 7; f8 = field fs 8; f9 = field fs 9; f10 = field fs 10; f11 = field fs 11 }

pub record ReadsValues (fs : List (List ℕ)) (row : DataRow) : Type 0 where
  pub category : category_of (field fs 2) ≡ Some row.category
  pub class : class_of (field fs 3) ≡ Some row.class
  pub decomposition : SpellsDecomposition (field fs 5) row.kind row.mapping
  pub upper : case_of (field fs 12) ≡ Some row.upper
  pub lower : case_of (field fs 13) ≡ Some row.lower
  pub title : case_of (field fs 14) ≡ Some row.title
  pub kept : row.kept ≡ kept_of fs

pub record ReadsSingle (fs : List (List ℕ)) (row : DataRow) : Type 0 where
  pub count : length fs ≡ 15
  pub code : point_of (field fs 0) ≡ Some row.span.lo
  pub one : row.span.hi ≡ row.span.lo
  pub single : row.range ≡ false
  pub is_named : is_name (field fs 1) ≡ true
  pub no_range : is_range_name (field fs 1) ≡ false
  pub name : row.name ≡ field fs 1
  pub values : ReadsValues fs row

pub record ReadsPair (first last : List (List ℕ)) (row : DataRow) : Type 0 where
  pub count : length first ≡ 15
  pub code : point_of (field first 0) ≡ Some row.span.lo
  pub range : row.range ≡ true
  pub label : is_name row.name ≡ true
  pub first_name : field first 1 ≡ codes "<" ++ row.name ++ codes ", First>"
  pub values : ReadsValues first row
  pub last_count : length last ≡ 15
  pub last_name : field last 1 ≡ codes "<" ++ row.name ++ codes ", Last>"
  pub last_code : point_of (field last 0) ≡ Some row.span.hi
  pub ordered : row.span.lo ≤ row.span.hi
