-- What a row of UnicodeData.txt gives to its code points.
-- used_fields_in line   the fields that are read of a line, at their places, and in the place of the others no bytes
-- HasUsedFields line fs  these are so of the 13 fields behind a name
-- HasCaseFields line fs  the last three of nine fields
-- Gives given row       the row has the code points and the values that are given
-- PointValuesAs result expected   what is given is what the row gives that was expected, or the result is its fault
use Rattle.std.specs.Prelude.{◌≡◌, ℕ, List, [], ◌∷◌, length, Result, Ok, Err}
use Rattle.ucd_points.specs.Fields.{field}
use Rattle.ucd_facts.specs.declared.row.DataRow.{DataRow}
use Rattle.ucd_facts.specs.declared.row.Row.{Row}
use Rattle.ucd_facts.specs.declared.row.Row.TheVariants.{Unit as DataLine}
use Rattle.source_rows.specs.declared.fault.RowFault.{RowFault}
use Rattle.source_rows.specs.declared.point_values.PointValues.{PointValues}
use Rattle.source_rows.specs.declared.used_fields.CaseFields.{CaseFields}
use Rattle.source_rows.specs.declared.used_fields.UsedFields.{UsedFields}

abbrev pub used_fields_in : UsedFields → List (List ℕ)
used_fields_in line = [] ∷ [] ∷ line.f2.now ∷ line.f3.now ∷ [] ∷ line.f5.now ∷ [] ∷ [] ∷ [] ∷ [] ∷ [] ∷ [] ∷ line.f12.now ∷ line.f13.now ∷ line.f14.now ∷ []

pub record HasUsedFields (line : UsedFields) (fs : List (List ℕ)) : Type 0 where
  pub count : length fs ≡ 13
  pub f2 : line.f2.now ≡ field fs 0
  pub f3 : line.f3.now ≡ field fs 1
  pub f5 : line.f5.now ≡ field fs 3
  pub f12 : line.f12.now ≡ field fs 10
  pub f13 : line.f13.now ≡ field fs 11
  pub f14 : line.f14.now ≡ field fs 12

pub record HasCaseFields (line : CaseFields) (fs : List (List ℕ)) : Type 0 where
  pub count : length fs ≡ 9
  pub f12 : line.f12.now ≡ field fs 6
  pub f13 : line.f13.now ≡ field fs 7
  pub f14 : line.f14.now ≡ field fs 8

pub record Gives (given : PointValues) (row : DataRow) : Type 0 where
  pub span : row.span ≡ given.span
  pub category : row.category ≡ given.values.category
  pub class : row.class ≡ given.values.class
  pub kind : row.kind ≡ given.values.decomposition.kind
  pub mapping : row.mapping ≡ given.values.decomposition.mapping
  pub upper : row.upper ≡ given.values.upper
  pub lower : row.lower ≡ given.values.lower
  pub title : row.title ≡ given.values.title

abbrev pub PointValuesAs : Result PointValues RowFault → Result Row RowFault → Type 0
PointValuesAs (Ok given) (Ok (DataLine row)) = Gives given row
PointValuesAs (Ok given) _ = ⊥
PointValuesAs (Err fault) expected = expected ≡ Err fault
