-- What a first line of a range says of the fault of two lines. UAX #44, section 4.2.3.
-- OwnFieldsRead fs                code, name and values of the first line are read
-- NoEnd lo hi                     the last line's code is no code point, or below the first one's
-- PairFaults fs last given        of two lines whose first one is read: G09 exactly where the last one is not that of the label,
--                                 so that it is the first line's; G04 exactly where the last line's code is no end, so that it is
--                                 the last line's; no other fault
-- FirstLine fs last alone given   what is found of a first line alone and of the two lines, by their fields: alone it is no row;
--                                 where alone it has G09, OwnFieldsRead and PairFaults; any other fault of it is that of the two
--                                 lines
-- FirstLineFaultsStay             a first line by itself is no row. Where it has G09, its own fields are read, and the two lines
--                                 have `PairFaults`; any other fault of it is the fault of the two lines
use Rattle.std.specs.Prelude.{◌≡◌, ◌≢◌, ◌⊎◌, ◌↔◌, ℕ, ◌<◌, true, false, List, ◌∷◌, ◌++◌, Option, Some, None, Result, Ok, Err, IsSome, IsOk}
use Rattle.ucd_points.specs.Lines.{holds_line_feed, without_return}
use Rattle.ucd_points.specs.Fields.{fields, field, point_of, is_name}
use Rattle.ucd_points.specs.declared.files.SourceFile.TheVariants.{UnicodeData}
use Rattle.source_rows.specs.Lines.{is_first_line}
use Rattle.source_rows.specs.DataFaults.{values_or_fault, first_label, are_last_fields}
use Rattle.source_rows.specs.Faults.{row_or_fault, Row}
use Rattle.source_rows.specs.declared.fault.RowFault.{RowFault}
use Rattle.source_rows.specs.declared.fault.RowFault.TheVariants.{G04, G09}

pub record OwnFieldsRead (fs : List (List ℕ)) : Type 0 where
  pub code : IsSome (point_of (field fs 0))
  pub name : is_name (field fs 1) ≡ true
  pub values : IsOk (values_or_fault fs)

abbrev pub NoEnd : Option ℕ → Option ℕ → Type 0
NoEnd (Some lo) (Some hi) = hi < lo
NoEnd (Some lo) None = Unit {0}
NoEnd None hi = ⊥

pub record PairFaults (fs last : List (List ℕ)) (given : Result Row RowFault) : Type 0 where
  pub g09 : (given ≡ Err G09) ↔ (are_last_fields (first_label fs) last ≡ false)
  pub g04 : (given ≡ Err G04) ↔ ((are_last_fields (first_label fs) last ≡ true) × NoEnd (point_of (field fs 0)) (point_of (field last 0)))
  pub no_other : (fault : RowFault) → given ≡ Err fault → (fault ≡ G09) ⊎ (fault ≡ G04)

pub record FirstLine (fs last : List (List ℕ)) (alone given : Result Row RowFault) : Type 0 where
  pub no_row : (row : Row) → alone ≢ Ok row
  pub lacks_last : alone ≡ Err G09 → OwnFieldsRead fs × PairFaults fs last given
  pub own_fault : (fault : RowFault) → fault ≢ G09 → alone ≡ Err fault → given ≡ Err fault

abbrev pub FirstLineFaultsStay : Type 0
FirstLineFaultsStay = (front last : List ℕ) → holds_line_feed front ≡ false → holds_line_feed last ≡ false → is_first_line (without_return front) ≡ true → FirstLine (fields UnicodeData (without_return front)) (fields UnicodeData last) (row_or_fault UnicodeData (without_return front)) (row_or_fault UnicodeData (front ++ 10 ∷ last))
