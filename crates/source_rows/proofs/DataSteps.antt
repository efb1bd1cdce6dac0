-- What is left of a line of UnicodeData.txt once its first fields are read.
use Rattle.std.proofs.Common.{◌≡◌, ℕ, true, false, List, length, Some, Result, refl}
use Rattle.ucd_points.specs.Bounds.{Bounds}
use Rattle.ucd_points.specs.Fields.{field, point_of, is_name}
use Rattle.source_rows.specs.Lines.{are_first_fields}
use Rattle.source_rows.specs.DataFaults.{unit_or_fault, single_end, single_or_fault, first_label, pair_end, pair_or_fault}
use Rattle.source_rows.specs.declared.fault.RowFault.{RowFault}

pub single_is : (fs : List (List ℕ)) (c : ℕ) (end : Result Bounds RowFault) → length fs ≡ 15 → point_of (field fs 0) ≡ Some c → is_name (field fs 1) ≡ true → end ≡ single_end c (field fs 1) → single_or_fault fs ≡ unit_or_fault fs false (field fs 1) end
unfolding single_or_fault
single_is fs c end count code name ended = rw (count, code, name, ended) refl

pub pair_is : (fs last : List (List ℕ)) (lo : ℕ) (label : List ℕ) (end : Result Bounds RowFault) → are_first_fields fs ≡ true → point_of (field fs 0) ≡ Some lo → label ≡ first_label fs → end ≡ pair_end label lo last → pair_or_fault fs last ≡ unit_or_fault fs true label end
unfolding pair_or_fault
pair_is fs last lo label end first code labelled ended = rw (first, code, ended, labelled) refl
