-- The row of a line of a file beside UnicodeData.txt, or the first rule that it breaks, by the fields of the line. UAX #44,
-- section 4.2, and the heads of the files. The number of fields (G03) comes first, then the fields in order.
-- is_empty bs                there is no byte
-- value_or_fault fs          PropList.txt, Scripts.txt, WordBreakProperty.txt: the span (G04), the value (G11)
-- exclusion_or_fault fs      CompositionExclusions.txt: the span (G04)
-- has_fold_fields fs         three fields, or four of which the fourth is empty
-- folds_to status n          a folding of the status has n code points: one for C and S, one or more for F and T
-- of_status status mapping   the mapping where it has as many code points as the status has, else None
-- fold_or_fault fs           CaseFolding.txt: the code point (G04), the status (G08), the mapping (G07); a fourth field that is
--                            not empty is G03
-- has_casing_fields fs       four to six fields; the sixth, where there is one, is empty
-- casing_or_fault fs         SpecialCasing.txt: the code point (G04), three mappings (G07), the conditions (G11); a sixth field
--                            that is not empty is G03
-- names_of fs                the fields, where each is a name or empty, else None
-- alias_or_fault least fs    PropertyAliases.txt and PropertyValueAliases.txt: the first name, and the others (G11)
use Rattle.std.specs.Prelude.{ℕ, Bool, true, false, ◌&&◌, ◌||◌, List, [], ◌∷◌, length, Option, Some, None, Result, Ok, Err, ◌==◌, nat_le, nat_lt, if◌then◌else◌}
use Rattle.std.specs.List.{list_all}
use Rattle.ucd_facts.specs.Names.{status_of}
use Rattle.ucd_points.specs.Fields.{field, point_of, span_of, is_name}
use Rattle.ucd_facts.specs.Mappings.{mapping_of, conditions_of}
use Rattle.ucd_facts.specs.OtherLines.{is_name_or_empty}
use Rattle.ucd_facts.specs.declared.row.FoldStatus.{FoldStatus}
use Rattle.ucd_facts.specs.declared.row.FoldStatus.TheVariants.{C, F, S, T}
use Rattle.ucd_facts.specs.declared.row.ValueRow.{ValueRow}
use Rattle.ucd_facts.specs.declared.row.Row.{Row}
use Rattle.ucd_facts.specs.declared.row.Row.TheVariants.{Exclusion as ExclusionLine, Fold as FoldLine, Casing as CasingLine, Alias as AliasLine}
use Rattle.source_rows.specs.Steps.{or_fault}
use Rattle.source_rows.specs.declared.fault.RowFault.{RowFault}
use Rattle.source_rows.specs.declared.fault.RowFault.TheVariants.{G03, G04, G07, G08, G11}

abbrev pub is_empty : List ℕ → Bool
is_empty [] = true
is_empty (b ∷ bs) = false

unfoldable pub value_or_fault : List (List ℕ) → Result ValueRow RowFault
value_or_fault fs =
    if length fs == 2
    then or_fault G04 (span_of (field fs 0)) (λ s. if is_name (field fs 1) then Ok (record { span = s; value = field fs 1 }) else Err G11)
    else Err G03

unfoldable pub exclusion_or_fault : List (List ℕ) → Result Row RowFault
exclusion_or_fault fs = if length fs == 1 then or_fault G04 (span_of (field fs 0)) (λ s. Ok (ExclusionLine (record { span = s }))) else Err G03

-- ---- CaseFolding.txt

abbrev pub has_fold_fields : List (List ℕ) → Bool
has_fold_fields fs = (length fs == 3) || ((length fs == 4) && is_empty (field fs 3))

abbrev pub folds_to : FoldStatus → ℕ → Bool
folds_to C n = n == 1
folds_to S n = n == 1
folds_to F n = nat_lt 0 n
folds_to T n = nat_lt 0 n

abbrev pub of_status : FoldStatus → Option (List ℕ) → Option (List ℕ)
of_status status (Some cs) = if folds_to status (length cs) then Some cs else None
of_status status None = None

unfoldable pub fold_or_fault : List (List ℕ) → Result Row RowFault
fold_or_fault fs =
    if has_fold_fields fs
    then or_fault G04 (point_of (field fs 0)) (λ c. or_fault G08 (status_of (field fs 1)) (λ s. or_fault G07 (of_status s (mapping_of (field fs 2))) (λ m. Ok (FoldLine (record { code = c; status = s; mapping = m })))))
    else Err G03

-- ---- SpecialCasing.txt

abbrev pub has_casing_fields : List (List ℕ) → Bool
has_casing_fields fs = (nat_le 4 (length fs) && nat_le (length fs) 6) && is_empty (field fs 5)

unfoldable pub casing_or_fault : List (List ℕ) → Result Row RowFault
casing_or_fault fs =
    if has_casing_fields fs
    then or_fault G04 (point_of (field fs 0)) (λ c. or_fault G07 (mapping_of (field fs 1)) (λ lower. or_fault G07 (mapping_of (field fs 2)) (λ title. or_fault G07 (mapping_of (field fs 3)) (λ upper. or_fault G11 (conditions_of (field fs 4)) (λ conditions. Ok (CasingLine (record { code = c; lower = lower; title = title; upper = upper; conditions = conditions })))))))
    else Err G03

-- ---- alias files

abbrev pub names_of : List (List ℕ) → Option (List (List ℕ))
names_of fs = if list_all is_name_or_empty fs then Some fs else None

unfoldable pub alias_or_fault : ℕ → List (List ℕ) → Result Row RowFault
alias_or_fault least fs = if nat_le least (length fs) then (if is_name (field fs 0) then or_fault G11 (names_of fs) (λ names. Ok (AliasLine (record { names = names }))) else Err G11) else Err G03
