-- The row of a line of UnicodeData.txt, or the first rule that it breaks. UAX #44, section 5.7.
-- at_least_one mapping              the mapping where it has a member, else None
-- is_gt b                           the byte is `>`
-- canonical_or_fault bs             field 5 without a tag: a bad mapping (G07), more than two code points (G10)
-- compat_or_fault bs                field 5 with a tag, up to the first `>`: a bad tag or mapping (G07)
-- decomposition_or_fault bs         field 5: a bad mapping or tag (G07), more than two code points without a tag (G10); no bytes
--                                   are no mapping, and `<` as the first byte begins a tag
-- values_or_fault fs                fields 2, 3, 5 and 12 to 14 in order: G05, G06, G07 or G10, G07
-- data_of fs range name values span   the row of these fields, values and span; its kept fields are those of fs
-- unit_of fs range name values span   the same, as a row of any file
-- text_row text                      the row that stands in the text
-- with_kept old new                  each of the new kept fields behind the old one
-- unit_or_fault fs range name end   the row of these fields; last, what was found of its span
-- single_end c name                 the span of c alone; G09 where the name is that of a range
-- single_or_fault fs                one line: G03, G04, G11, fields 2 to 14, and G09 for the name of a range
-- first_label fs                    the label in field 1, where that is `<Label, First>`
-- last_label fs                     the label in field 1, where that is `<Label, Last>`
-- are_last_fields label fs          fs has 15 fields, the second of which is `<Label, Last>` with this label
-- pair_end label lo last            the span of a range: G09 where the last line is not that of the label, then G04
-- pair_or_fault first last          two lines: G03 where the first one is not that of a range, G04, fields 2 to 14, `pair_end`
-- DataTextAs result expected        the text is that of the row that was expected, or the result is its fault
use Rattle.std.specs.Prelude.{ℕ, Bool, true, false, ◌&&◌, List, [], ◌∷◌, length, ◌++◌, Option, Some, None, Result, Ok, Err, ◌==◌, nat_le, if◌then◌else◌, codes, bytes_eq}
use Rattle.std.specs.List.{before_first, after_first}
use Rattle.ucd_points.specs.Answers.{AnswersBy}
use Rattle.ucd_points.specs.Bounds.{Bounds}
use Rattle.ucd_facts.specs.Names.{category_of, tag_of}
use Rattle.ucd_points.specs.Fields.{field, point_of, is_name, is_range_name, label_of, class_of, case_of}
use Rattle.ucd_facts.specs.Mappings.{mapping_of}
use Rattle.ucd_facts.specs.DataLines.{kept_of}
use Rattle.ucd_facts.specs.declared.decomposition.Kind.TheVariants.{Plain, Canonical, Compat}
use Rattle.ucd_facts.specs.declared.row.DataRow.{DataRow}
use Rattle.ucd_facts.specs.declared.row.OtherFields.{OtherFields}
use Rattle.ucd_facts.specs.declared.row.Row.{Row}
use Rattle.ucd_facts.specs.declared.row.Row.TheVariants.{Unit as DataLine}
use Rattle.source_rows.specs.Lines.{has_last_name, are_first_fields}
use Rattle.source_rows.specs.Fields.{fields_in}
use Rattle.source_rows.specs.Steps.{or_fault, and_then}
use Rattle.source_rows.specs.declared.decomposition.Decomposition.{Decomposition}
use Rattle.source_rows.specs.declared.data_text.DataText.{DataText}
use Rattle.source_rows.specs.declared.data_values.Values.{Values}
use Rattle.source_rows.specs.declared.fault.RowFault.{RowFault}
use Rattle.source_rows.specs.declared.fault.RowFault.TheVariants.{G03, G04, G05, G06, G07, G09, G10, G11}

-- ---- field 5

abbrev pub at_least_one : Option (List ℕ) → Option (List ℕ)
at_least_one (Some (c ∷ cs)) = Some (c ∷ cs)
at_least_one _ = None

abbrev pub is_gt : ℕ → Bool
is_gt b = b == 62

abbrev pub canonical_or_fault : List ℕ → Result Decomposition RowFault
canonical_or_fault bs = or_fault G07 (at_least_one (mapping_of bs)) (λ cs. if nat_le (length cs) 2 then Ok (record { kind = Canonical; mapping = cs }) else Err G10)

abbrev pub compat_or_fault : List ℕ → Result Decomposition RowFault
compat_or_fault bs = or_fault G07 (tag_of (before_first is_gt bs)) (λ tag. or_fault G07 (at_least_one (mapping_of (after_first is_gt bs))) (λ cs. Ok (record { kind = Compat tag; mapping = cs })))

unfoldable pub decomposition_or_fault : List ℕ → Result Decomposition RowFault
decomposition_or_fault [] = Ok (record { kind = Plain; mapping = [] })
decomposition_or_fault (b ∷ bs) = if b == 60 then compat_or_fault (b ∷ bs) else canonical_or_fault (b ∷ bs)

-- ---- fields 2 to 14

unfoldable pub values_or_fault : List (List ℕ) → Result Values RowFault
values_or_fault fs = or_fault G05 (category_of (field fs 2)) (λ category. or_fault G06 (class_of (field fs 3)) (λ class. and_then (decomposition_or_fault (field fs 5)) (λ d. or_fault G07 (case_of (field fs 12)) (λ upper. or_fault G07 (case_of (field fs 13)) (λ lower. or_fault G07 (case_of (field fs 14)) (λ title. Ok (record { category = category; class = class; decomposition = d; upper = upper; lower = lower; title = title })))))))

abbrev pub data_of : List (List ℕ) → Bool → List ℕ → Values → Bounds → DataRow
data_of fs range name v span = record { span = span; range = range; name = name; category = v.category; class = v.class; kind = v.decomposition.kind; mapping = v.decomposition.mapping; upper = v.upper; lower = v.lower; title = v.title; kept = kept_of fs }

abbrev pub unit_of : List (List ℕ) → Bool → List ℕ → Values → Bounds → Row
unit_of fs range name v span = DataLine (data_of fs range name v span)

abbrev pub text_row : DataText → DataRow
text_row t = data_of (fields_in t.line) t.range t.name.now t.values t.span

abbrev pub with_kept : OtherFields → OtherFields → OtherFields
with_kept old new = record { f4 = old.f4 ++ new.f4; f6 = old.f6 ++ new.f6; f7 = old.f7 ++ new.f7; f8 = old.f8 ++ new.f8; f9 = old.f9 ++ new.f9; f10 = old.f10 ++ new.f10; f11 = old.f11 ++ new.f11 }

unfoldable pub unit_or_fault : List (List ℕ) → Bool → List ℕ → Result Bounds RowFault → Result Row RowFault
unit_or_fault fs range name end = and_then (values_or_fault fs) (λ v. and_then end (λ span. Ok (unit_of fs range name v span)))

-- ---- lines

abbrev pub single_end : ℕ → List ℕ → Result Bounds RowFault
single_end c name = if is_range_name name then Err G09 else Ok (record { lo = c; hi = c })

unfoldable pub single_or_fault : List (List ℕ) → Result Row RowFault
single_or_fault fs =
    if length fs == 15
    then or_fault G04 (point_of (field fs 0)) (λ c. if is_name (field fs 1) then unit_or_fault fs false (field fs 1) (single_end c (field fs 1)) else Err G11)
    else Err G03

abbrev pub first_label : List (List ℕ) → List ℕ
first_label fs = label_of (codes ", First>") (field fs 1)

abbrev pub last_label : List (List ℕ) → List ℕ
last_label fs = label_of (codes ", Last>") (field fs 1)

abbrev pub are_last_fields : List ℕ → List (List ℕ) → Bool
are_last_fields label fs = (length fs == 15) && (has_last_name (field fs 1) && bytes_eq (last_label fs) label)

unfoldable pub pair_end : List ℕ → ℕ → List (List ℕ) → Result Bounds RowFault
pair_end label lo last = if are_last_fields label last then or_fault G04 (point_of (field last 0)) (λ hi. if nat_le lo hi then Ok (record { lo = lo; hi = hi }) else Err G04) else Err G09

unfoldable pub pair_or_fault : List (List ℕ) → List (List ℕ) → Result Row RowFault
pair_or_fault first last =
    if are_first_fields first
    then or_fault G04 (point_of (field first 0)) (λ lo. unit_or_fault first true (first_label first) (pair_end (first_label first) lo last))
    else Err G03

-- ---- results

abbrev pub DataTextAs : Result DataText RowFault → Result Row RowFault → Type 0
DataTextAs result expected = AnswersBy (λ text. DataLine (text_row text)) Some result expected
