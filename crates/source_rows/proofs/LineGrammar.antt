-- Rows of UnicodeData.txt are given exactly where the grammar reads them, by the fields of one line or of two.
use Rattle.std.proofs.Common.{◌≡◌, ℕ, ◌≤◌, Bool, true, false, cond, eqb, leb, ◌&&◌, List, ◌++◌, length, Some, Result, Ok, Err, refl, sym, ap, subst, ◌∙◌, codes, bytes_eq}
use Rattle.std.proofs.lemmas.Bool.{eqb-true, eq-eqb, leb-true, le-leb, and_parts, and_from}
use Rattle.std.proofs.lemmas.Slice.Eq.{bytes_eq-Decides}
use Rattle.ucd_points.specs.Bounds.{Bounds}
use Rattle.ucd_points.specs.Fields.{field, point_of, is_name, is_range_name, label_of}
use Rattle.ucd_facts.specs.DataLines.{ReadsValues, ReadsSingle, ReadsPair, kept_of}
use Rattle.ucd_facts.specs.declared.row.OtherFields.{OtherFields}
use Rattle.ucd_facts.specs.declared.row.DataRow.{DataRow}
use Rattle.ucd_facts.specs.declared.row.Row.{Row}
use Rattle.ucd_facts.specs.declared.row.Row.TheVariants.{Unit as DataLine}
use Rattle.source_rows.specs.Lines.{has_first_name, has_last_name, are_first_fields}
use Rattle.source_rows.specs.Steps.{or_fault, and_then}
use Rattle.source_rows.specs.DataFaults.{values_or_fault, unit_of, unit_or_fault, single_end, single_or_fault, first_label, last_label, are_last_fields, pair_end, pair_or_fault}
use Rattle.source_rows.specs.declared.data_values.Values.{Values}
use Rattle.source_rows.specs.declared.fault.RowFault.{RowFault}
use Rattle.source_rows.specs.declared.fault.RowFault.TheVariants.{G03, G04, G09, G11}
use Rattle.source_rows.proofs.Labels.{label_read, label_is, label_given}
use Rattle.source_rows.proofs.DataGrammar.{ValuesAre, values_read, values_given}
use Rattle.source_rows.proofs.Found.{passed, failed, found, after}

-- ---- the row of fields 2 to 14, a name and a span

record UnitIs (fs : List (List ℕ)) (range : Bool) (name : List ℕ) (end : Result Bounds RowFault) (row : Row) : Type 0 where
  v : Values
  span : Bounds
  values : ValuesAre fs v
  ended : end ≡ Ok span
  whole : unit_of fs range name v span ≡ row

abbrev with_end : List (List ℕ) → Bool → List ℕ → Values → Bounds → Result Row RowFault
with_end fs range name v span = Ok (unit_of fs range name v span)

abbrev with_values : List (List ℕ) → Bool → List ℕ → Result Bounds RowFault → Values → Result Row RowFault
with_values fs range name end v = and_then end (with_end fs range name v)

unit_read : (fs : List (List ℕ)) (range : Bool) (name : List ℕ) (end : Result Bounds RowFault) (row : Row) → unit_or_fault fs range name end ≡ Ok row → UnitIs fs range name end row
unfolding unit_or_fault
unit_read fs range name end row h =
    let a = after (values_or_fault fs) (with_values fs range name end) row h in
    let b = after end (with_end fs range name a.0) row a.2 in
    record { v = a.0; span = b.0; values = values_read fs a.0 a.1; ended = b.1; whole = cc }

reads_values : (fs : List (List ℕ)) (v : Values) (range : Bool) (name : List ℕ) (span : Bounds) → ValuesAre fs v → ReadsValues fs (record { span = span; range = range; name = name; category = v.category; class = v.class; kind = v.decomposition.kind; mapping = v.decomposition.mapping; upper = v.upper; lower = v.lower; title = v.title; kept = kept_of fs })
reads_values fs v range name span a = record { category = a.category; class = a.class; decomposition = a.decomposition; upper = a.upper; lower = a.lower; title = a.title; kept = refl }

-- ---- one line

abbrev pub IsSingleOf : List (List ℕ) → Row → Type 0
IsSingleOf fs (DataLine row) = ReadsSingle fs row
IsSingleOf fs _ = ⊥

abbrev with_point : List (List ℕ) → ℕ → Result Row RowFault
with_point fs c = cond (is_name (field fs 1)) (unit_or_fault fs false (field fs 1) (single_end c (field fs 1))) (Err G11)

pub single_read : (fs : List (List ℕ)) (row : Row) → single_or_fault fs ≡ Ok row → IsSingleOf fs row
unfolding single_or_fault
single_read fs row h =
    let a = passed (eqb (length fs) 15) (or_fault G04 (point_of (field fs 0)) (with_point fs)) G03 row h in
    let b = found G04 (point_of (field fs 0)) (with_point fs) row a.1 in
    let c = passed (is_name (field fs 1)) (unit_or_fault fs false (field fs 1) (single_end b.0 (field fs 1))) G11 row b.2 in
    let u = unit_read fs false (field fs 1) (single_end b.0 (field fs 1)) row c.1 in
    let e = failed (is_range_name (field fs 1)) (Ok (record { lo = b.0; hi = b.0 })) G09 u.span u.ended in
    let span : record { lo = b.0; hi = b.0 } ≡ u.span = cc in
    let lo : b.0 ≡ u.span.lo = ap (λ (s : Bounds). s.lo) span in
    let hi : b.0 ≡ u.span.hi = ap (λ (s : Bounds). s.hi) span in
    subst (λ (r : Row). IsSingleOf fs r) u.whole (record { count = eqb-true _ _ a.0; code = b.1 ∙ ap (λ (x : ℕ). Some x) lo; one = sym hi ∙ lo; single = refl; is_named = c.0; no_range = e.0; name = refl; values = reads_values fs u.v false (field fs 1) u.span u.values })

unit_given : (fs : List (List ℕ)) (row : DataRow) (range : Bool) (name : List ℕ) (end : Result Bounds RowFault) → ReadsValues fs row → end ≡ Ok row.span → row.range ≡ range → row.name ≡ name → unit_or_fault fs range name end ≡ Ok (DataLine row)
unfolding unit_or_fault
unit_given fs row range name end r ended ranged named =
    rw (values_given fs row r, ended, ← ranged, ← named) (ap (λ (k : OtherFields). Ok (DataLine (record { span = row.span; range = row.range; name = row.name; category = row.category; class = row.class; kind = row.kind; mapping = row.mapping; upper = row.upper; lower = row.lower; title = row.title; kept = k }))) (sym r.kept))

pub single_given : (fs : List (List ℕ)) (row : DataRow) → ReadsSingle fs row → single_or_fault fs ≡ Ok (DataLine row)
unfolding single_or_fault
single_given fs row r =
    let span : record { lo = row.span.lo; hi = row.span.lo } ≡ row.span = ap (λ (h : ℕ). record { lo = row.span.lo; hi = h }) (sym r.one) in
    let ended : single_end row.span.lo (field fs 1) ≡ Ok row.span = rw r.no_range (ap (λ (s : Bounds). Ok s) span) in
    rw (r.count, r.code, r.is_named) (unit_given fs row false (field fs 1) (single_end row.span.lo (field fs 1)) r.values ended r.single r.name)

-- ---- two lines

abbrev pub IsPairOf : List (List ℕ) → List (List ℕ) → Row → Type 0
IsPairOf first last (DataLine row) = ReadsPair first last row
IsPairOf first last _ = ⊥

record EndIs (label : List ℕ) (lo : ℕ) (last : List (List ℕ)) (span : Bounds) : Type 0 where
  count : length last ≡ 15
  name : field last 1 ≡ codes "<" ++ label ++ codes ", Last>"
  from : lo ≡ span.lo
  code : point_of (field last 0) ≡ Some span.hi
  ordered : lo ≤ span.hi

abbrev up_to : ℕ → ℕ → Result Bounds RowFault
up_to lo hi = cond (leb lo hi) (Ok (record { lo = lo; hi = hi })) (Err G04)

end_read : (label : List ℕ) (lo : ℕ) (last : List (List ℕ)) (span : Bounds) → pair_end label lo last ≡ Ok span → EndIs label lo last span
unfolding pair_end
end_read label lo last span h =
    let a = passed (are_last_fields label last) (or_fault G04 (point_of (field last 0)) (up_to lo)) G09 span h in
    let n = and_parts (eqb (length last) 15) (has_last_name (field last 1) && bytes_eq (last_label last) label) a.0 in
    let m = and_parts (has_last_name (field last 1)) (bytes_eq (last_label last) label) n.1 in
    let b = found G04 (point_of (field last 0)) (up_to lo) span a.1 in
    let c = passed (leb lo b.0) (Ok (record { lo = lo; hi = b.0 })) G04 span b.2 in
    let same : record { lo = lo; hi = b.0 } ≡ span = cc in
    let name = (label_read (codes ", Last>") (field last 1) m.0).0 in
    let named : field last 1 ≡ codes "<" ++ label ++ codes ", Last>" = name ∙ ap (λ (l : List ℕ). codes "<" ++ l ++ codes ", Last>") ((bytes_eq-Decides (last_label last) label).0 m.1) in
    subst (λ (s : Bounds). EndIs label lo last s) same (record { count = eqb-true _ _ n.0; name = named; from = refl; code = b.1; ordered = leb-true lo b.0 c.0 })

abbrev with_lo : List (List ℕ) → List (List ℕ) → ℕ → Result Row RowFault
with_lo first last lo = unit_or_fault first true (first_label first) (pair_end (first_label first) lo last)

pub pair_read : (first last : List (List ℕ)) (row : Row) → pair_or_fault first last ≡ Ok row → IsPairOf first last row
unfolding pair_or_fault
pair_read first last row h =
    let a = passed (are_first_fields first) (or_fault G04 (point_of (field first 0)) (with_lo first last)) G03 row h in
    let n = and_parts (eqb (length first) 15) (has_first_name (field first 1)) a.0 in
    let b = found G04 (point_of (field first 0)) (with_lo first last) row a.1 in
    let u = unit_read first true (first_label first) (pair_end (first_label first) b.0 last) row b.2 in
    let e = end_read (first_label first) b.0 last u.span u.ended in
    let l = label_read (codes ", First>") (field first 1) n.1 in
    subst (λ (r : Row). IsPairOf first last r) u.whole (record { count = eqb-true _ _ n.0; code = b.1 ∙ ap (λ (x : ℕ). Some x) e.from; range = refl; label = l.1; first_name = l.0; values = reads_values first u.v true (first_label first) u.span u.values; last_count = e.count; last_name = e.name; last_code = e.code; ordered = subst (λ (x : ℕ). x ≤ u.span.hi) e.from e.ordered })

last_given : (label name : List ℕ) → is_name label ≡ true → name ≡ codes "<" ++ label ++ codes ", Last>" → (has_last_name name ≡ true) × (bytes_eq (label_of (codes ", Last>") name) label ≡ true)
last_given label name named e =
    (ap has_last_name e ∙ label_given label (codes ", Last>") named, (bytes_eq-Decides _ _).1 (ap (λ (n : List ℕ). label_of (codes ", Last>") n) e ∙ label_is label (codes ", Last>")))

end_given : (first last : List (List ℕ)) (row : DataRow) → ReadsPair first last row → pair_end row.name row.span.lo last ≡ Ok row.span
unfolding pair_end
end_given first last row r =
    let l = last_given row.name (field last 1) r.label r.last_name in
    let ends : are_last_fields row.name last ≡ true = and_from _ _ (eq-eqb (length last) 15 r.last_count) (and_from _ _ l.0 l.1) in
    rw (ends, r.last_code, le-leb row.span.lo row.span.hi r.ordered) refl

pub pair_given : (first last : List (List ℕ)) (row : DataRow) → ReadsPair first last row → pair_or_fault first last ≡ Ok (DataLine row)
unfolding pair_or_fault
pair_given first last row r =
    let begins : are_first_fields first ≡ true = and_from _ _ (eq-eqb (length first) 15 r.count) (ap has_first_name r.first_name ∙ label_given row.name (codes ", First>") r.label) in
    let label : first_label first ≡ row.name = ap (λ (n : List ℕ). label_of (codes ", First>") n) r.first_name ∙ label_is row.name (codes ", First>") in
    let ended : pair_end (first_label first) row.span.lo last ≡ Ok row.span = ap (λ (l : List ℕ). pair_end l row.span.lo last) label ∙ end_given first last row r in
    rw (begins, r.code) (unit_given first row true (first_label first) (pair_end (first_label first) row.span.lo last) r.values ended r.range (sym label))
