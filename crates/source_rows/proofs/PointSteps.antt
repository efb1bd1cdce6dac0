-- What the fields of a line that are read say of its row.
use Rattle.std.proofs.Common.{◌≡◌, ◌≢◌, ℕ, ◌+◌, ◌-◌, Bool, true, false, cond, eqb, List, length, Some, None, Result, Ok, Err, refl, ap, ◌∙◌, arith, count_by, eqb-true, ne_eqb}
use Rattle.ucd_points.specs.Bounds.{Bounds}
use Rattle.ucd_points.specs.Fields.{field, point_of, is_name, is_semicolon}
use Rattle.source_rows.specs.Fields.{fields_of}
use Rattle.source_rows.specs.Steps.{and_then}
use Rattle.source_rows.specs.PointValues.{PointValuesAs}
use Rattle.source_rows.specs.Tails.{given_or_fault, tail_fields, tail_values}
use Rattle.source_rows.specs.DataFaults.{single_or_fault, unit_of, unit_or_fault, values_or_fault}
use Rattle.source_rows.specs.declared.data_values.Values.{Values}
use Rattle.source_rows.specs.declared.fault.RowFault.{RowFault}
use Rattle.source_rows.specs.declared.fault.RowFault.TheVariants.{G03, G04, G11}
use Rattle.source_rows.proofs.FieldCuts.{count_is}

pub values_same : (fs gs : List (List ℕ)) → field fs 2 ≡ field gs 2 → field fs 3 ≡ field gs 3 → field fs 5 ≡ field gs 5 → field fs 12 ≡ field gs 12 → field fs 13 ≡ field gs 13 → field fs 14 ≡ field gs 14 → values_or_fault fs ≡ values_or_fault gs
unfolding values_or_fault
values_same fs gs e2 e3 e5 e12 e13 e14 = rw (e2, e3, e5, e12, e13, e14) refl

-- neither the name nor the other fields change what is given
given_by : (fs : List (List ℕ)) (range : Bool) (name : List ℕ) (v : Result Values RowFault) (end : Result Bounds RowFault)
    → PointValuesAs (given_or_fault v end) (and_then v (λ v. and_then end (λ span. Ok (unit_of fs range name v span))))
given_by fs range name (Ok v) (Ok span) = record { span = refl; category = refl; class = refl; kind = refl; mapping = refl; upper = refl; lower = refl; title = refl }
given_by fs range name (Ok v) (Err fault) = refl
given_by fs range name (Err fault) end = refl

pub given_is : (fs : List (List ℕ)) (range : Bool) (name : List ℕ) (v : Result Values RowFault) (end : Result Bounds RowFault) → values_or_fault fs ≡ v → PointValuesAs (given_or_fault v end) (unit_or_fault fs range name end)
unfolding unit_or_fault
given_is fs range name v end e = rw e (given_by fs range name v end)

-- ---- what stands behind a name

some_by : (b : Bool) (n : ℕ) (w v : Result Values RowFault) → eqb n 13 ≡ b → cond b (Some w) None ≡ Some v → (n ≡ 13) × (w ≡ v)
some_by true n w v e h = (eqb-true n 13 e, cc)
some_by false n w v e h = absurd cc

pub tail_some : (tail : List ℕ) (v : Result Values RowFault) → tail_values tail ≡ Some v → (length (fields_of tail) ≡ 13) × (values_or_fault (tail_fields tail) ≡ v)
unfolding tail_values
tail_some tail v h = some_by (eqb (length (fields_of tail)) 13) (length (fields_of tail)) (values_or_fault (tail_fields tail)) v refl h

pub tail_none : (tail : List ℕ) → tail_values tail ≡ None → length (fields_of tail) ≢ 13
unfolding tail_values
tail_none tail h = λ e. (let x = (rw e at h) in cc)

pub tail_lacks : (tail : List ℕ) → length (fields_of tail) ≢ 13 → tail_values tail ≡ None
unfolding tail_values
tail_lacks tail h = rw (ne_eqb (length (fields_of tail)) 13 h) refl

pub tail_is : (tail : List ℕ) (v : Result Values RowFault) → length (fields_of tail) ≡ 13 → v ≡ values_or_fault (tail_fields tail) → Some v ≡ tail_values tail
unfolding tail_values
tail_is tail v count e = rw (count, e) refl

-- a line whose tail stands behind two cuts
pub record IsCut (content tail : List ℕ) : Type 0 where
  pub fewer : count_by is_semicolon tail ≡ count_by is_semicolon content - 1 - 1
  pub others : (n : ℕ) → field (fields_of content) (n + 1 + 1) ≡ field (fields_of tail) n

pub cut_is : (content rest tail : List ℕ)
    → count_by is_semicolon rest ≡ count_by is_semicolon content - 1 → ((n : ℕ) → field (fields_of content) (n + 1) ≡ field (fields_of rest) n)
    → count_by is_semicolon tail ≡ count_by is_semicolon rest - 1 → ((n : ℕ) → field (fields_of rest) (n + 1) ≡ field (fields_of tail) n)
    → IsCut content tail
cut_is content rest tail less front fewer others = record { fewer = fewer ∙ ap (λ (n : ℕ). n - 1) less; others = λ n. front (n + 1) ∙ others n }

pub fifteen : (content tail : List ℕ) → IsCut content tail → length (fields_of tail) ≡ 13 → length (fields_of content) ≡ 15
fifteen content tail cut h = omega (arith, count_is content, count_is tail, cut.fewer, h)

pub thirteen : (content tail : List ℕ) → IsCut content tail → length (fields_of content) ≡ 15 → length (fields_of tail) ≡ 13
thirteen content tail cut h = omega (arith, count_is content, count_is tail, cut.fewer, h)

pub cut_values : (content tail : List ℕ) → IsCut content tail → values_or_fault (fields_of content) ≡ values_or_fault (tail_fields tail)
cut_values content tail cut = values_same (fields_of content) (tail_fields tail) (cut.others 0) (cut.others 1) (cut.others 3) (cut.others 10) (cut.others 11) (cut.others 12)

-- ---- the first faults of one line

pub no_fields : (fs : List (List ℕ)) → length fs ≢ 15 → single_or_fault fs ≡ Err G03
unfolding single_or_fault
no_fields fs h = rw (ne_eqb (length fs) 15 h) refl

pub no_code : (fs : List (List ℕ)) → length fs ≡ 15 → point_of (field fs 0) ≡ None → single_or_fault fs ≡ Err G04
unfolding single_or_fault
no_code fs count code = rw (count, code) refl

pub no_name : (fs : List (List ℕ)) (c : ℕ) → length fs ≡ 15 → point_of (field fs 0) ≡ Some c → is_name (field fs 1) ≡ false → single_or_fault fs ≡ Err G11
unfolding single_or_fault
no_name fs c count code name = rw (count, code, name) refl
