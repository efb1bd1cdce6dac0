-- Rows of the files beside UnicodeData.txt are given exactly where the grammar reads them.
use Rattle.std.proofs.Common.{◌≡◌, ℕ, true, cond, eqb, leb, ◌&&◌, List, [], ◌∷◌, length, Option, Some, None, Result, Ok, Err, refl, sym, ap, subst, inl, inr, ◌⊎◌}
use Rattle.std.specs.List.{list_all}
use Rattle.std.proofs.lemmas.Bool.{eqb-true, eq-eqb, leb-true, le-leb, ltb-true, lt-ltb, and_parts, and_from, or_cases, or_left, or_right}
use Rattle.std.proofs.lemmas.Option.{cond_some}
use Rattle.ucd_points.specs.Bounds.{Bounds}
use Rattle.ucd_facts.specs.Names.{status_of}
use Rattle.ucd_points.specs.Fields.{field, point_of, span_of, is_name}
use Rattle.ucd_facts.specs.Mappings.{mapping_of, conditions_of}
use Rattle.ucd_facts.specs.OtherLines.{ReadsValue, ReadsExclusion, ReadsFold, FoldsTo, ReadsCasing, ReadsAlias, is_name_or_empty}
use Rattle.ucd_facts.specs.declared.row.FoldStatus.{FoldStatus}
use Rattle.ucd_facts.specs.declared.row.FoldStatus.TheVariants.{F, T}
use Rattle.ucd_facts.specs.declared.row.ValueRow.{ValueRow}
use Rattle.ucd_facts.specs.declared.row.ExclusionRow.{ExclusionRow}
use Rattle.ucd_facts.specs.declared.row.FoldRow.{FoldRow}
use Rattle.ucd_facts.specs.declared.row.CasingRow.{CasingRow}
use Rattle.ucd_facts.specs.declared.row.AliasRow.{AliasRow}
use Rattle.ucd_facts.specs.declared.row.Row.{Row}
use Rattle.ucd_facts.specs.declared.row.Row.TheVariants.{Exclusion as ExclusionLine, Fold as FoldLine, Casing as CasingLine, Alias as AliasLine}
use Rattle.source_rows.specs.Steps.{or_fault}
use Rattle.source_rows.specs.OtherFaults.{is_empty, value_or_fault, exclusion_or_fault, has_fold_fields, folds_to, of_status, fold_or_fault, has_casing_fields, casing_or_fault, names_of, alias_or_fault}
use Rattle.source_rows.specs.declared.fault.RowFault.{RowFault}
use Rattle.source_rows.specs.declared.fault.RowFault.TheVariants.{G03, G04, G07, G08, G11}
use Rattle.source_rows.proofs.Spans.{spelled, given}
use Rattle.source_rows.proofs.Mappings.{mapping_spelled, mapping_given}
use Rattle.source_rows.proofs.Found.{passed, found}

-- ---- a span and a value

abbrev with_span : List (List ℕ) → Bounds → Result ValueRow RowFault
with_span fs s = cond (is_name (field fs 1)) (Ok (record { span = s; value = field fs 1 })) (Err G11)

pub value_read : (fs : List (List ℕ)) (row : ValueRow) → value_or_fault fs ≡ Ok row → ReadsValue fs row
unfolding value_or_fault
value_read fs row h =
    let a = passed (eqb (length fs) 2) (or_fault G04 (span_of (field fs 0)) (with_span fs)) G03 row h in
    let b = found G04 (span_of (field fs 0)) (with_span fs) row a.1 in
    let c = passed (is_name (field fs 1)) (Ok (record { span = b.0; value = field fs 1 })) G11 row b.2 in
    let same : record { span = b.0; value = field fs 1 } ≡ row = cc in
    subst (λ (r : ValueRow). ReadsValue fs r) same (record { count = eqb-true _ _ a.0; span = spelled (field fs 0) b.0 b.1; name = c.0; value = refl })

pub value_given : (fs : List (List ℕ)) (row : ValueRow) → ReadsValue fs row → value_or_fault fs ≡ Ok row
unfolding value_or_fault
value_given fs row r =
    rw (r.count, given (field fs 0) row.span r.span, r.name) (ap (λ (v : List ℕ). Ok (record { span = row.span; value = v })) (sym r.value))

-- ---- a span

abbrev pub IsExclusionOf : List (List ℕ) → Row → Type 0
IsExclusionOf fs (ExclusionLine row) = ReadsExclusion fs row
IsExclusionOf fs _ = ⊥

abbrev excluded : Bounds → Result Row RowFault
excluded s = Ok (ExclusionLine (record { span = s }))

pub exclusion_read : (fs : List (List ℕ)) (row : Row) → exclusion_or_fault fs ≡ Ok row → IsExclusionOf fs row
unfolding exclusion_or_fault
exclusion_read fs row h =
    let a = passed (eqb (length fs) 1) (or_fault G04 (span_of (field fs 0)) excluded) G03 row h in
    let b = found G04 (span_of (field fs 0)) excluded row a.1 in
    let same : ExclusionLine (record { span = b.0 }) ≡ row = cc in
    subst (λ (r : Row). IsExclusionOf fs r) same (record { count = eqb-true _ _ a.0; span = spelled (field fs 0) b.0 b.1 })

pub exclusion_given : (fs : List (List ℕ)) (row : ExclusionRow) → ReadsExclusion fs row → exclusion_or_fault fs ≡ Ok (ExclusionLine row)
unfolding exclusion_or_fault
exclusion_given fs row r = rw (r.count, given (field fs 0) row.span r.span) refl

-- ---- CaseFolding.txt

abbrev pub IsFoldOf : List (List ℕ) → Row → Type 0
IsFoldOf fs (FoldLine row) = ReadsFold fs row
IsFoldOf fs _ = ⊥

no_bytes : (bs : List ℕ) → is_empty bs ≡ true → bs ≡ []
no_bytes [] h = refl
no_bytes (b ∷ bs) h = absurd cc

fold_count : (fs : List (List ℕ)) → has_fold_fields fs ≡ true → (length fs ≡ 3) ⊎ (length fs ≡ 4) × (field fs 3 ≡ [])
fold_count fs h =
    elim (or_cases (eqb (length fs) 3) (eqb (length fs) 4 && is_empty (field fs 3)) h) [
      | inl three ↦ inl (eqb-true _ _ three)
      | inr four ↦ let k = and_parts (eqb (length fs) 4) (is_empty (field fs 3)) four in inr (eqb-true _ _ k.0, no_bytes (field fs 3) k.1)
    ]

count_folds : (fs : List (List ℕ)) → (length fs ≡ 3) ⊎ (length fs ≡ 4) × (field fs 3 ≡ []) → has_fold_fields fs ≡ true
count_folds fs (inl three) = or_left (eqb (length fs) 3) (eqb (length fs) 4 && is_empty (field fs 3)) (eq-eqb (length fs) 3 three)
count_folds fs (inr four) = or_right (eqb (length fs) 3) (eqb (length fs) 4 && is_empty (field fs 3)) (and_from _ _ (eq-eqb (length fs) 4 four.0) (ap is_empty four.1))

folds : (status : FoldStatus) (n : ℕ) → folds_to status n ≡ true → FoldsTo status n
folds F n h = ltb-true 0 n h
folds T n h = ltb-true 0 n h
folds _ n h = eqb-true n 1 h

folded : (status : FoldStatus) (n : ℕ) → FoldsTo status n → folds_to status n ≡ true
folded F n h = lt-ltb 0 n h
folded T n h = lt-ltb 0 n h
folded _ n h = eq-eqb n 1 h

of_status_is : (status : FoldStatus) (o : Option (List ℕ)) (cs : List ℕ) → of_status status o ≡ Some cs → (o ≡ Some cs) × FoldsTo status (length cs)
of_status_is status (Some ds) cs h =
    let k = cond_some (folds_to status (length ds)) ds cs h in
    (ap (λ (xs : List ℕ). Some xs) k.1, subst (λ (xs : List ℕ). FoldsTo status (length xs)) k.1 (folds status (length ds) k.0))
of_status_is status None cs h = absurd cc

abbrev fold_line : ℕ → FoldStatus → List ℕ → Result Row RowFault
fold_line c s m = Ok (FoldLine (record { code = c; status = s; mapping = m }))

abbrev with_status : List (List ℕ) → ℕ → FoldStatus → Result Row RowFault
with_status fs c s = or_fault G07 (of_status s (mapping_of (field fs 2))) (fold_line c s)

abbrev with_code : List (List ℕ) → ℕ → Result Row RowFault
with_code fs c = or_fault G08 (status_of (field fs 1)) (with_status fs c)

pub fold_read : (fs : List (List ℕ)) (row : Row) → fold_or_fault fs ≡ Ok row → IsFoldOf fs row
unfolding fold_or_fault
fold_read fs row h =
    let a = passed (has_fold_fields fs) (or_fault G04 (point_of (field fs 0)) (with_code fs)) G03 row h in
    let b = found G04 (point_of (field fs 0)) (with_code fs) row a.1 in
    let c = found G08 (status_of (field fs 1)) (with_status fs b.0) row b.2 in
    let d = found G07 (of_status c.0 (mapping_of (field fs 2))) (fold_line b.0 c.0) row c.2 in
    let m = of_status_is c.0 (mapping_of (field fs 2)) d.0 d.1 in
    let same : FoldLine (record { code = b.0; status = c.0; mapping = d.0 }) ≡ row = cc in
    subst (λ (r : Row). IsFoldOf fs r) same (record { count = fold_count fs a.0; code = b.1; status = c.1; mapping = mapping_spelled (field fs 2) d.0 m.0; length_fits = m.1 })

pub fold_given : (fs : List (List ℕ)) (row : FoldRow) → ReadsFold fs row → fold_or_fault fs ≡ Ok (FoldLine row)
unfolding fold_or_fault
fold_given fs row r =
    rw (count_folds fs r.count, r.code, r.status, mapping_given (field fs 2) row.mapping r.mapping, folded row.status (length row.mapping) r.length_fits) refl

-- ---- SpecialCasing.txt

abbrev pub IsCasingOf : List (List ℕ) → Row → Type 0
IsCasingOf fs (CasingLine row) = ReadsCasing fs row
IsCasingOf fs _ = ⊥

abbrev casing_line : ℕ → List ℕ → List ℕ → List ℕ → List ℕ → Result Row RowFault
casing_line c lower title upper conditions = Ok (CasingLine (record { code = c; lower = lower; title = title; upper = upper; conditions = conditions }))

abbrev with_upper : List (List ℕ) → ℕ → List ℕ → List ℕ → List ℕ → Result Row RowFault
with_upper fs c lower title upper = or_fault G11 (conditions_of (field fs 4)) (casing_line c lower title upper)

abbrev with_title : List (List ℕ) → ℕ → List ℕ → List ℕ → Result Row RowFault
with_title fs c lower title = or_fault G07 (mapping_of (field fs 3)) (with_upper fs c lower title)

abbrev with_lower : List (List ℕ) → ℕ → List ℕ → Result Row RowFault
with_lower fs c lower = or_fault G07 (mapping_of (field fs 2)) (with_title fs c lower)

abbrev with_casing_code : List (List ℕ) → ℕ → Result Row RowFault
with_casing_code fs c = or_fault G07 (mapping_of (field fs 1)) (with_lower fs c)

pub casing_read : (fs : List (List ℕ)) (row : Row) → casing_or_fault fs ≡ Ok row → IsCasingOf fs row
unfolding casing_or_fault
casing_read fs row h =
    let a = passed (has_casing_fields fs) (or_fault G04 (point_of (field fs 0)) (with_casing_code fs)) G03 row h in
    let n = and_parts (leb 4 (length fs) && leb (length fs) 6) (is_empty (field fs 5)) a.0 in
    let m = and_parts (leb 4 (length fs)) (leb (length fs) 6) n.0 in
    let b = found G04 (point_of (field fs 0)) (with_casing_code fs) row a.1 in
    let c = found G07 (mapping_of (field fs 1)) (with_lower fs b.0) row b.2 in
    let d = found G07 (mapping_of (field fs 2)) (with_title fs b.0 c.0) row c.2 in
    let e = found G07 (mapping_of (field fs 3)) (with_upper fs b.0 c.0 d.0) row d.2 in
    let f = found G11 (conditions_of (field fs 4)) (casing_line b.0 c.0 d.0 e.0) row e.2 in
    let same : CasingLine (record { code = b.0; lower = c.0; title = d.0; upper = e.0; conditions = f.0 }) ≡ row = cc in
    subst (λ (r : Row). IsCasingOf fs r) same (record { least = leb-true 4 (length fs) m.0; most = leb-true (length fs) 6 m.1; nothing_behind = no_bytes (field fs 5) n.1; code = b.1; lower = mapping_spelled (field fs 1) c.0 c.1; title = mapping_spelled (field fs 2) d.0 d.1; upper = mapping_spelled (field fs 3) e.0 e.1; conditions = f.1 })

pub casing_given : (fs : List (List ℕ)) (row : CasingRow) → ReadsCasing fs row → casing_or_fault fs ≡ Ok (CasingLine row)
unfolding casing_or_fault
casing_given fs row r =
    let count : has_casing_fields fs ≡ true = and_from _ _ (and_from _ _ (le-leb 4 (length fs) r.least) (le-leb (length fs) 6 r.most)) (ap is_empty r.nothing_behind) in
    rw (count, r.code, mapping_given (field fs 1) row.lower r.lower, mapping_given (field fs 2) row.title r.title, mapping_given (field fs 3) row.upper r.upper, r.conditions) refl

-- ---- alias files

abbrev pub IsAliasOf : ℕ → List (List ℕ) → Row → Type 0
IsAliasOf least fs (AliasLine row) = ReadsAlias least fs row
IsAliasOf least fs _ = ⊥

abbrev alias_line : List (List ℕ) → Result Row RowFault
alias_line names = Ok (AliasLine (record { names = names }))

pub alias_read : (least : ℕ) (fs : List (List ℕ)) (row : Row) → alias_or_fault least fs ≡ Ok row → IsAliasOf least fs row
unfolding alias_or_fault
alias_read least fs row h =
    let a = passed (leb least (length fs)) (cond (is_name (field fs 0)) (or_fault G11 (names_of fs) alias_line) (Err G11)) G03 row h in
    let b = passed (is_name (field fs 0)) (or_fault G11 (names_of fs) alias_line) G11 row a.1 in
    let c = found G11 (names_of fs) alias_line row b.1 in
    let d = cond_some (list_all is_name_or_empty fs) fs c.0 c.1 in
    let same : AliasLine (record { names = c.0 }) ≡ row = cc in
    subst (λ (r : Row). IsAliasOf least fs r) same (record { count = leb-true least (length fs) a.0; first = b.0; others = d.0; names = sym d.1 })

pub alias_given : (least : ℕ) (fs : List (List ℕ)) (row : AliasRow) → ReadsAlias least fs row → alias_or_fault least fs ≡ Ok (AliasLine row)
unfolding alias_or_fault
alias_given least fs row r =
    rw (le-leb least (length fs) r.count, r.first, r.others) (ap (λ (names : List (List ℕ)). Ok (AliasLine (record { names = names }))) (sym r.names))
