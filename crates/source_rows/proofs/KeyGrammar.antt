-- Keys are given exactly where the grammar reads them.
use Rattle.std.proofs.Common.{◌≡◌, ℕ, Bool, true, false, cond, eqb, leb, List, [], ◌∷◌, length, Option, Some, None, Result, Ok, Err, refl, sym, subst, eqb-true, eq-eqb, leb-true, le-leb}
use Rattle.std.specs.List.{list_all}
use Rattle.std.proofs.lemmas.Option.{cond_some}
use Rattle.ucd_points.specs.Lines.{holds_line_feed}
use Rattle.ucd_points.specs.Bounds.{Bounds}
use Rattle.ucd_points.specs.Fields.{fields, field, point_of, span_of, is_name}
use Rattle.ucd_points.specs.MissingLines.{is_missing}
use Rattle.ucd_facts.specs.Mappings.{conditions_of}
use Rattle.ucd_facts.specs.Names.{status_of, status_code}
use Rattle.ucd_facts.specs.OtherLines.{is_name_or_empty}
use Rattle.ucd_points.specs.declared.files.SourceFile.TheVariants.{UnicodeData, PropList, Scripts, WordBreakProperty, CompositionExclusions, CaseFolding, SpecialCasing, PropertyAliases, PropertyValueAliases}
use Rattle.ucd_facts.specs.declared.row.FoldStatus.{FoldStatus}
use Rattle.source_rows.specs.Steps.{or_fault}
use Rattle.source_rows.specs.Keys.{condition_names, missing_names, SourceFile}
use Rattle.source_rows.specs.OtherFaults.{names_of}
use Rattle.source_rows.specs.KeyGrammar.{ReadsCodeKey, ReadsMissingKey, ReadsValueKey, ReadsPropertyKey, ReadsFoldKey, ReadsCasingKey, ReadsAliasKey, ReadsKeyLine, ReadsKey, KeysAreRead, key_at, code_key, missing_key, value_key, property_key, fold_key, casing_key, alias_key, key_line_or_fault, key_or_fault}
use Rattle.source_rows.specs.declared.fault.RowFault.{RowFault}
use Rattle.source_rows.specs.declared.fault.RowFault.TheVariants.{G03, G04, G08, G11}
use Rattle.source_rows.specs.declared.key.Key.{Key}
use Rattle.source_rows.proofs.Found.{passed, failed, found}
use Rattle.source_rows.proofs.Spans.{spelled, given}

-- a key by its parts
abbrev keyed : Option ℕ → List (List ℕ) → Result Key RowFault
keyed code names = Ok (record { code = code; names = names })

is_key : (key : Key) (code : Option ℕ) (names : List (List ℕ)) → key.code ≡ code → key.names ≡ names → keyed code names ≡ Ok key
is_key key code names c n = rw (← c, ← n) refl

-- ---- a code point

abbrev coded : ℕ → Result Key RowFault
coded c = Ok (key_at c [])

code_read : (fs : List (List ℕ)) (key : Key) → code_key fs ≡ Ok key → ReadsCodeKey fs key
unfolding code_key
code_read fs key h =
    let a = passed (eqb (length fs) 1) (or_fault G04 (point_of (field fs 0)) coded) G03 key h in
    let b = found G04 (point_of (field fs 0)) coded key a.1 in
    let same : key_at b.0 [] ≡ key = cc in
    subst (λ (k : Key). ReadsCodeKey fs k) same (record { count = eqb-true _ _ a.0; point = b.0; spelled = b.1; code = refl; names = refl })

code_given : (fs : List (List ℕ)) (key : Key) → ReadsCodeKey fs key → code_key fs ≡ Ok key
unfolding code_key
code_given fs key r = rw (r.count, r.spelled) (is_key key (Some r.point) [] r.code r.names)

-- ---- a span

abbrev spanned : Bounds → Result Key RowFault
spanned s = Ok (key_at s.lo (missing_names s.hi))

missing_read : (fs : List (List ℕ)) (key : Key) → missing_key fs ≡ Ok key → ReadsMissingKey fs key
unfolding missing_key
missing_read fs key h =
    let a = passed (eqb (length fs) 1) (or_fault G04 (span_of (field fs 0)) spanned) G03 key h in
    let b = found G04 (span_of (field fs 0)) spanned key a.1 in
    let same : key_at b.0.lo (missing_names b.0.hi) ≡ key = cc in
    subst (λ (k : Key). ReadsMissingKey fs k) same (record { count = eqb-true _ _ a.0; span = b.0; spelled = spelled (field fs 0) b.0 b.1; code = refl; names = refl })

missing_given : (fs : List (List ℕ)) (key : Key) → ReadsMissingKey fs key → missing_key fs ≡ Ok key
unfolding missing_key
missing_given fs key r = rw (r.count, given (field fs 0) r.span r.spelled) (is_key key (Some r.span.lo) (missing_names r.span.hi) r.code r.names)

-- ---- a code point and a name

abbrev named : List (List ℕ) → ℕ → Result Key RowFault
named fs c = cond (is_name (field fs 1)) (Ok (key_at c (field fs 1 ∷ []))) (Err G11)

property_read : (fs : List (List ℕ)) (key : Key) → property_key fs ≡ Ok key → ReadsPropertyKey fs key
unfolding property_key
property_read fs key h =
    let a = passed (eqb (length fs) 2) (or_fault G04 (point_of (field fs 0)) (named fs)) G03 key h in
    let b = found G04 (point_of (field fs 0)) (named fs) key a.1 in
    let c = passed (is_name (field fs 1)) (Ok (key_at b.0 (field fs 1 ∷ []))) G11 key b.2 in
    let same : key_at b.0 (field fs 1 ∷ []) ≡ key = cc in
    subst (λ (k : Key). ReadsPropertyKey fs k) same (record { count = eqb-true _ _ a.0; point = b.0; spelled = b.1; code = refl; named = c.0; names = refl })

property_given : (fs : List (List ℕ)) (key : Key) → ReadsPropertyKey fs key → property_key fs ≡ Ok key
unfolding property_key
property_given fs key r = rw (r.count, r.spelled, r.named) (is_key key (Some r.point) (field fs 1 ∷ []) r.code r.names)

-- ---- a code point and a status

abbrev lettered : ℕ → FoldStatus → Result Key RowFault
lettered c s = Ok (key_at c ((status_code s ∷ []) ∷ []))

abbrev with_letter : List (List ℕ) → ℕ → Result Key RowFault
with_letter fs c = or_fault G08 (status_of (field fs 1)) (lettered c)

fold_read : (fs : List (List ℕ)) (key : Key) → fold_key fs ≡ Ok key → ReadsFoldKey fs key
unfolding fold_key
fold_read fs key h =
    let a = passed (eqb (length fs) 2) (or_fault G04 (point_of (field fs 0)) (with_letter fs)) G03 key h in
    let b = found G04 (point_of (field fs 0)) (with_letter fs) key a.1 in
    let c = found G08 (status_of (field fs 1)) (lettered b.0) key b.2 in
    let same : key_at b.0 ((status_code c.0 ∷ []) ∷ []) ≡ key = cc in
    subst (λ (k : Key). ReadsFoldKey fs k) same (record { count = eqb-true _ _ a.0; point = b.0; spelled = b.1; code = refl; status = c.0; lettered = c.1; names = refl })

fold_given : (fs : List (List ℕ)) (key : Key) → ReadsFoldKey fs key → fold_key fs ≡ Ok key
unfolding fold_key
fold_given fs key r = rw (r.count, r.spelled, r.lettered) (is_key key (Some r.point) ((status_code r.status ∷ []) ∷ []) r.code r.names)

-- ---- a code point and conditions

abbrev conditioned : ℕ → List ℕ → Result Key RowFault
conditioned c conditions = Ok (key_at c (condition_names conditions))

abbrev with_conditions : List (List ℕ) → ℕ → Result Key RowFault
with_conditions fs c = or_fault G11 (conditions_of (field fs 1)) (conditioned c)

casing_read : (fs : List (List ℕ)) (key : Key) → casing_key fs ≡ Ok key → ReadsCasingKey fs key
unfolding casing_key
casing_read fs key h =
    let a = passed (leb (length fs) 2) (or_fault G04 (point_of (field fs 0)) (with_conditions fs)) G03 key h in
    let b = found G04 (point_of (field fs 0)) (with_conditions fs) key a.1 in
    let c = found G11 (conditions_of (field fs 1)) (conditioned b.0) key b.2 in
    let same : key_at b.0 (condition_names c.0) ≡ key = cc in
    subst (λ (k : Key). ReadsCasingKey fs k) same (record { most = leb-true (length fs) 2 a.0; point = b.0; spelled = b.1; code = refl; conditions = c.0; worded = c.1; names = refl })

casing_given : (fs : List (List ℕ)) (key : Key) → ReadsCasingKey fs key → casing_key fs ≡ Ok key
unfolding casing_key
casing_given fs key r = rw (le-leb (length fs) 2 r.most, r.spelled, r.worded) (is_key key (Some r.point) (condition_names r.conditions) r.code r.names)

-- ---- names

abbrev alias_named : List (List ℕ) → Result Key RowFault
alias_named names = Ok (record { code = None; names = names })

alias_read : (count : ℕ) (fs : List (List ℕ)) (key : Key) → alias_key count fs ≡ Ok key → ReadsAliasKey count fs key
unfolding alias_key
alias_read count fs key h =
    let a = passed (eqb (length fs) count) (cond (is_name (field fs 0)) (or_fault G11 (names_of fs) alias_named) (Err G11)) G03 key h in
    let b = passed (is_name (field fs 0)) (or_fault G11 (names_of fs) alias_named) G11 key a.1 in
    let c = found G11 (names_of fs) alias_named key b.1 in
    let d = cond_some (list_all is_name_or_empty fs) fs c.0 c.1 in
    let same : record { code = None; names = c.0 } ≡ key = cc in
    subst (λ (k : Key). ReadsAliasKey count fs k) same (record { as_many = eqb-true _ _ a.0; first = b.0; others = d.0; code = refl; names = sym d.1 })

alias_given : (count : ℕ) (fs : List (List ℕ)) (key : Key) → ReadsAliasKey count fs key → alias_key count fs ≡ Ok key
unfolding alias_key
alias_given count fs key r = rw (eq-eqb (length fs) count r.as_many, r.first, r.others) (is_key key None fs r.code r.names)

-- ---- by the file

value_key_read : (missing : Bool) (fs : List (List ℕ)) (key : Key) → value_key missing fs ≡ Ok key → ReadsValueKey missing fs key
value_key_read true fs key h = missing_read fs key h
value_key_read false fs key h = code_read fs key h

value_key_given : (missing : Bool) (fs : List (List ℕ)) (key : Key) → ReadsValueKey missing fs key → value_key missing fs ≡ Ok key
value_key_given true fs key r = missing_given fs key r
value_key_given false fs key r = code_given fs key r

line_read : (file : SourceFile) (bytes : List ℕ) (key : Key) → key_line_or_fault file bytes ≡ Ok key → ReadsKeyLine file bytes key
line_read UnicodeData bytes key h = code_read (fields UnicodeData bytes) key h
line_read PropList bytes key h = property_read (fields PropList bytes) key h
line_read Scripts bytes key h = value_key_read (is_missing Scripts bytes) (fields Scripts bytes) key h
line_read WordBreakProperty bytes key h = value_key_read (is_missing WordBreakProperty bytes) (fields WordBreakProperty bytes) key h
line_read CompositionExclusions bytes key h = code_read (fields CompositionExclusions bytes) key h
line_read CaseFolding bytes key h = fold_read (fields CaseFolding bytes) key h
line_read SpecialCasing bytes key h = casing_read (fields SpecialCasing bytes) key h
line_read PropertyAliases bytes key h = alias_read 2 (fields PropertyAliases bytes) key h
line_read PropertyValueAliases bytes key h = alias_read 3 (fields PropertyValueAliases bytes) key h

line_given : (file : SourceFile) (bytes : List ℕ) (key : Key) → ReadsKeyLine file bytes key → key_line_or_fault file bytes ≡ Ok key
line_given UnicodeData bytes key r = code_given (fields UnicodeData bytes) key r
line_given PropList bytes key r = property_given (fields PropList bytes) key r
line_given Scripts bytes key r = value_key_given (is_missing Scripts bytes) (fields Scripts bytes) key r
line_given WordBreakProperty bytes key r = value_key_given (is_missing WordBreakProperty bytes) (fields WordBreakProperty bytes) key r
line_given CompositionExclusions bytes key r = code_given (fields CompositionExclusions bytes) key r
line_given CaseFolding bytes key r = fold_given (fields CaseFolding bytes) key r
line_given SpecialCasing bytes key r = casing_given (fields SpecialCasing bytes) key r
line_given PropertyAliases bytes key r = alias_given 2 (fields PropertyAliases bytes) key r
line_given PropertyValueAliases bytes key r = alias_given 3 (fields PropertyValueAliases bytes) key r

key_read : (file : SourceFile) (bytes : List ℕ) (key : Key) → key_or_fault file bytes ≡ Ok key → ReadsKey file bytes key
unfolding key_or_fault
key_read file bytes key h =
    let a = failed (holds_line_feed bytes) (key_line_or_fault file bytes) G03 key h in
    (a.0, line_read file bytes key a.1)

key_given : (file : SourceFile) (bytes : List ℕ) (key : Key) → ReadsKey file bytes key → key_or_fault file bytes ≡ Ok key
unfolding key_or_fault
key_given file bytes key r = rw r.0 (line_given file bytes key r.1)

pub keys_are_read : KeysAreRead
keys_are_read file bytes key = (key_read file bytes key, key_given file bytes key)
