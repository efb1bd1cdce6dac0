-- Bytes that are read as a row are no trivia.
use Rattle.std.proofs.Common.{◌≡◌, ℕ, zero, suc, ◌+◌, ◌-◌, Bool, true, false, cond, eqb, leb, ◌&&◌, ◌||◌, List, [], ◌∷◌, length, take, drop, Some, None, Ok, Err, refl, sym, ◌∙◌, arith, not}
use Rattle.std.specs.List.{list_all, list_any, before_first, after_first, position_or_len, prefix_len, suffix_len}
use Rattle.std.proofs.lemmas.Bool.{false_from_ne_true, and_from, and_parts, not-true, or_parts}
use Rattle.std.proofs.lemmas.Bool.Decides.{nat_tests}
use Rattle.std.proofs.lemmas.List.Splits.{slice_split_none}
use Rattle.ucd_points.specs.Lines.{is_blank, is_lf, is_comment, holds_line_feed, without_return}
use Rattle.ucd_points.specs.MissingLines.{missing_rest, is_missing, is_trivia}
use Rattle.ucd_points.specs.Fields.{fields, field, trim, trim_start, is_hash, is_semicolon, point_of, span_of, hex_number, digit_of}
use Rattle.ucd_points.specs.declared.files.SourceFile.TheVariants.{UnicodeData, PropList, Scripts, WordBreakProperty, CompositionExclusions}
use Rattle.ucd_facts.specs.declared.row.ValueRow.{ValueRow}
use Rattle.source_rows.specs.Fields.{fields_of, row_fields}
use Rattle.source_rows.specs.Steps.{and_then}
use Rattle.source_rows.specs.Lines.{are_first_fields}
use Rattle.source_rows.specs.DataFaults.{single_or_fault, pair_or_fault}
use Rattle.source_rows.specs.OtherFaults.{value_or_fault, exclusion_or_fault, fold_or_fault, casing_or_fault, alias_or_fault}
use Rattle.source_rows.specs.Faults.{value_line, row_or_fault, line_or_fault, lines_or_fault, SourceFile, Row}
use Rattle.source_rows.specs.Trivia.{RowsAreNoTrivia}
use Rattle.source_rows.specs.declared.fault.RowFault.TheVariants.{G03, G04}
use Rattle.source_rows.proofs.FieldCuts.{first_is}
use Rattle.source_rows.proofs.Found.{passed, failed, found, after, none_either}
use Rattle.source_rows.proofs.Lacks.{Lacks, lacks_all, lacks_each}
use Rattle.source_rows.proofs.MissingLines.{rest_is_none, fields_of_others}
use Rattle.source_rows.proofs.Seams.{lacks_before}
use Rattle.source_rows.proofs.Digits.{none_stays}

-- ---- a comment byte by byte

drop_one : (n b : ℕ) (bs : List ℕ) → drop (1 + n) (b ∷ bs) ≡ drop n bs
drop_one n b bs = let e : 1 + n ≡ suc n = omega arith in rw e refl

step_by : (b : ℕ) (bs : List ℕ) (t : Bool) → is_blank b ≡ t → is_comment (b ∷ bs) ≡ cond t (is_comment bs) (eqb b 35)
step_by b bs true e = rw (e, drop_one (prefix_len is_blank bs) b bs) refl
step_by b bs false e = rw e refl

step : (b : ℕ) (bs : List ℕ) → is_comment (b ∷ bs) ≡ cond (is_blank b) (is_comment bs) (eqb b 35)
step b bs = step_by b bs (is_blank b) refl

take_step : (t : Bool) (more less : Bool) (hash : Bool) → (more ≡ true → less ≡ true) → cond t more hash ≡ true → cond t less hash ≡ true
take_step true more less hash f h = f h
take_step false more less hash f h = h

-- a first part of a comment is one
trivia_take : (n : ℕ) (bs : List ℕ) → is_comment bs ≡ true → is_comment (take n bs) ≡ true
trivia_take zero bs h = refl
trivia_take (suc n) [] h = refl
trivia_take (suc n) (b ∷ bs) h = step b (take n bs) ∙ take_step (is_blank b) (is_comment bs) (is_comment (take n bs)) (eqb b 35) (trivia_take n bs) (sym (step b bs) ∙ h)

start_by : (b : ℕ) (bs : List ℕ) (t : Bool) → is_blank b ≡ t → (is_comment bs ≡ true → is_comment (trim_start bs) ≡ true) → is_comment (b ∷ bs) ≡ true → is_comment (trim_start (b ∷ bs)) ≡ true
start_by b bs true e f h = let k : is_comment bs ≡ true = (sym (step_by b bs true e) ∙ h) in rw (e, drop_one (prefix_len is_blank bs) b bs) (f k)
start_by b bs false e f h = rw e h

trivia_start : (bs : List ℕ) → is_comment bs ≡ true → is_comment (trim_start bs) ≡ true
trivia_start [] h = refl
trivia_start (b ∷ bs) h = start_by b bs (is_blank b) refl (trivia_start bs) h

trivia_trim : (bs : List ℕ) → is_comment bs ≡ true → is_comment (trim bs) ≡ true
trivia_trim bs h = trivia_take (length (trim_start bs) - suffix_len is_blank (trim_start bs)) (trim_start bs) (trivia_start bs h)

-- ---- no code point begins so

no_digit : (b : ℕ) (t trivia : Bool) → is_blank b ≡ t → cond t trivia (eqb b 35) ≡ true → digit_of b ≡ None
no_digit b true trivia e h = grind (arith, nat_tests)
no_digit b false trivia e h = grind (arith, nat_tests)

no_number : (b : ℕ) (bs : List ℕ) → is_comment (b ∷ bs) ≡ true → hex_number (b ∷ bs) ≡ None
no_number b bs h = rw (no_digit b (is_blank b) (is_comment bs) refl (sym (step b bs) ∙ h)) (none_stays bs)

no_point : (bs : List ℕ) → is_comment bs ≡ true → point_of bs ≡ None
unfolding point_of
no_point [] h = refl
no_point (b ∷ bs) h = rw (no_number b bs h) (none_either (leb 4 (length (b ∷ bs)) && leb (length (b ∷ bs)) 6))

-- the first field of a line of UnicodeData.txt that is a comment
pub no_code : (bs : List ℕ) → is_comment bs ≡ true → point_of (field (fields UnicodeData bs) 0) ≡ None
unfolding fields
no_code bs h = rw (first_is bs) (no_point (trim (before_first is_semicolon bs)) (trivia_trim (before_first is_semicolon bs) (trivia_take (position_or_len is_semicolon bs) bs h)))

-- ---- what stands before a comment is blank

blank_by : (b : ℕ) (bs : List ℕ) (t : Bool) → is_blank b ≡ t → (is_comment bs ≡ true → Lacks is_hash bs → list_all is_blank bs ≡ true) → cond t (is_comment bs) (eqb b 35) ≡ true → (eqb b 35 || list_any is_hash bs) ≡ false → list_all is_blank (b ∷ bs) ≡ true
blank_by b bs true e f h k = and_from (is_blank b) (list_all is_blank bs) e (f h (or_parts (eqb b 35) (list_any is_hash bs) k).1)
blank_by b bs false e f h k = absurd (let j : (true || list_any is_hash bs) ≡ false = (rw h at k) in cc)

all_blank : (bs : List ℕ) → is_comment bs ≡ true → Lacks is_hash bs → list_all is_blank bs ≡ true
all_blank [] h k = refl
all_blank (b ∷ bs) h k = blank_by b bs (is_blank b) refl (all_blank bs) (sym (step b bs) ∙ h) k

trim_by : (b : ℕ) (bs : List ℕ) (t : Bool) → is_blank b ≡ t → (t && list_all is_blank bs) ≡ true → (list_all is_blank bs ≡ true → trim_start bs ≡ []) → trim_start (b ∷ bs) ≡ []
trim_by b bs true e h f = rw (e, drop_one (prefix_len is_blank bs) b bs) (f h)
trim_by b bs false e h f = absurd cc

trim_blank : (bs : List ℕ) → list_all is_blank bs ≡ true → trim_start bs ≡ []
trim_blank [] h = refl
trim_blank (b ∷ bs) h = trim_by b bs (is_blank b) refl h (trim_blank bs)

no_semicolon : (b : ℕ) → is_blank b ≡ true → is_semicolon b ≡ false
no_semicolon b h = grind (arith, nat_tests)

one_empty : (bs : List ℕ) → list_all is_blank bs ≡ true → fields_of bs ≡ [] ∷ []
one_empty bs h = rw (slice_split_none is_semicolon bs (lacks_each is_semicolon bs (lacks_all is_semicolon is_blank bs no_semicolon h)), trim_blank bs h) refl

-- the fields of a line of another file that is a comment
no_fields : (bs : List ℕ) → is_comment bs ≡ true → fields_of (before_first is_hash bs) ≡ [] ∷ []
no_fields bs h = one_empty (before_first is_hash bs) (all_blank (before_first is_hash bs) (trivia_take (position_or_len is_hash bs) bs h) (lacks_before is_hash bs))

-- ---- no row of one line

no_span : span_of [] ≡ None
unfolding span_of point_of
no_span = refl

no_value : (fs : List (List ℕ)) (row : ValueRow) → fs ≡ [] ∷ [] → value_or_fault fs ≡ Ok row → ⊥
unfolding value_or_fault
no_value fs row e h = let k : Err G03 ≡ Ok row = (rw e at h) in cc

no_single : (fs : List (List ℕ)) (row : Row) → point_of (field fs 0) ≡ None → single_or_fault fs ≡ Ok row → ⊥
unfolding single_or_fault
no_single fs row none h =
    let a = passed (eqb (length fs) 15) _ G03 row h in
    let b = found G04 (point_of (field fs 0)) _ row a.1 in
    let k : None ≡ Some b.0 = sym none ∙ b.1 in
    cc

no_values : (file : SourceFile) (bs : List ℕ) (row : Row) → is_comment bs ≡ true → missing_rest file bs ≡ None → and_then (value_or_fault (row_fields file bs)) (λ v. Ok (value_line file bs v)) ≡ Ok row → ⊥
no_values file bs row t none h =
    let a = after (value_or_fault (row_fields file bs)) (λ v. Ok (value_line file bs v)) row h in
    no_value (row_fields file bs) a.0 (fields_of_others file bs none ∙ no_fields bs t) a.1

no_line : (file : SourceFile) (bs : List ℕ) (row : Row) → is_comment bs ≡ true → missing_rest file bs ≡ None → line_or_fault file bs ≡ Ok row → ⊥
unfolding fields missing_rest exclusion_or_fault fold_or_fault casing_or_fault alias_or_fault
no_line UnicodeData bs row t none h = no_single (fields UnicodeData bs) row (no_code bs t) h
no_line PropList bs row t none h = no_values PropList bs row t none h
no_line Scripts bs row t none h = no_values Scripts bs row t none h
no_line WordBreakProperty bs row t none h = no_values WordBreakProperty bs row t none h
no_line CompositionExclusions bs row t none h = let k : Err G04 ≡ Ok row = (rw (no_fields bs t, no_span) at h) in cc
no_line _ bs row t none h = let k : Err G03 ≡ Ok row = (rw (no_fields bs t) at h) in cc

-- ---- no row of two lines

pub no_pair : (first last : List (List ℕ)) (row : Row) → point_of (field first 0) ≡ None → pair_or_fault first last ≡ Ok row → ⊥
unfolding pair_or_fault
no_pair first last row none h =
    let a = passed (are_first_fields first) _ G03 row h in
    let b = found G04 (point_of (field first 0)) _ row a.1 in
    let k : None ≡ Some b.0 = sym none ∙ b.1 in
    cc

return_by : (b : Bool) (n : ℕ) (bs : List ℕ) → is_comment bs ≡ true → is_comment (cond b (take n bs) bs) ≡ true
return_by true n bs h = trivia_take n bs h
return_by false n bs h = h

trivia_front : (bs : List ℕ) → is_comment bs ≡ true → is_comment (without_return (before_first is_lf bs)) ≡ true
trivia_front bs h =
    let front = before_first is_lf bs in
    return_by _ (length front - 1) front (trivia_take (position_or_len is_lf bs) bs h)

no_lines : (file : SourceFile) (bs : List ℕ) (row : Row) → is_comment bs ≡ true → lines_or_fault file (before_first is_lf bs) (after_first is_lf bs) ≡ Ok row → ⊥
no_lines UnicodeData bs row t h =
    let a = failed (holds_line_feed (after_first is_lf bs)) _ G03 row h in
    no_pair (fields UnicodeData (without_return (before_first is_lf bs))) (fields UnicodeData (after_first is_lf bs)) row (no_code (without_return (before_first is_lf bs)) (trivia_front bs t)) a.1
no_lines _ bs row t h = cc

no_row : (feed : Bool) (file : SourceFile) (bs : List ℕ) (row : Row) → is_comment bs ≡ true → missing_rest file bs ≡ None → cond feed (lines_or_fault file (before_first is_lf bs) (after_first is_lf bs)) (line_or_fault file bs) ≡ Ok row → ⊥
no_row true file bs row t none h = no_lines file bs row t h
no_row false file bs row t none h = no_line file bs row t none h

pub rows_are_no_trivia : RowsAreNoTrivia
unfolding row_or_fault
rows_are_no_trivia file bytes row h = false_from_ne_true (is_trivia file bytes) (λ t. let both = and_parts (is_comment bytes) (not (is_missing file bytes)) t in no_row (holds_line_feed bytes) file bytes row both.0 (rest_is_none file bytes (not-true (is_missing file bytes) both.1)) h)
