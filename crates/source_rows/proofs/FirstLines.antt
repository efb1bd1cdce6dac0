-- What a first line of a range says of the fault of two lines.
use Rattle.std.proofs.Common.{◌≡◌, ℕ, ◌<◌, Bool, true, false, cond, eqb, leb, List, [], ◌∷◌, ◌++◌, length, Option, Some, None, Result, Ok, Err, refl, sym, ap, subst, ◌∙◌, arith, inl, inr, ◌⊎◌, ◌↔◌, codes, IsSome, IsOk}
use Rattle.std.specs.List.{before_first, after_first}
use Rattle.std.proofs.lemmas.Bool.{and_parts, and_from, or_left, leb-true, leb-false, false≢true}
use Rattle.std.proofs.lemmas.List.Folds.{list_all-append}
use Rattle.ucd_points.specs.Bounds.{Bounds}
use Rattle.ucd_points.specs.Lines.{is_lf, without_return}
use Rattle.ucd_facts.specs.Names.{category_of, tag_of}
use Rattle.ucd_points.specs.Fields.{fields, field, point_of, is_name, is_name_byte, label_of, class_of, case_of}
use Rattle.ucd_facts.specs.Mappings.{mapping_of}
use Rattle.ucd_points.specs.declared.files.SourceFile.TheVariants.{UnicodeData}
use Rattle.source_rows.specs.Lines.{has_first_name, has_last_name, are_first_fields}
use Rattle.source_rows.specs.Steps.{or_fault, and_then}
use Rattle.source_rows.specs.DataFaults.{at_least_one, is_gt, canonical_or_fault, compat_or_fault, decomposition_or_fault, values_or_fault, unit_of, unit_or_fault, single_or_fault, first_label, are_last_fields, pair_end, pair_or_fault}
use Rattle.source_rows.specs.Faults.{row_or_fault, Row}
use Rattle.source_rows.specs.Ranges.{NoEnd, FirstLine, FirstLineFaultsStay}
use Rattle.source_rows.specs.declared.decomposition.Decomposition.{Decomposition}
use Rattle.source_rows.specs.declared.data_values.Values.{Values}
use Rattle.source_rows.specs.declared.fault.RowFault.{RowFault}
use Rattle.source_rows.specs.declared.fault.RowFault.TheVariants.{G04, G05, G06, G07, G09, G10}
use Rattle.source_rows.proofs.Labels.{label_read}
use Rattle.source_rows.proofs.Seams.{before_seam, after_seam}
use Rattle.source_rows.proofs.Grammar.{has_feed}
use Rattle.source_rows.proofs.FieldValues.{lacks_return}
use Rattle.source_rows.proofs.Separators.{name_bytes}

-- ---- the values of a line never lack a last line

never : {A B : Type 0} (f g : RowFault) (o : Option A) (k : A → Result B RowFault) → (f ≡ g → ⊥) → ((a : A) → k a ≡ Err g → ⊥) → or_fault f o k ≡ Err g → ⊥
never f g (Some a) k differs rest h = rest a h
never f g None k differs rest h = differs cc

never_then : {A B : Type 0} (g : RowFault) (r : Result A RowFault) (k : A → Result B RowFault) → (r ≡ Err g → ⊥) → ((a : A) → k a ≡ Err g → ⊥) → and_then r k ≡ Err g → ⊥
never_then g (Ok a) k first rest h = rest a h
never_then g (Err f) k first rest h = first cc

few_never : (b : Bool) (d : Decomposition) → cond b (Ok d) (Err G10) ≡ Err G09 → ⊥
few_never true d h = cc
few_never false d h = cc

decomposition_never : (bs : List ℕ) → decomposition_or_fault bs ≡ Err G09 → ⊥
unfolding decomposition_or_fault
decomposition_never [] h = cc
decomposition_never (b ∷ bs) h = either (eqb b 60) (b ∷ bs) h
  where
    canonical_never : (bs : List ℕ) → canonical_or_fault bs ≡ Err G09 → ⊥
    canonical_never bs h = never G07 G09 (at_least_one (mapping_of bs)) _ (λ e. cc) (λ cs k. few_never _ _ k) h

    compat_never : (bs : List ℕ) → compat_or_fault bs ≡ Err G09 → ⊥
    compat_never bs h = never G07 G09 (tag_of (before_first is_gt bs)) _ (λ e. cc) (λ tag k. never G07 G09 (at_least_one (mapping_of (after_first is_gt bs))) _ (λ e. cc) (λ cs m. cc) k) h

    either : (t : Bool) (bs : List ℕ) → cond t (compat_or_fault bs) (canonical_or_fault bs) ≡ Err G09 → ⊥
    either true bs h = compat_never bs h
    either false bs h = canonical_never bs h

values_never : (fs : List (List ℕ)) → values_or_fault fs ≡ Err G09 → ⊥
unfolding values_or_fault
values_never fs h = never G05 G09 (category_of (field fs 2)) _ (λ e. cc) (λ category k1. never G06 G09 (class_of (field fs 3)) _ (λ e. cc) (λ class k2. never_then G09 (decomposition_or_fault (field fs 5)) _ (decomposition_never (field fs 5)) (λ d k3. never G07 G09 (case_of (field fs 12)) _ (λ e. cc) (λ upper k4. never G07 G09 (case_of (field fs 13)) _ (λ e. cc) (λ lower k5. never G07 G09 (case_of (field fs 14)) _ (λ e. cc) (λ title k6. cc) k5) k4) k3) k2) k1) h

-- ---- the name of a first line is a name, and that of a range

first_is_name : (name : List ℕ) → has_first_name name ≡ true → is_name name ≡ true
first_is_name name h =
    let l = label_read (codes ", First>") name h in
    let label = label_of (codes ", First>") name in
    let whole : is_name (60 ∷ (label ++ codes ", First>")) ≡ true = list_all-append is_name_byte label (codes ", First>") ∙ and_from _ _ (name_bytes label l.1) refl in
    ap is_name l.0 ∙ whole

-- ---- one line and two, by what their fields give

-- the values of the first line, and what is found of the span
abbrev unit_with : List (List ℕ) → Bool → List ℕ → Result Bounds RowFault → Result Values RowFault → Result Row RowFault
unit_with fs range name end values = and_then values (λ v. and_then end (λ span. Ok (unit_of fs range name v span)))

abbrev end_with : Bool → ℕ → Option ℕ → Result Bounds RowFault
end_with ends lo code = cond ends (or_fault G04 code (λ hi. cond (leb lo hi) (Ok (record { lo = lo; hi = hi })) (Err G04))) (Err G09)

ends_faults : (fs : List (List ℕ)) (v : Values) (lo : ℕ) (label : List ℕ) (ends : Bool) (code : Option ℕ) → (given : Result Row RowFault) → given ≡ unit_with fs true label (end_with ends lo code) (Ok v) → ((given ≡ Err G09) ↔ (ends ≡ false)) × ((given ≡ Err G04) ↔ ((ends ≡ true) × NoEnd (Some lo) code)) × ((fault : RowFault) → given ≡ Err fault → (fault ≡ G09) ⊎ (fault ≡ G04))
ends_faults fs v lo label false code given e = ((λ h. refl, λ h. e), (λ h. absurd cc, λ h. absurd (false≢true h.0)), λ fault h. inl cc)
ends_faults fs v lo label true None given e = ((λ h. absurd cc, λ h. absurd cc), (λ h. (refl, tt), λ h. e), λ fault h. inr cc)
ends_faults fs v lo label true (Some hi) given e = above (leb lo hi) refl given e
  where
    above : (b : Bool) → leb lo hi ≡ b → (given : Result Row RowFault) → given ≡ unit_with fs true label (cond b (Ok (record { lo = lo; hi = hi })) (Err G04)) (Ok v) → ((given ≡ Err G09) ↔ (true ≡ false)) × ((given ≡ Err G04) ↔ ((true ≡ true) × (hi < lo))) × ((fault : RowFault) → given ≡ Err fault → (fault ≡ G09) ⊎ (fault ≡ G04))
    above true t given e = ((λ h. absurd cc, λ h. absurd cc), (λ h. absurd cc, λ h. absurd (omega (arith, leb-true lo hi t, h.1))), λ fault h. absurd cc)
    above false t given e = ((λ h. absurd cc, λ h. absurd cc), (λ h. (refl, leb-false lo hi t), λ h. e), λ fault h. inr cc)

first_line : (fs last : List (List ℕ)) (code : Option ℕ) (values : Result Values RowFault) (label name : List ℕ) → point_of (field fs 0) ≡ code → values_or_fault fs ≡ values → is_name (field fs 1) ≡ true → first_label fs ≡ label → (alone given : Result Row RowFault) → alone ≡ or_fault G04 code (λ c. unit_with fs false name (Err G09) values) → given ≡ or_fault G04 code (λ lo. unit_with fs true label (end_with (are_last_fields label last) lo (point_of (field last 0))) values) → FirstLine fs last alone given
first_line fs last None values label name c w n l alone given a g = record { no_row = λ row h. cc; lacks_last = λ h. absurd cc; own_fault = λ fault other h. g ∙ sym a ∙ h }
first_line fs last (Some lo) (Err f) label name c w n l alone given a g = record { no_row = λ row h. cc; lacks_last = λ h. let e : f ≡ G09 = cc in absurd (values_never fs (w ∙ ap (λ (x : RowFault). Err x) e)); own_fault = λ fault other h. g ∙ sym a ∙ h }
first_line fs last (Some lo) (Ok v) label name c w n l alone given a g =
    let faults = ends_faults fs v lo label (are_last_fields label last) (point_of (field last 0)) given g in
    record {
      no_row = λ row h. cc;
      lacks_last = λ h. (record { code = subst (λ (o : Option ℕ). IsSome o) (sym c) refl; name = n; values = subst (λ (r : Result Values RowFault). IsOk r) (sym w) refl }, record { g09 = subst (λ (x : List ℕ). (given ≡ Err G09) ↔ (are_last_fields x last ≡ false)) (sym l) faults.0; g04 = subst (λ (o : Option ℕ). (given ≡ Err G04) ↔ ((are_last_fields (first_label fs) last ≡ true) × NoEnd o (point_of (field last 0)))) (sym c) (subst (λ (x : List ℕ). (given ≡ Err G04) ↔ ((are_last_fields x last ≡ true) × NoEnd (Some lo) (point_of (field last 0)))) (sym l) faults.1); no_other = faults.2 });
      own_fault = λ fault other h. absurd (other cc);
    }

single_is_first : (fs : List (List ℕ)) → are_first_fields fs ≡ true → is_name (field fs 1) ≡ true → single_or_fault fs ≡ or_fault G04 (point_of (field fs 0)) (λ c. unit_with fs false (field fs 1) (Err G09) (values_or_fault fs))
unfolding single_or_fault unit_or_fault
single_is_first fs first name =
    let k = and_parts (eqb (length fs) 15) (has_first_name (field fs 1)) first in
    rw (k.0, name, or_left (has_first_name (field fs 1)) (has_last_name (field fs 1)) k.1) refl

pair_is_first : (fs last : List (List ℕ)) → are_first_fields fs ≡ true → pair_or_fault fs last ≡ or_fault G04 (point_of (field fs 0)) (λ lo. unit_with fs true (first_label fs) (end_with (are_last_fields (first_label fs) last) lo (point_of (field last 0))) (values_or_fault fs))
unfolding pair_or_fault unit_or_fault pair_end
pair_is_first fs last first = rw first refl

-- a first line by itself is no row
pub no_row_alone : (fs : List (List ℕ)) (row : Row) → are_first_fields fs ≡ true → single_or_fault fs ≡ Ok row → ⊥
no_row_alone fs row first =
    let k = and_parts (eqb (length fs) 15) (has_first_name (field fs 1)) first in
    let name = first_is_name (field fs 1) k.1 in
    (first_line fs fs (point_of (field fs 0)) (values_or_fault fs) (first_label fs) (field fs 1) refl refl name refl (single_or_fault fs) (pair_or_fault fs fs) (single_is_first fs first name) (pair_is_first fs fs first)).no_row row

pub first_line_faults_stay : FirstLineFaultsStay
unfolding row_or_fault
first_line_faults_stay front last one other first =
    let fs = fields UnicodeData (without_return front) in
    let gs = fields UnicodeData last in
    let k = and_parts (eqb (length fs) 15) (has_first_name (field fs 1)) first in
    let name = first_is_name (field fs 1) k.1 in
    let alone : row_or_fault UnicodeData (without_return front) ≡ single_or_fault fs = rw (lacks_return is_lf front one) refl in
    let given : row_or_fault UnicodeData (front ++ 10 ∷ last) ≡ pair_or_fault fs gs = rw (has_feed front last, before_seam is_lf front 10 last one refl, after_seam is_lf front 10 last one refl, other) refl in
    first_line fs gs (point_of (field fs 0)) (values_or_fault fs) (first_label fs) (field fs 1) refl refl name refl (row_or_fault UnicodeData (without_return front)) (row_or_fault UnicodeData (front ++ 10 ∷ last)) (alone ∙ single_is_first fs first name) (given ∙ pair_is_first fs gs first)
