-- The rules that a row breaks, told by extents.
use Rattle.std.proofs.Common.{◌≡◌, ℕ, Bool, true, false, cond, ◌&&◌, leb, eqb, List, [], ◌∷◌, map, Option, Some, None, refl, ap, ◌∙◌, arith}
use Rattle.std.specs.List.{list_any}
use Rattle.std.proofs.lemmas.Bool.Decides.{nat_tests}
use Rattle.ucd_points.specs.PlainProofs.{any_map}
use Rattle.release_rows.specs.Extents.{Extent, same_start, meets, conflict_with}
use Rattle.release_rows.specs.Places.{names_in, extent_at}
use Rattle.source_rows.specs.Keys.{row_span, key_names}
use Rattle.release_rows.specs.Keys.{row_end, has_spans, same_key, overlaps, key_rule, extent_in, is_back, last_start, falls_back, SourceFile, Row}
use Rattle.release_rows.specs.Loading.{row_rule, rule_by, load_rule}
use Rattle.release_rows.specs.declared.sort_key.SortKey.{SortKey}
use Rattle.release_rows.specs.declared.conflict.Conflict.{Conflict}
use Rattle.release_rows.specs.declared.conflict.Conflict.TheVariants.{K1, K4}

pub extent_is : (file : SourceFile) (row : Row) (place : SortKey) (last : ℕ) → names_in place ≡ key_names file row → place.code ≡ (row_span row).lo → last ≡ row_end file row → extent_at place last ≡ extent_in file row
extent_is file row place last names code end = rw (names, code, end) refl

pub same_conflicts : (kept above : List Extent) (x : Extent) → ((p : Extent → Bool) → list_any p kept ≡ list_any p above) → conflict_with kept x ≡ conflict_with above x
same_conflicts kept above x same = rw (same (same_start x), same (meets x)) refl

any_same : {A : Type 0} (p q : A → Bool) (xs : List A) → ((x : A) → p x ≡ q x) → list_any p xs ≡ list_any q xs
any_same p q [] h = refl
any_same p q (x ∷ xs) h = rw (h x, any_same p q xs h) refl

pub both_ways : (a b : ℕ) → (leb a b && leb b a) ≡ eqb a b
both_ways a b = grind (arith, nat_tests)

none_overlap : (file : SourceFile) (row : Row) (above : List Row) → has_spans file ≡ false → list_any (overlaps file row) above ≡ false
none_overlap file row [] h = refl
none_overlap file row (a ∷ above) h = rw (h, none_overlap file row above h) refl

pub meets_spans : (file : SourceFile) (row a : Row) → has_spans file ≡ true → meets (extent_in file row) (extent_in file a) ≡ overlaps file row a
meets_spans file row a h = rw h refl

pub meets_points : (file : SourceFile) (row a : Row) → has_spans file ≡ false → meets (extent_in file row) (extent_in file a) ≡ same_key file row a
meets_points file row a h = rw (h, both_ways (row_span row).lo (row_span a).lo) refl

one_rule : (b : Bool) → cond b (Some K1) (cond b (Some K4) None) ≡ cond b (Some K1) None
one_rule true = refl
one_rule false = refl

rules_by : (file : SourceFile) (row : Row) (above : List Row) (b : Bool) → has_spans file ≡ b → conflict_with (map (extent_in file) above) (extent_in file row) ≡ key_rule file above row
rules_by file row above true h =
    let keys = any_map (same_start (extent_in file row)) (extent_in file) above in
    let spans = any_map (meets (extent_in file row)) (extent_in file) above ∙ any_same (λ a. meets (extent_in file row) (extent_in file a)) (overlaps file row) above (λ a. meets_spans file row a h) in
    rw (keys, spans) refl
rules_by file row above false h =
    let keys = any_map (same_start (extent_in file row)) (extent_in file) above in
    let points = any_map (meets (extent_in file row)) (extent_in file) above ∙ any_same (λ a. meets (extent_in file row) (extent_in file a)) (same_key file row) above (λ a. meets_points file row a h) in
    rw (keys, points, none_overlap file row above h) (one_rule (list_any (same_key file row) above))

pub by_extents : (file : SourceFile) (row : Row) (above : List Row) → conflict_with (map (extent_in file) above) (extent_in file row) ≡ key_rule file above row
by_extents file row above = rules_by file row above (has_spans file) refl

pub back_is : (file : SourceFile) (row : Row) (above : List Row) (before : Option ℕ) (code : ℕ) (back : Bool) → back ≡ is_back file before code → before ≡ last_start above → code ≡ (row_span row).lo → back ≡ falls_back file above row
back_is file row above before code back h start same = h ∙ rw (start, same) refl

pub no_key_rule : (o : Option Conflict) (back : Bool) (file : SourceFile) (row : Row) (above : List Row) → key_rule file above row ≡ o → row_rule file above row ≡ None → o ≡ None
no_key_rule None back file row above h k = refl
no_key_rule (Some rule) back file row above h k = absurd (let e : Some (load_rule rule) ≡ None = rw h at k in cc)

pub no_conflict : (o : Option Conflict) (back : Bool) → rule_by o back ≡ None → o ≡ None
no_conflict None back h = refl
no_conflict (Some rule) back h = absurd (let e : Some (load_rule rule) ≡ None = h in cc)

-- what is kept of the rows above tells the rule of keys and spans
pub rule_told : (file : SourceFile) (row : Row) (above : List Row) (kept : List Extent) (place : SortKey) (last : ℕ) → ((p : Extent → Bool) → list_any p kept ≡ list_any p (map (extent_in file) above)) → names_in place ≡ key_names file row → place.code ≡ (row_span row).lo → last ≡ row_end file row → conflict_with kept (extent_at place last) ≡ key_rule file above row
rule_told file row above kept place last same names code end =
    ap (conflict_with kept) (extent_is file row place last names code end) ∙ same_conflicts kept (map (extent_in file) above) (extent_in file row) same ∙ by_extents file row above
