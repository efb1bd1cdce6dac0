-- Proofs that the facts of a code point are those of the rows that speak of it.
--
-- facts_are_local, facts_stay, others_give_none   the laws of the same names
use Rattle.std.proofs.Common.{◌≡◌, ℕ, Bool, true, false, cond, ◌&&◌, ◌==◌, List, [], ◌∷◌, Option, Some, find, filter, fold, is_some, refl, sym, ap, subst, ◌∙◌, nat_lt, nat_le, arith}
use mathlib.Core.Path.{fun_ext}
use Rattle.std.specs.List.{list_any}
use Rattle.std.specs.Str.{bytes_eq}
use Rattle.std.proofs.lemmas.Bool.{true≢false, and_parts, or_left, or_parts, eqb-true}
use Rattle.std.proofs.lemmas.Bool.Decides.{nat_tests}
use Rattle.std.proofs.lemmas.Map.Views.{any-filter_same}
use Rattle.ucd_points.specs.Limits.{point_count}
use Rattle.ucd_facts.specs.Names.{flag_name}
use Rattle.ucd_facts.specs.Facts.{Sources, Facts, facts, given, unassigned, within, is_data_of, data_in, data_row, is_casing_of, casing_in, casing_row, is_folding_of, folding_in, folding, gives_value, excludes, excluded_at, full_folding, simple_folding, category_in, class_in, kind_in, mapping_in, upper_in, lower_in, title_in, full_upper, full_lower, full_title, image}
use Rattle.ucd_facts.specs.Values.{default_word_break, gives_some, is_mid_word, mid_word_at, missing_value, taken_missing, value_in}
use Rattle.ucd_points.specs.declared.files.SourceFile.{SourceFile}
use Rattle.ucd_points.specs.declared.files.SourceFile.TheVariants.{UnicodeData, PropList, WordBreakProperty, CompositionExclusions, CaseFolding, SpecialCasing}
use Rattle.ucd_facts.specs.declared.property.Flag.{Flag}
use Rattle.ucd_facts.specs.declared.row.CasingRow.{CasingRow}
use Rattle.ucd_facts.specs.declared.row.DataRow.{DataRow}
use Rattle.ucd_facts.specs.declared.row.FoldStatus.{FoldStatus}
use Rattle.ucd_facts.specs.declared.row.FoldStatus.TheVariants as status
use Rattle.ucd_facts.specs.declared.row.Row.{Row}
use Rattle.ucd_facts.specs.declared.row.Row.TheVariants.{Unit as DataLine, Value as ValueLine, Exclusion as ExclusionLine, Fold as FoldLine, Casing as CasingLine, Alias as AliasLine, Missing as MissingLine}
use Rattle.release_rows.specs.OperationLaws.{speaks_of}
use Rattle.code_facts.specs.Locality.{rows_within, gives_facts, FactsAreLocal, FactsStay, OthersGiveNone}

-- ---- what passes p among what passes t

find_step : {X : Type 0} (p : X → Bool) (x : X) (xs ys : List X) (t : Bool) → (p x ≡ true → t ≡ true) → find p xs ≡ find p ys → find p (x ∷ xs) ≡ find p (cond t (x ∷ ys) ys)
find_step p x xs ys true passes same = ap (cond (p x) (Some x)) same
find_step p x xs ys false passes same = by_test (p x) (λ is. true≢false (sym (passes is))) where
  by_test : (b : Bool) → (b ≡ true → ⊥) → cond b (Some x) (find p xs) ≡ find p ys
  by_test true never = absurd (never refl)
  by_test false never = same

find_within : {X : Type 0} (p t : X → Bool) → ((x : X) → p x ≡ true → t x ≡ true) → (xs : List X) → find p xs ≡ find p (filter t xs)
find_within p t passes [] = refl
find_within p t passes (x ∷ xs) = find_step p x xs (filter t xs) (t x) (passes x) (find_within p t passes xs)

fold_step : {A X : Type 0} (f : A → X → A) (a : A) (x : X) (xs ys : List X) (t : Bool) → (t ≡ false → f a x ≡ a) → ((b : A) → fold f b xs ≡ fold f b ys) → fold f a (x ∷ xs) ≡ fold f a (cond t (x ∷ ys) ys)
fold_step f a x xs ys true stays same = same (f a x)
fold_step f a x xs ys false stays same = ap (λ b. fold f b xs) (stays refl) ∙ same a

fold_within : {A X : Type 0} (f : A → X → A) (t : X → Bool) → ((a : A) (x : X) → t x ≡ false → f a x ≡ a) → (xs : List X) (a : A) → fold f a xs ≡ fold f a (filter t xs)
fold_within f t stays [] a = refl
fold_within f t stays (x ∷ xs) a = fold_step f a x xs (filter t xs) (t x) (stays a x) (fold_within f t stays xs)

any_within : {X : Type 0} (p t : X → Bool) → ((x : X) → p x ≡ true → t x ≡ true) → (xs : List X) → list_any p xs ≡ list_any p (filter t xs)
any_within p t passes xs = sym (any-filter_same p t true passes xs)

-- ---- each row that gives a fact speaks of the code point

le_self : (c : ℕ) → (nat_le c c && nat_le c c) ≡ true
le_self c = grind (arith, nat_tests)

within_one : (c code : ℕ) → (code == c) ≡ true → within c (record { lo = code; hi = code }) ≡ true
within_one c code is = subst (λ (n : ℕ). (nat_le n c && nat_le c n) ≡ true) (sym (eqb-true code c is)) (le_self c)

data_speaks : (c : ℕ) (row : Row) → is_data_of c row ≡ true → speaks_of c row ≡ true
data_speaks c (DataLine row) is = or_left (within c row.span) false is
data_speaks c (ValueLine row) is = absurd (true≢false (sym is))
data_speaks c (ExclusionLine row) is = absurd (true≢false (sym is))
data_speaks c (FoldLine row) is = absurd (true≢false (sym is))
data_speaks c (CasingLine row) is = absurd (true≢false (sym is))
data_speaks c (AliasLine row) is = absurd (true≢false (sym is))
data_speaks c (MissingLine row) is = absurd (true≢false (sym is))

casing_speaks : (c : ℕ) (row : Row) → is_casing_of c row ≡ true → speaks_of c row ≡ true
casing_speaks c (CasingLine row) is = or_left (within c (record { lo = row.code; hi = row.code })) false (within_one c row.code (and_parts (row.code == c) (bytes_eq row.conditions []) is).0)
casing_speaks c (DataLine row) is = absurd (true≢false (sym is))
casing_speaks c (ValueLine row) is = absurd (true≢false (sym is))
casing_speaks c (ExclusionLine row) is = absurd (true≢false (sym is))
casing_speaks c (FoldLine row) is = absurd (true≢false (sym is))
casing_speaks c (AliasLine row) is = absurd (true≢false (sym is))
casing_speaks c (MissingLine row) is = absurd (true≢false (sym is))

folding_speaks : (s : FoldStatus) (c : ℕ) (row : Row) → is_folding_of s c row ≡ true → speaks_of c row ≡ true
folding_speaks s c (FoldLine row) is = or_left (within c (record { lo = row.code; hi = row.code })) false (within_one c row.code (and_parts (row.code == c) _ is).0)
folding_speaks s c (DataLine row) is = absurd (true≢false (sym is))
folding_speaks s c (ValueLine row) is = absurd (true≢false (sym is))
folding_speaks s c (ExclusionLine row) is = absurd (true≢false (sym is))
folding_speaks s c (CasingLine row) is = absurd (true≢false (sym is))
folding_speaks s c (AliasLine row) is = absurd (true≢false (sym is))
folding_speaks s c (MissingLine row) is = absurd (true≢false (sym is))

value_speaks : (value : List ℕ) (c : ℕ) (row : Row) → gives_value value c row ≡ true → speaks_of c row ≡ true
value_speaks value c (ValueLine row) is = or_left (within c row.span) false (and_parts (bytes_eq row.value value) (within c row.span) is).1
value_speaks value c (DataLine row) is = absurd (true≢false (sym is))
value_speaks value c (ExclusionLine row) is = absurd (true≢false (sym is))
value_speaks value c (FoldLine row) is = absurd (true≢false (sym is))
value_speaks value c (CasingLine row) is = absurd (true≢false (sym is))
value_speaks value c (AliasLine row) is = absurd (true≢false (sym is))
value_speaks value c (MissingLine row) is = absurd (true≢false (sym is))

some_speaks : (c : ℕ) (row : Row) → gives_some c row ≡ true → speaks_of c row ≡ true
some_speaks c (ValueLine row) is = or_left (within c row.span) false is
some_speaks c (DataLine row) is = absurd (true≢false (sym is))
some_speaks c (ExclusionLine row) is = absurd (true≢false (sym is))
some_speaks c (FoldLine row) is = absurd (true≢false (sym is))
some_speaks c (CasingLine row) is = absurd (true≢false (sym is))
some_speaks c (AliasLine row) is = absurd (true≢false (sym is))
some_speaks c (MissingLine row) is = absurd (true≢false (sym is))

-- a missing row that does not speak of the code point gives it no value
silent_missing : (c : ℕ) (default : List ℕ) (row : Row) → speaks_of c row ≡ false → taken_missing c default row ≡ default
silent_missing c default (MissingLine row) silent = ap (λ b. cond b row.value default) (or_parts (within c row.span) false silent).0
silent_missing c default (DataLine row) silent = refl
silent_missing c default (ValueLine row) silent = refl
silent_missing c default (ExclusionLine row) silent = refl
silent_missing c default (FoldLine row) silent = refl
silent_missing c default (CasingLine row) silent = refl
silent_missing c default (AliasLine row) silent = refl

excludes_speaks : (c : ℕ) (row : Row) → excludes c row ≡ true → speaks_of c row ≡ true
excludes_speaks c (ExclusionLine row) is = or_left (within c row.span) false is
excludes_speaks c (DataLine row) is = absurd (true≢false (sym is))
excludes_speaks c (ValueLine row) is = absurd (true≢false (sym is))
excludes_speaks c (FoldLine row) is = absurd (true≢false (sym is))
excludes_speaks c (CasingLine row) is = absurd (true≢false (sym is))
excludes_speaks c (AliasLine row) is = absurd (true≢false (sym is))
excludes_speaks c (MissingLine row) is = absurd (true≢false (sym is))

-- ---- all facts

abbrev made : ℕ → Option DataRow → Option CasingRow → ℕ → List ℕ → (Flag → Bool) → Bool → Bool → Facts
made c row casing simple full flag mid excluded = record {
  assigned = is_some row;
  category = category_in row;
  class = class_in row;
  kind = kind_in c row;
  mapping = mapping_in c row;
  simple_upper = upper_in c row;
  simple_lower = lower_in c row;
  simple_title = title_in c row;
  simple_fold = simple;
  upper = full_upper c (upper_in c row) casing;
  lower = full_lower c (lower_in c row) casing;
  title = full_title c (title_in c row) casing;
  fold = image c full;
  flag = flag;
  mid_word = mid;
  excluded = excluded;
}

module _ (t : Row → Bool) (rows : Sources) (c : ℕ) (passes : (row : Row) → speaks_of c row ≡ true → t row ≡ true) where
  same_data : data_row (rows UnicodeData) c ≡ data_row (rows_within t rows UnicodeData) c
  same_data = ap data_in (find_within (is_data_of c) t (λ row is. passes row (data_speaks c row is)) (rows UnicodeData))

  same_casing : casing_row (rows SpecialCasing) c ≡ casing_row (rows_within t rows SpecialCasing) c
  same_casing = ap casing_in (find_within (is_casing_of c) t (λ row is. passes row (casing_speaks c row is)) (rows SpecialCasing))

  same_folding : (s : FoldStatus) → folding (rows CaseFolding) s c ≡ folding (rows_within t rows CaseFolding) s c
  same_folding s = ap folding_in (find_within (is_folding_of s c) t (λ row is. passes row (folding_speaks s c row is)) (rows CaseFolding))

  same_simple : simple_folding (rows CaseFolding) c ≡ simple_folding (rows_within t rows CaseFolding) c
  same_simple = rw (same_folding status.S, same_folding status.C) refl

  same_full : full_folding (rows CaseFolding) c ≡ full_folding (rows_within t rows CaseFolding) c
  same_full = rw (same_folding status.F, same_folding status.C) refl

  same_value : (file : SourceFile) (value : List ℕ) → list_any (gives_value value c) (rows file) ≡ list_any (gives_value value c) (rows_within t rows file)
  same_value file value = any_within (gives_value value c) t (λ row is. passes row (value_speaks value c row is)) (rows file)

  same_missing : missing_value (rows WordBreakProperty) default_word_break c ≡ missing_value (rows_within t rows WordBreakProperty) default_word_break c
  same_missing = fold_within (taken_missing c) t (λ default row out. silent_missing c default row (silent (speaks_of c row) (t row) (passes row) out)) (rows WordBreakProperty) default_word_break
    where
      silent : (speaks out : Bool) → (speaks ≡ true → out ≡ true) → out ≡ false → speaks ≡ false
      silent true out passes is = absurd (true≢false (sym (passes refl) ∙ is))
      silent false out passes is = refl

  same_mid_word : mid_word_at (rows WordBreakProperty) c ≡ mid_word_at (rows_within t rows WordBreakProperty) c
  same_mid_word = λ i. is_mid_word (value_in (same_missing i) (find_within (gives_some c) t (λ row is. passes row (some_speaks c row is)) (rows WordBreakProperty) i))

  same_excluded : excluded_at (rows CompositionExclusions) c ≡ excluded_at (rows_within t rows CompositionExclusions) c
  same_excluded = any_within (excludes c) t (λ row is. passes row (excludes_speaks c row is)) (rows CompositionExclusions)

  same_given : given rows c ≡ given (rows_within t rows) c
  same_given = λ i. made c (same_data i) (same_casing i) (same_simple i) (same_full i) (λ flag. same_value PropList (flag_name flag) i) (same_mid_word i) (same_excluded i)

  same_facts : facts rows c ≡ facts (rows_within t rows) c
  unfolding facts
  same_facts = ap (λ (F : Facts). cond (nat_lt c point_count) F (unassigned c)) same_given

pub facts_are_local : FactsAreLocal
facts_are_local t rows c passes = same_facts t rows c passes

pub facts_stay : FactsStay
facts_stay rows next c same =
    facts_are_local (speaks_of c) next c (λ row is. is)
    ∙ ap (λ (sources : Sources). facts sources c) (fun_ext same)
    ∙ sym (facts_are_local (speaks_of c) rows c (λ row is. is))

-- ---- files that give none

given_same : (rows next : Sources) (c : ℕ) → ((file : SourceFile) → gives_facts file ≡ true → next file ≡ rows file) → given next c ≡ given rows c
given_same rows next c same = λ i. made c (data_row (same UnicodeData refl i) c) (casing_row (same SpecialCasing refl i) c) (simple_folding (same CaseFolding refl i) c) (full_folding (same CaseFolding refl i) c)
    (λ flag. list_any (gives_value (flag_name flag) c) (same PropList refl i)) (mid_word_at (same WordBreakProperty refl i) c) (excluded_at (same CompositionExclusions refl i) c)

pub others_give_none : OthersGiveNone
unfolding facts
others_give_none rows next same = fun_ext (λ c. ap (λ (F : Facts). cond (nat_lt c point_count) F (unassigned c)) (given_same rows next c same))
