-- What a line says is what the grammar tells.
use Rattle.std.proofs.Common.{◌≡◌, ℕ, ◌+◌, ◌-◌, ◌<◌, ◌≤◌, Bool, true, false, cond, List, [], ◌∷◌, ◌++◌, length, take, drop, Option, Some, None, Result, Ok, Err, refl, sym, ap, ◌∙◌, arith, codes, nat_le, bytes_eq, take-append-drop}
use Rattle.std.proofs.lemmas.Bool.{and_parts}
use Rattle.std.proofs.lemmas.Bool.Decides.{nat_tests}
use Rattle.std.proofs.lemmas.Slice.Eq.{bytes_eq-Decides}
use Rattle.ucd_points.specs.Fields.{fields, is_digit}
use Rattle.ucd_points.specs.declared.files.SourceFile.TheVariants.{PropList}
use Rattle.ucd_facts.specs.Mappings.{mapping_of}
use Rattle.source_rows.specs.DataFaults.{at_least_one}
use Rattle.norm_conformance.specs.Grammar.{IsPart, Spells, HasColumns, LinesAreRead}
use Rattle.norm_conformance.specs.Lines.{columns_by, columns_in, digit_alone, is_end, is_mark, is_passed, marked, part_of, points_in, said, tested, text_of}
use Rattle.norm_conformance.specs.declared.columns.Columns.{Columns}
use Rattle.norm_conformance.specs.declared.line.Line.{Line}
use Rattle.norm_conformance.specs.declared.line.Line.TheVariants.{Passed, Part, Tested}
use Rattle.norm_conformance.specs.declared.stop.CaseRule.{CaseRule}
use Rattle.norm_conformance.specs.declared.stop.CaseRule.TheVariants.{N1}

abbrev by_parts : Bool → Bool → Option ℕ → Result Columns CaseRule → Result Line CaseRule
by_parts p m r s = cond p (Ok Passed) (cond m (marked r) (tested s))

-- ---- which of the three it is

not_passed : (m : Bool) (r : Option ℕ) (s : Result Columns CaseRule) → cond m (marked r) (tested s) ≡ Ok Passed → ⊥
not_passed true (Some k) s e = cc
not_passed true None s e = cc
not_passed false r (Ok columns) e = cc
not_passed false r (Err rule) e = cc

is_passed_only : (p m : Bool) (r : Option ℕ) (s : Result Columns CaseRule) → by_parts p m r s ≡ Ok Passed → p ≡ true
is_passed_only true m r s e = refl
is_passed_only false m r s e = absurd (not_passed m r s e)

part_only : (p m : Bool) (r : Option ℕ) (s : Result Columns CaseRule) (k : ℕ) → by_parts p m r s ≡ Ok (Part k) → (p ≡ false) × (m ≡ true) × (r ≡ Some k)
part_only true m r s k e = absurd cc
part_only false true (Some j) s k e = let same : j ≡ k = cc in (refl, refl, ap (λ (i : ℕ). Some i) same)
part_only false true None s k e = absurd cc
part_only false false r (Ok columns) k e = absurd cc
part_only false false r (Err rule) k e = absurd cc

tested_only : (p m : Bool) (r : Option ℕ) (s : Result Columns CaseRule) (columns : Columns) → by_parts p m r s ≡ Ok (Tested columns) → (p ≡ false) × (m ≡ false) × (s ≡ Ok columns)
tested_only true m r s columns e = absurd cc
tested_only false true (Some j) s columns e = absurd cc
tested_only false true None s columns e = absurd cc
tested_only false false r (Ok others) columns e = let same : others ≡ columns = cc in (refl, refl, ap (λ (x : Columns). Ok x) same)
tested_only false false r (Err rule) columns e = absurd cc

-- ---- parts

digit_is : (bs : List ℕ) (k : ℕ) → digit_alone bs ≡ Some k → (bs ≡ (48 + k) ∷ []) × (k ≤ 9)
digit_is (b ∷ []) k e = by_test (is_digit b) refl e where
  by_test : (t : Bool) → is_digit b ≡ t → cond t (Some (b - 48)) None ≡ Some k → (b ∷ [] ≡ (48 + k) ∷ []) × (k ≤ 9)
  by_test true is told =
      let both = and_parts (nat_le 48 b) (nat_le b 57) is in
      let low : nat_le 48 b ≡ true = both.0 in
      let high : nat_le b 57 ≡ true = both.1 in
      let least : 48 ≤ b = grind (arith, nat_tests) in
      let most : b ≤ 57 = grind (arith, nat_tests) in
      let same : b - 48 ≡ k = cc in
      let whole : b ≡ 48 + k = omega arith in
      (ap (λ (n : ℕ). n ∷ []) whole, omega arith)
  by_test false is told = absurd cc
digit_is _ k e = absurd cc

digit_given : (b k : ℕ) → nat_le 48 b ≡ true → nat_le b 57 ≡ true → b - 48 ≡ k → digit_alone (b ∷ []) ≡ Some k
digit_given b k least most left = rw (least, most) (ap (λ (n : ℕ). Some n) left)

is_digit_alone : (k : ℕ) → k ≤ 9 → digit_alone ((48 + k) ∷ []) ≡ Some k
is_digit_alone k le =
    let least : nat_le 48 (48 + k) ≡ true = grind (arith, nat_tests) in
    let most : nat_le (48 + k) 57 ≡ true = grind (arith, nat_tests) in
    let left : (48 + k) - 48 ≡ k = omega arith in
    digit_given (48 + k) k least most left

part_is : (text : List ℕ) (k : ℕ) → part_of text ≡ Some k → (text ≡ codes "@Part" ++ (48 + k) ∷ []) × (k ≤ 9)
part_is text k e = by_test (bytes_eq (take 5 text) (codes "@Part")) refl e where
  by_test : (t : Bool) → bytes_eq (take 5 text) (codes "@Part") ≡ t → cond t (digit_alone (drop 5 text)) None ≡ Some k → (text ≡ codes "@Part" ++ (48 + k) ∷ []) × (k ≤ 9)
  by_test true is told =
      let digit = digit_is (drop 5 text) k told in
      let front : take 5 text ≡ codes "@Part" = (bytes_eq-Decides (take 5 text) (codes "@Part")).0 is in
      (sym (take-append-drop 5 text) ∙ ap (λ (xs : List ℕ). xs ++ drop 5 text) front ∙ ap (λ (xs : List ℕ). codes "@Part" ++ xs) digit.0, digit.1)
  by_test false is told = absurd cc

is_part : (text : List ℕ) (k : ℕ) → text ≡ codes "@Part" ++ (48 + k) ∷ [] → k ≤ 9 → (is_mark text ≡ true) × (part_of text ≡ Some k)
is_part text k is le = (ap is_mark is, ap part_of is ∙ is_digit_alone k le)

-- ---- columns

spelled : (o : Option (List ℕ)) (cs : List ℕ) → at_least_one o ≡ Some cs → (o ≡ Some cs) × (0 < length cs)
spelled (Some (c ∷ ds)) cs e = let same : c ∷ ds ≡ cs = cc in (e, rw (← same) (omega arith))
spelled _ cs e = absurd cc

spells : (field cs : List ℕ) → points_in field ≡ Some cs → Spells field cs
spells field cs e = let parts = spelled (mapping_of field) cs e in record { words = parts.0; some = parts.1 }

some_or : (cs : List ℕ) → 0 < length cs → at_least_one (Some cs) ≡ Some cs
some_or [] some = absurd (omega arith)
some_or (c ∷ cs) some = refl

points_are : (field cs : List ℕ) → Spells field cs → points_in field ≡ Some cs
points_are field cs s = ap at_least_one s.words ∙ some_or cs s.some

five_are : (a b c d e : Option (List ℕ)) (columns : Columns) → columns_by a b c d e ≡ Ok columns → (a ≡ Some columns.c1) × (b ≡ Some columns.c2) × (c ≡ Some columns.c3) × (d ≡ Some columns.c4) × (e ≡ Some columns.c5)
five_are (Some c1) (Some c2) (Some c3) (Some c4) (Some c5) columns told =
    let same : record { c1 = c1; c2 = c2; c3 = c3; c4 = c4; c5 = c5 } ≡ columns = cc in
    (ap (λ (x : Columns). Some x.c1) same, ap (λ (x : Columns). Some x.c2) same, ap (λ (x : Columns). Some x.c3) same, ap (λ (x : Columns). Some x.c4) same, ap (λ (x : Columns). Some x.c5) same)
five_are (Some c1) (Some c2) (Some c3) (Some c4) None columns told = absurd cc
five_are (Some c1) (Some c2) (Some c3) None e columns told = absurd cc
five_are (Some c1) (Some c2) None d e columns told = absurd cc
five_are (Some c1) None c d e columns told = absurd cc
five_are None b c d e columns told = absurd cc

module _ (content : List ℕ) (columns : Columns) (read : is_passed content ≡ false) (unmarked : is_mark (text_of content) ≡ false) where
  columns_are : (fs : List (List ℕ)) → fields PropList content ≡ fs → columns_in fs ≡ Ok columns → HasColumns content columns
  columns_are (a ∷ b ∷ c ∷ d ∷ e ∷ more) is told = by_end (is_end more) refl told where
    by_end : (t : Bool) → is_end more ≡ t → cond t (columns_by (points_in a) (points_in b) (points_in c) (points_in d) (points_in e)) (Err N1) ≡ Ok columns → HasColumns content columns
    by_end true end five =
        let parts = five_are (points_in a) (points_in b) (points_in c) (points_in d) (points_in e) columns five in
        record {
          f1 = a;
          f2 = b;
          f3 = c;
          f4 = d;
          f5 = e;
          more = more;
          fields = record { read = read; unmarked = unmarked; fields = is };
          end = end;
          c1 = spells a columns.c1 parts.0;
          c2 = spells b columns.c2 parts.1;
          c3 = spells c columns.c3 parts.2;
          c4 = spells d columns.c4 parts.3;
          c5 = spells e columns.c5 parts.4;
        }
    by_end false end five = absurd cc
  columns_are _ is told = absurd cc

has_columns : (content : List ℕ) (columns : Columns) → HasColumns content columns → columns_in (fields PropList content) ≡ Ok columns
has_columns content columns h =
    rw (h.fields.fields, h.end, points_are h.f1 columns.c1 h.c1, points_are h.f2 columns.c2 h.c2, points_are h.f3 columns.c3 h.c3, points_are h.f4 columns.c4 h.c4, points_are h.f5 columns.c5 h.c5) refl

-- ---- the law

module _ (content : List ℕ) where
  from_part : (k : ℕ) → said content ≡ Ok (Part k) → IsPart content k
  from_part k e =
      let only = part_only (is_passed content) (is_mark (text_of content)) (part_of (text_of content)) (columns_in (fields PropList content)) k e in
      let is = part_is (text_of content) k only.2 in
      record { read = only.0; text = is.0; digit = is.1 }

  to_part : (k : ℕ) → IsPart content k → said content ≡ Ok (Part k)
  to_part k p = let is = is_part (text_of content) k p.text p.digit in rw (p.read, is.0, is.1) refl

  from_columns : (columns : Columns) → said content ≡ Ok (Tested columns) → HasColumns content columns
  from_columns columns e =
      let only = tested_only (is_passed content) (is_mark (text_of content)) (part_of (text_of content)) (columns_in (fields PropList content)) columns e in
      columns_are content columns only.0 only.1 (fields PropList content) refl only.2

  to_columns : (columns : Columns) → HasColumns content columns → said content ≡ Ok (Tested columns)
  to_columns columns h = rw (h.fields.read, h.fields.unmarked, has_columns content columns h) refl

pub lines_are_said : LinesAreRead
lines_are_said content = record {
  passed = (is_passed_only (is_passed content) (is_mark (text_of content)) (part_of (text_of content)) (columns_in (fields PropList content)), (λ e. rw e refl));
  part = λ k. (from_part content k, to_part content k);
  columns = λ columns. (from_columns content columns, to_columns content columns);
}
