-- The names of code points, row after row.
use Rattle.std.proofs.Common.{◌≡◌, ℕ, ◌+◌, ◌<◌, ◌≤◌, Bool, true, false, cond, ◌&&◌, leb, if◌then◌else◌, List, [], ◌∷◌, ◌++◌, ◌-◌, map, filter, find, Some, None, refl, sym, ap, subst, ◌∙◌, arith, inl, inr}
use Rattle.std.specs.List.{range_with_len}
use Rattle.std.proofs.lemmas.Bool.{cases_lt, le-leb, lt-leb}
use Rattle.std.proofs.lemmas.Bool.Decides.{nat_tests}
use mathlib.Core.Path.{fun_ext}
use Rattle.release_rows.specs.Releases.{ReleaseItems, rows_now}
use Rattle.ucd_points.specs.Limits.{point_count}
use Rattle.ucd_points.specs.declared.files.SourceFile.TheVariants.{UnicodeData}
use Rattle.ucd_facts.specs.Facts.{data_in, data_row, is_data_of, within}
use Rattle.ucd_facts.specs.declared.row.Row.{Row}
use Rattle.ucd_facts.specs.declared.row.Row.TheVariants.{Unit as DataLine, Value as ValueLine, Exclusion as ExclusionLine, Fold as FoldLine, Casing as CasingLine, Alias as AliasLine, Missing as MissingLine}
use Rattle.stability_policies.specs.NamedRows.{AreAbove, BeginsAt, IsRest, end_at, left_behind, name_at, name_here, named}
use Rattle.stability_policies.specs.Policies.{differ, is_renamed, name_of}
use Rattle.stability_policies.specs.Reports.{breaks_of}
use Rattle.stability_policies.specs.declared.breaks.Break.TheVariants.{At}
use Rattle.stability_policies.specs.declared.policy.Policy.TheVariants.{P02}
use Rattle.stability_policies.proofs.PointLemmas.{more_breaks}
use Rattle.stability_policies.specs.declared.named_row.NamedRow.{NamedRow}

-- ---- the name that the rows give

name_by : (rows : List Row) (c : ℕ) (row : NamedRow) (found : Row) (b : Bool) → name_of (data_in (Some found)) ≡ Some row.name → name_at (named rows) c ≡ name_of (data_row rows c)
    → cond b (Some row.name) (name_at (named rows) c) ≡ name_of (data_in (cond b (Some found) (find (is_data_of c) rows)))
name_by rows c row found true e rest = sym e
name_by rows c row found false e rest = rest

pub name_is : (rows : List Row) (c : ℕ) → name_at (named rows) c ≡ name_of (data_row rows c)
name_is [] c = refl
name_is (DataLine row ∷ rows) c = name_by rows c (record { span = row.span; name = row.name }) (DataLine row) (within c row.span) refl (name_is rows c)
name_is (ValueLine row ∷ rows) c = name_is rows c
name_is (ExclusionLine row ∷ rows) c = name_is rows c
name_is (FoldLine row ∷ rows) c = name_is rows c
name_is (CasingLine row ∷ rows) c = name_is rows c
name_is (AliasLine row ∷ rows) c = name_is rows c
name_is (MissingLine row ∷ rows) c = name_is rows c

-- ---- rows that follow one another

outside_below : (c a b : ℕ) → c < a → (leb a c && leb c b) ≡ false
outside_below c a b lt = grind (arith, nat_tests)

pub outside_above : (c a b : ℕ) → b < c → (leb a c && leb c b) ≡ false
outside_above c a b lt = grind (arith, nat_tests)

inside : (c a b : ℕ) → a ≤ c → c ≤ b → (leb a c && leb c b) ≡ true
inside c a b from to = grind (arith, nat_tests)

pub none_below : (n c : ℕ) (rows : List NamedRow) → AreAbove n rows → c < n → name_at rows c ≡ None
none_below n c [] above lt = refl
none_below n c (row ∷ rows) above lt =
    let from : n ≤ row.span.lo = above.0 in
    let ordered : row.span.lo ≤ row.span.hi = above.1 in
    let here : within c row.span ≡ false = outside_below c row.span.lo row.span.hi (omega arith) in
    ap (λ b. if b then Some row.name else name_at rows c) here ∙ none_below (row.span.hi + 1) c rows above.2 (omega arith)

-- the code points from n to before the end have the name of n
pub name_same : (n c : ℕ) (rows : List NamedRow) → BeginsAt n rows → n ≤ c → c < end_at n rows → name_at rows c ≡ name_here n rows
name_same n c [] begins from lt = refl
name_same n c (row ∷ rows) begins from lt = elim (cases_lt n row.span.lo) [
  | inr le ↦
      let test : leb row.span.lo n ≡ true = le-leb row.span.lo n le in
      let end : end_at n (row ∷ rows) ≡ row.span.hi + 1 = ap (λ b. if b then row.span.hi + 1 else row.span.lo) test in
      let cover : within c row.span ≡ true = inside c row.span.lo row.span.hi (omega arith) (omega (arith, lt, end)) in
      ap (λ b. if b then Some row.name else name_at rows c) cover ∙ sym (ap (λ b. if b then Some row.name else None) test)
  | inl past ↦
      let test : leb row.span.lo n ≡ false = lt-leb row.span.lo n past in
      let end : end_at n (row ∷ rows) ≡ row.span.lo = ap (λ b. if b then row.span.hi + 1 else row.span.lo) test in
      let before : c < row.span.lo = omega (arith, lt, end) in
      let ordered : row.span.lo ≤ row.span.hi = begins.1 in
      let here : within c row.span ≡ false = outside_below c row.span.lo row.span.hi before in
      ap (λ b. if b then Some row.name else name_at rows c) here ∙ none_below (row.span.hi + 1) c rows begins.2 (omega arith)
      ∙ sym (ap (λ b. if b then Some row.name else None) test)
]

begins_above : (n : ℕ) (rows : List NamedRow) → AreAbove n rows → BeginsAt n rows
begins_above n [] above = tt
begins_above n (row ∷ rows) above = let from : n ≤ row.span.lo = above.0 in let ordered : row.span.lo ≤ row.span.hi = above.1 in (omega arith, ordered, above.2)

pub whole_rest : (rows : List NamedRow) → AreAbove 0 rows → IsRest rows 0 rows
whole_rest rows above = record { begins = begins_above 0 rows above; same = λ c from. refl }

end_within : (row : NamedRow) (rows : List NamedRow) (n e : ℕ) → e ≤ end_at n (row ∷ rows) → row.span.lo ≤ row.span.hi → e ≤ row.span.hi + 1
end_within row rows n e to ordered = elim (cases_lt n row.span.lo) [
  | inr le ↦ let end : end_at n (row ∷ rows) ≡ row.span.hi + 1 = ap (λ b. if b then row.span.hi + 1 else row.span.lo) (le-leb row.span.lo n le) in omega (arith, to, end)
  | inl past ↦ let end : end_at n (row ∷ rows) ≡ row.span.lo = ap (λ b. if b then row.span.hi + 1 else row.span.lo) (lt-leb row.span.lo n past) in omega (arith, to, end)
]

-- what is left behind e, which is at most one past the end of the first row
pub rest_behind : (whole rest : List NamedRow) (n e : ℕ) → n ≤ e → e ≤ end_at n rest → IsRest whole n rest → IsRest whole e (left_behind e rest)
rest_behind whole [] n e from to left = record { begins = tt; same = λ c le. left.same c (omega arith) }
rest_behind whole (row ∷ rows) n e from to left = elim (cases_lt row.span.hi e) [
  | inr le ↦
      let same : left_behind e (row ∷ rows) ≡ row ∷ rows = ap (λ b. if b then row ∷ rows else rows) (le-leb e row.span.hi le) in
      subst (IsRest whole e) (sym same) (record { begins = (le, left.begins.1, left.begins.2); same = λ c k. left.same c (omega arith) })
  | inl past ↦
      let same : left_behind e (row ∷ rows) ≡ rows = ap (λ b. if b then row ∷ rows else rows) (lt-leb e row.span.hi past) in
      let ordered : row.span.lo ≤ row.span.hi = left.begins.1 in
      let here : n ≤ row.span.hi = left.begins.0 in
      let end : e ≤ row.span.hi + 1 = end_within row rows n e to ordered in
      let is : e ≡ row.span.hi + 1 = omega arith in
      subst (IsRest whole e) (sym same) (record {
        begins = subst (λ k. BeginsAt k rows) (sym is) (begins_above (row.span.hi + 1) rows left.begins.2);
        same = λ c k. left.same c (omega arith) ∙ ap (λ b. if b then Some row.name else name_at rows c) (outside_above c row.span.lo row.span.hi (omega arith));
      })
]

-- ---- the breaks

abbrev changed : List NamedRow → List NamedRow → ℕ → Bool
changed before after c = differ (name_at before c) (name_at after c)

pub names_more : {B : Type 0} (f : ℕ → B) (init xs ys : List B) (before after olds news : List NamedRow) (n e : ℕ) → n ≤ e → e ≤ end_at n olds → e ≤ end_at n news → IsRest before n olds → IsRest after n news
    → xs ≡ init ++ map f (filter (changed before after) (range_with_len 0 n)) → ys ≡ xs ++ map f (cond (differ (name_here n olds) (name_here n news)) (range_with_len n (e - n)) [])
    → ys ≡ init ++ map f (filter (changed before after) (range_with_len 0 e))
names_more f init xs ys before after olds news n e le old_end new_end old new so_far more =
    more_breaks (changed before after) f init xs ys n e (differ (name_here n olds) (name_here n news)) le
    (λ c from lt.
    ap (λ name. differ name (name_at after c)) (old.same c from ∙ name_same n c olds old.begins from (omega arith))
    ∙ ap (differ (name_here n olds)) (new.same c from ∙ name_same n c news new.begins from (omega arith)))
    so_far more

pub names_all : {B : Type 0} (f : ℕ → B) (init xs : List B) (before after : List NamedRow) (n : ℕ) → n ≡ 1114112 → xs ≡ init ++ map f (filter (changed before after) (range_with_len 0 n))
    → xs ≡ init ++ map f (filter (changed before after) (range_with_len 0 point_count))
unfolding point_count
names_all f init xs before after n all so_far = so_far ∙ ap (λ k. init ++ map f (filter (changed before after) (range_with_len 0 k))) all

pub names_break : (old new : ReleaseItems) (before after : List Row) → before ≡ rows_now old UnicodeData → after ≡ rows_now new UnicodeData
    → map (At P02) (filter (changed (named before) (named after)) (range_with_len 0 point_count)) ≡ breaks_of P02 old new
names_break old new before after olds news =
    ap (λ (g : ℕ → Bool). map (At P02) (filter g (range_with_len 0 point_count)))
    (fun_ext (λ c. ap (λ name. differ name (name_at (named after) c)) (name_is before c) ∙ ap (differ (name_of (data_row before c))) (name_is after c)))
    ∙ ap (λ (rows : List Row). map (At P02) (filter (λ c. is_renamed (data_row rows c) (data_row after c)) (range_with_len 0 point_count))) olds
    ∙ ap (λ (rows : List Row). map (At P02) (filter (λ c. is_renamed (data_row (rows_now old UnicodeData) c) (data_row rows c)) (range_with_len 0 point_count))) news
