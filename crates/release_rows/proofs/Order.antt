-- The rows of UnicodeData.txt ascend.
use Rattle.std.proofs.Common.{◌≡◌, ℕ, ◌+◌, ◌-◌, ◌<◌, ◌≤◌, Bool, true, false, cond, not, eqb, leb, List, [], ◌∷◌, ◌++◌, length, map, filter, reverse, get_or, take, drop, Option, Some, None, refl, sym, ap, subst, ◌∙◌, arith, one-add, Ordering, Less, Greater}
use Rattle.std.specs.Cmp.{nat_cmp_is}
use Rattle.std.specs.List.{All, list_any, position_or_len, suffix_len}
use Rattle.std.specs.Ordering.{nat_cmp, is_lt, ordering_then}
use Rattle.std.proofs.lemmas.Bool.{and_parts, or_parts, eqb-true, leb-true, leb-false}
use Rattle.std.proofs.lemmas.List.{drop_all, get_or-drop, get_or-reverse, length-drop, length-reverse, take-append-drop}
use Rattle.std.proofs.lemmas.List.Folds.{list_any-append}
use Rattle.std.proofs.lemmas.List.Sums.{prefix_len_passes, suffix_len-le-length}
use Rattle.std.proofs.lemmas.List.Elements.{All-nil, All-cons, All-head, All-tail, All-weaker}
use Rattle.ucd_points.specs.declared.files.SourceFile.TheVariants.{UnicodeData, PropList, Scripts, WordBreakProperty, CompositionExclusions, CaseFolding, SpecialCasing, PropertyAliases, PropertyValueAliases}
use Rattle.source_rows.specs.Keys.{row_span, key_names}
use Rattle.source_rows.specs.KeyNames.{names_cmp}
use Rattle.release_rows.specs.Cuts.{begins_from, Rises, Ascends}
use Rattle.release_rows.specs.FileItems.{FileItem, rows_in, onto_rows, SourceFile, Row}
use Rattle.release_rows.specs.Keys.{overlaps, same_key}
use Rattle.release_rows.specs.OperationLaws.{OperationsKeepOrder}
use Rattle.release_rows.specs.Operations.{added_item, changed_item, edited, ended, follows, has_key, holds_row, overlaps_another, place_in, put_in, row_passes, same_group}
use Rattle.release_rows.specs.declared.key_rule.KeyRule.TheVariants.{K1, K2, K4}
use Rattle.release_rows.specs.declared.operation.Op.TheVariants.{Add, Change, Withdraw}
use Rattle.release_rows.proofs.Operations.{failed, items_are, passed, rows-append, rows-ended, rows_changed, rows_filter}
use Rattle.release_rows.proofs.RowsApart.{row_instead}
use Rattle.release_rows.proofs.Seeking.{code_is}

-- ---- one row less, another one in its place, and one more

pub with_one : (P : Row → Type 0) (xs : List Row) (y : Row) (ys : List Row) → All P (xs ++ ys) → P y → All P (xs ++ y ∷ ys)
with_one P [] y ys all one = All-cons P y ys one all
with_one P (x ∷ xs) y ys all one = All-cons P x (xs ++ y ∷ ys) (All-head P x (xs ++ ys) all) (with_one P xs y ys (All-tail P x (xs ++ ys) all) one)

all_filter : (P : Row → Type 0) (p : Row → Bool) (rows : List Row) → All P rows → All P (filter p rows)
all_filter P p [] h = All-nil P
all_filter P p (r ∷ rows) h = by (p r) (All-head P r rows h) (all_filter P p rows (All-tail P r rows h))
  where
    by : (b : Bool) → P r → All P (filter p rows) → All P (cond b (r ∷ filter p rows) (filter p rows))
    by true one k = All-cons P r (filter p rows) one k
    by false one k = k

pub rises_filter : (p : Row → Bool) (rows : List Row) → Rises rows → Rises (filter p rows)
rises_filter p [] h = tt
rises_filter p (r ∷ rows) h = by (p r) (all_filter (begins_from (row_span r).lo) p rows h.0) (rises_filter p rows h.1)
  where
    by : (b : Bool) → All (begins_from (row_span r).lo) (filter p rows) → Rises (filter p rows) → Rises (cond b (r ∷ filter p rows) (filter p rows))
    by true one k = (one, k)
    by false one k = k

abbrev pub start : Row → ℕ
start row = (row_span row).lo

all_moved : (f : Row → Row) (c : ℕ) (rows : List Row) → ((r : Row) → start (f r) ≡ start r) → All (begins_from c) rows → All (begins_from c) (map f rows)
all_moved f c [] same h = All-nil (begins_from c)
all_moved f c (r ∷ rows) same h = All-cons (begins_from c) (f r) (map f rows) (rw (same r) (All-head (begins_from c) r rows h)) (all_moved f c rows same (All-tail (begins_from c) r rows h))

rises_map : (f : Row → Row) (rows : List Row) → ((r : Row) → start (f r) ≡ start r) → Rises rows → Rises (map f rows)
rises_map f [] same h = tt
rises_map f (r ∷ rows) same h = (rw (same r) (all_moved f (start r) rows same h.0), rises_map f rows same h.1)

instead_starts : (file : SourceFile) (row r : Row) → start (row_instead file row r) ≡ start r
instead_starts file row r = by (same_key file row r) refl
  where
    by : (b : Bool) → same_key file row r ≡ b → start (cond b row r) ≡ start r
    by true e = eqb-true (start row) (start r) (and_parts _ (eqb (start row) (start r)) e).1
    by false e = refl

pub rises_instead : (file : SourceFile) (row : Row) (rows : List Row) → Rises rows → Rises (map (row_instead file row) rows)
rises_instead file row rows h = rises_map (row_instead file row) rows (instead_starts file row) h

abbrev begins_to : ℕ → Row → Type 0
begins_to c row = (row_span row).lo ≤ c

rises_between : (xs : List Row) (row : Row) (ys : List Row) → Rises (xs ++ ys) → All (begins_to (start row)) xs → All (begins_from (start row)) ys → Rises (xs ++ row ∷ ys)
rises_between [] row ys h low high = (high, h)
rises_between (x ∷ xs) row ys h low high = (with_one (begins_from (start x)) xs row ys h.0 (All-head (begins_to (start row)) x xs low), rises_between xs row ys h.1 (All-tail (begins_to (start row)) x xs low) high)

-- ---- what follows a row of UnicodeData.txt

less_by : (a b : ℕ) (names : Ordering) → a < b → is_lt (ordering_then (nat_cmp a b) names) ≡ true
less_by a b names h = rw (← nat_cmp_is a b Less h) refl

greater_by : (a b : ℕ) (names : Ordering) → b < a → is_lt (ordering_then (nat_cmp a b) names) ≡ false
greater_by a b names h = rw (← nat_cmp_is a b Greater h) refl

follows_is : (row r : Row) → follows UnicodeData row r ≡ is_lt (ordering_then (nat_cmp (start row) (start r)) (names_cmp (key_names UnicodeData row) (key_names UnicodeData r)))
follows_is row r = rw (code_is row, code_is r) refl

not_less : (a b : ℕ) → (a < b → ⊥) → b ≤ a
not_less a b f = by (leb b a) refl
  where
    by : (t : Bool) → leb b a ≡ t → b ≤ a
    by true e = leb-true b a e
    by false e = absurd (f (leb-false b a e))

follows_from : (row r : Row) → follows UnicodeData row r ≡ true → begins_from (start row) r
follows_from row r h = not_less (start r) (start row) (λ less. let e : true ≡ false = (sym h ∙ follows_is row r ∙ greater_by (start row) (start r) _ less) in cc)

follows_to : (row r : Row) → follows UnicodeData row r ≡ false → begins_to (start row) r
follows_to row r h = not_less (start row) (start r) (λ less. let e : false ≡ true = (sym h ∙ follows_is row r ∙ less_by (start row) (start r) _ less) in cc)

-- ---- the place of an added row

rows_onto : (P : Row → Type 0) (o : Option Row) (rows : List Row) → ((r : Row) → o ≡ Some r → P r) → All P rows → All P (onto_rows o rows)
rows_onto P None rows one h = h
rows_onto P (Some r) rows one h = All-cons P r rows (one r refl) h

-- a test that no row passes
none_pass : (p : Row → Bool) (P : Row → Type 0) (items : List FileItem) → ((r : Row) → p r ≡ false → P r) → holds_row p items ≡ false → All P (rows_in items)
none_pass p P [] f h = All-nil P
none_pass p P (item ∷ items) f h =
    let k = or_parts (row_passes p item) (holds_row p items) h in
    rows_onto P item.row (rows_in items) (λ r e. f r (rw e at k.0)) (none_pass p P items f k.1)

-- before the first row that passes none does
before_first_passing : (p : Row → Bool) (P : Row → Type 0) (items : List FileItem) → ((r : Row) → p r ≡ false → P r) → All P (rows_in (take (position_or_len (row_passes p) items) items))
before_first_passing p P [] f = All-nil P
before_first_passing p P (item ∷ items) f = by (row_passes p item) refl (before_first_passing p P items f)
  where
    by : (b : Bool) → row_passes p item ≡ b → All P (rows_in (take (position_or_len (row_passes p) items) items)) → All P (rows_in (take (position_or_len (row_passes p) (item ∷ items)) (item ∷ items)))
    by true e h = rw e (All-nil P)
    by false e h = rw (e, one-add) (rows_onto P item.row (rows_in (take (position_or_len (row_passes p) items) items)) (λ r k. f r (let here : p r ≡ false = (rw k at e) in here)) h)

all_from : (c : ℕ) (r : Row) (rows : List Row) → c ≤ start r → All (begins_from (start r)) rows → All (begins_from c) rows
all_from c r rows h all = All-weaker (begins_from (start r)) (begins_from c) (λ s k. omega (arith, h, k)) rows all

-- from the first row that passes on, each begins where that row does or behind it
from_first_passing : (p : Row → Bool) (c : ℕ) (items : List FileItem) → ((r : Row) → p r ≡ true → begins_from c r) → holds_row p items ≡ true → Rises (rows_in items) → All (begins_from c) (rows_in (drop (position_or_len (row_passes p) items) items))
from_first_passing p c [] f some h = absurd cc
from_first_passing p c (item ∷ items) f some h = by item.row refl h (from_first_passing p c items f)
  where
    Later : Type 0
    Later = holds_row p items ≡ true → Rises (rows_in items) → All (begins_from c) (rows_in (drop (position_or_len (row_passes p) items) items))

    passed : (r : Row) (b : Bool) → p r ≡ b → item.row ≡ Some r → Rises (r ∷ rows_in items) → Later → All (begins_from c) (rows_in (drop (position_or_len (row_passes p) (item ∷ items)) (item ∷ items)))
    passed r true e k rises later = rw (k, e) (All-cons (begins_from c) r (rows_in items) (f r e) (all_from c r (rows_in items) (f r e) rises.0))
    passed r false e k rises later = rw (k, e, one-add) (later (rw (k, e) at some) rises.1)

    by : (o : Option Row) → item.row ≡ o → Rises (onto_rows o (rows_in items)) → Later → All (begins_from c) (rows_in (drop (position_or_len (row_passes p) (item ∷ items)) (item ∷ items)))
    by None k rises later = rw (k, one-add) (later (rw k at some) rises)
    by (Some r) k rises later = passed r (p r) refl k rises later

-- what stands behind the last element that fails a test passes it
behind_last : (q : FileItem → Bool) (xs : List FileItem) → All (λ x. q x ≡ true) (drop (length xs - suffix_len q xs) xs)
behind_last q xs k d lt =
    let n = length xs - suffix_len q xs in
    let long = length-reverse xs in
    let cut = length-drop n xs in
    let few = suffix_len-le-length q xs in
    let here : length xs - 1 - (length xs - 1 - (n + k)) ≡ n + k = omega arith in
    let back = get_or-reverse xs (length xs - 1 - (n + k)) d (omega arith) in
    let passes = prefix_len_passes q (reverse xs) (length xs - 1 - (n + k)) d (omega arith) in
    let at : q (get_or xs (n + k) d) ≡ true = subst (λ i. q (get_or xs i d) ≡ true) here (subst (λ x. q x ≡ true) back passes) in
    subst (λ x. q x ≡ true) (sym (get_or-drop n xs k d)) at

-- all rows of UnicodeData.txt are one group
no_rows : (row : Row) (items : List FileItem) → All (λ item. not (row_passes (same_group UnicodeData row) item) ≡ true) items → rows_in items ≡ []
no_rows row [] h = refl
no_rows row (item ∷ items) h = by item.row refl (no_rows row items (All-tail (λ i. not (row_passes (same_group UnicodeData row) i) ≡ true) item items h))
  where
    by : (o : Option Row) → item.row ≡ o → rows_in items ≡ [] → onto_rows o (rows_in items) ≡ []
    by None e k = k
    by (Some r) e k = absurd (let here : not (row_passes (same_group UnicodeData row) item) ≡ true = All-head (λ i. not (row_passes (same_group UnicodeData row) i) ≡ true) item items h in let f : false ≡ true = (rw e at here) in cc)

module _ (row : Row) (items : List FileItem) (h : Rises (rows_in items)) where
  put_at : (n : ℕ) → All (begins_to (start row)) (rows_in (take n items)) → All (begins_from (start row)) (rows_in (drop n items)) → Rises (rows_in (take n items) ++ row ∷ rows_in (drop n items))
  put_at n low high = rises_between (rows_in (take n items)) row (rows_in (drop n items)) (subst Rises (ap rows_in (sym (take-append-drop n items)) ∙ rows-append (take n items) (drop n items)) h) low high

  -- where no row follows, an added row is the last one
  put_last : (n : ℕ) → holds_row (follows UnicodeData row) items ≡ false → rows_in (drop n items) ≡ [] → Rises (rows_in (take n items) ++ row ∷ rows_in (drop n items))
  put_last n none e =
      let q = row_passes (follows UnicodeData row) in
      let first = (or_parts (list_any q (take n items)) (list_any q (drop n items)) (sym (list_any-append q (take n items) (drop n items)) ∙ ap (list_any q) (take-append-drop n items) ∙ none)).0 in
      put_at n (none_pass (follows UnicodeData row) (begins_to (start row)) (take n items) (follows_to row) first) (rw e (All-nil (begins_from (start row))))

  by_group : (b : Bool) → holds_row (follows UnicodeData row) items ≡ false → holds_row (same_group UnicodeData row) items ≡ b → let n = cond b (length items - suffix_len (λ item. not (row_passes (same_group UnicodeData row) item)) items) (length items) in Rises (rows_in (take n items) ++ row ∷ rows_in (drop n items))
  by_group true none e = let q : FileItem → Bool = λ item. not (row_passes (same_group UnicodeData row) item) in put_last (length items - suffix_len q items) none (no_rows row (drop (length items - suffix_len q items) items) (behind_last q items))
  by_group false none e = put_last (length items) none (ap rows_in (drop_all (length items) items (omega arith)))

  by_following : (b : Bool) → holds_row (follows UnicodeData row) items ≡ b → Rises (rows_in (take (place_in UnicodeData row items) items) ++ row ∷ rows_in (drop (place_in UnicodeData row items) items))
  by_following true e = rw e (put_at (position_or_len (row_passes (follows UnicodeData row)) items) (before_first_passing (follows UnicodeData row) (begins_to (start row)) items (follows_to row)) (from_first_passing (follows UnicodeData row) (start row) items (follows_from row) e h))
  by_following false e = rw e (by_group (holds_row (same_group UnicodeData row) items) e refl)

  pub rises_added : Rises (rows_in (take (place_in UnicodeData row items) items) ++ row ∷ rows_in (drop (place_in UnicodeData row items) items))
  rises_added = by_following (holds_row (follows UnicodeData row) items) refl

-- ---- an operation

by_file : (file : SourceFile) (old new : List Row) → (file ≡ UnicodeData → Rises old → Rises new) → Ascends file old → Ascends file new
by_file UnicodeData old new f h = f refl h
by_file PropList old new f h = tt
by_file Scripts old new f h = tt
by_file WordBreakProperty old new f h = tt
by_file CompositionExclusions old new f h = tt
by_file CaseFolding old new f h = tt
by_file SpecialCasing old new f h = tt
by_file PropertyAliases old new f h = tt
by_file PropertyValueAliases old new f h = tt

rows_put : (items : List FileItem) (n : ℕ) (row : Row) (bytes : List ℕ) → rows_in (put_in items n (added_item row bytes)) ≡ rows_in (take n items) ++ row ∷ rows_in (drop n items)
rows_put items n row bytes = rows-append (ended (take n items)) (added_item row bytes ∷ drop n items) ∙ ap (λ (rs : List Row). rs ++ row ∷ rows_in (drop n items)) (rows-ended (take n items))

pub operations_keep_order : OperationsKeepOrder
unfolding edited
operations_keep_order (Add file row bytes) items next rise h =
    let a = failed (holds_row (same_key file row) items) _ K1 next h in
    let b = failed (holds_row (overlaps file row) items) _ K4 next a.1 in
    let added : file ≡ UnicodeData → Rises (rows_in items) → Rises (rows_in (put_in items (place_in file row items) (added_item row bytes))) = λ same k. rw (rows_put items (place_in file row items) row bytes, same) (rises_added row items k) in
    subst (λ (is : List FileItem). Ascends file (rows_in is)) (items_are _ next b.1) (by_file file (rows_in items) _ added rise)
operations_keep_order (Change file row bytes) items next rise h =
    let a = passed (holds_row (same_key file row) items) _ K2 next h in
    let b = failed (holds_row (overlaps_another file row) items) _ K4 next a.1 in
    let changed : file ≡ UnicodeData → Rises (rows_in items) → Rises (rows_in (map (changed_item file row bytes) items)) = λ same k. rw (rows_changed file row bytes items) (rises_instead file row (rows_in items) k) in
    subst (λ (is : List FileItem). Ascends file (rows_in is)) (items_are _ next b.1) (by_file file (rows_in items) _ changed rise)
operations_keep_order (Withdraw file key) items next rise h =
    let a = passed (holds_row (has_key file key) items) _ K2 next h in
    let withdrawn : file ≡ UnicodeData → Rises (rows_in items) → Rises (rows_in (filter (λ item. not (row_passes (has_key file key) item)) items)) = λ same k. rw (rows_filter (has_key file key) items) (rises_filter (λ row. not (has_key file key row)) (rows_in items) k) in
    subst (λ (is : List FileItem). Ascends file (rows_in is)) (items_are _ next a.1) (by_file file (rows_in items) _ withdrawn rise)
