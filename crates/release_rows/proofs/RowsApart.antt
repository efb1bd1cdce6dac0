-- Rows of which no two may not stand together: one more between them, one less, and one in the place of another.
use Rattle.std.proofs.Common.{◌≡◌, ℕ, Bool, true, false, cond, not, eqb, leb, ◌&&◌, ◌||◌, List, [], ◌∷◌, ◌++◌, map, filter, None, refl, sym, ap, ◌∙◌, arith}
use Rattle.std.specs.List.{list_any}
use Rattle.std.proofs.lemmas.Bool.{and_parts, and_from, or_parts, or_from, eqb-true, eq-eqb, false_from_ne_true, not-true}
use Rattle.std.proofs.lemmas.Bool.Decides.{nat_tests}
use Rattle.std.proofs.lemmas.List.Folds.{list_any-append}
use Rattle.std.specs.Cmp.{both_ways}
use Rattle.source_rows.specs.Keys.{row_span, key_names, same_texts}
use Rattle.release_rows.specs.Keys.{own_end, same_key, overlaps, key_rule, SourceFile, Row}
use Rattle.release_rows.specs.Operations.{overlaps_another}
use Rattle.release_rows.proofs.Texts.{texts_same, texts_itself}
use Rattle.release_rows.proofs.Apart.{none_by}

-- the rows may not stand together
abbrev pub clashes : SourceFile → Row → Row → Bool
clashes file a b = same_key file a b || overlaps file a b

-- no two of the rows clash
abbrev pub all_apart : SourceFile → List Row → Bool
all_apart file [] = true
all_apart file (row ∷ rows) = not (list_any (clashes file row) rows) && all_apart file rows

-- ---- both ways

pub texts_swap : (a b : List (List ℕ)) → same_texts a b ≡ same_texts b a
texts_swap a b = both_ways (same_texts a b) (same_texts b a) (λ h. rw (texts_same a b h) (texts_itself b)) (λ h. rw (texts_same b a h) (texts_itself a))

pub numbers_swap : (a b : ℕ) → eqb a b ≡ eqb b a
numbers_swap a b = grind (arith, nat_tests)

pub spans_swap : (a b c d : ℕ) → (leb a d && leb c b) ≡ (leb c b && leb a d)
spans_swap a b c d = grind (arith, nat_tests)

pub keys_swap : (file : SourceFile) (a b : Row) → same_key file a b ≡ same_key file b a
keys_swap file a b = rw (texts_swap (key_names file a) (key_names file b), numbers_swap (row_span a).lo (row_span b).lo) refl

pub overlaps_swap : (file : SourceFile) (a b : Row) → overlaps file a b ≡ overlaps file b a
overlaps_swap file a b = rw (texts_swap (key_names file a) (key_names file b), spans_swap (row_span a).lo (own_end a) (row_span b).lo (own_end b)) refl

clashes_swap : (file : SourceFile) (a b : Row) → clashes file a b ≡ clashes file b a
clashes_swap file a b = rw (keys_swap file a b, overlaps_swap file a b) refl

pub key_chain : (file : SourceFile) (a b c : Row) → same_key file a b ≡ true → same_key file a c ≡ true → same_key file b c ≡ true
key_chain file a b c h k =
    let p = and_parts (same_texts (key_names file a) (key_names file b)) (eqb (row_span a).lo (row_span b).lo) h in
    let q = and_parts (same_texts (key_names file a) (key_names file c)) (eqb (row_span a).lo (row_span c).lo) k in
    let names : key_names file b ≡ key_names file c = sym (texts_same _ _ p.0) ∙ texts_same _ _ q.0 in
    let codes : (row_span b).lo ≡ (row_span c).lo = sym (eqb-true _ _ p.1) ∙ eqb-true _ _ q.1 in
    and_from _ _ (rw names (texts_itself (key_names file c))) (eq-eqb _ _ codes)

-- ---- the rule that a row breaks

pub any_both : (file : SourceFile) (row : Row) (rows : List Row) → list_any (same_key file row) rows ≡ false → list_any (overlaps file row) rows ≡ false → list_any (clashes file row) rows ≡ false
any_both file row [] h k = refl
any_both file row (r ∷ rows) h k =
    let p = or_parts (same_key file row r) (list_any (same_key file row) rows) h in
    let q = or_parts (overlaps file row r) (list_any (overlaps file row) rows) k in
    or_from _ _ (or_from _ _ p.0 q.0) (any_both file row rows p.1 q.1)

any_parts : (file : SourceFile) (row : Row) (rows : List Row) → list_any (clashes file row) rows ≡ false → (list_any (same_key file row) rows ≡ false) × (list_any (overlaps file row) rows ≡ false)
any_parts file row [] h = (refl, refl)
any_parts file row (r ∷ rows) h =
    let p = or_parts (clashes file row r) (list_any (clashes file row) rows) h in
    let q = or_parts (same_key file row r) (overlaps file row r) p.0 in
    let rest = any_parts file row rows p.1 in
    (or_from _ _ q.0 rest.0, or_from _ _ q.1 rest.1)

pub clashes_with_none : (file : SourceFile) (above : List Row) (row : Row) → key_rule file above row ≡ None → list_any (clashes file row) above ≡ false
clashes_with_none file above row h = let f = none_by (list_any (same_key file row) above) (list_any (overlaps file row) above) h in any_both file row above f.0 f.1

pub breaks_no_rule : (file : SourceFile) (above : List Row) (row : Row) → list_any (clashes file row) above ≡ false → key_rule file above row ≡ None
breaks_no_rule file above row h = let f = any_parts file row above h in rw (f.0, f.1) refl

-- ---- one more row between the others

pub put_between : (file : SourceFile) (xs : List Row) (row : Row) (ys : List Row) → all_apart file (xs ++ ys) ≡ true → list_any (clashes file row) (xs ++ ys) ≡ false → all_apart file (xs ++ row ∷ ys) ≡ true
put_between file [] row ys apart free = and_from _ _ (ap not free) apart
put_between file (x ∷ xs) row ys apart free =
    let p = and_parts (not (list_any (clashes file x) (xs ++ ys))) (all_apart file (xs ++ ys)) apart in
    let q = or_parts (clashes file row x) (list_any (clashes file row) (xs ++ ys)) free in
    let x_free = or_parts (list_any (clashes file x) xs) (list_any (clashes file x) ys) (sym (list_any-append (clashes file x) xs ys) ∙ not-true _ p.0) in
    let x_row : clashes file x row ≡ false = clashes_swap file x row ∙ q.0 in
    let x_all : list_any (clashes file x) (xs ++ row ∷ ys) ≡ false = list_any-append (clashes file x) xs (row ∷ ys) ∙ or_from _ _ x_free.0 (or_from _ _ x_row x_free.1) in
    and_from _ _ (ap not x_all) (put_between file xs row ys p.1 q.1)

-- a row does not clash with those before it
pub free_before : (file : SourceFile) (xs : List Row) (row : Row) (ys : List Row) → all_apart file (xs ++ row ∷ ys) ≡ true → list_any (clashes file row) xs ≡ false
free_before file [] row ys apart = refl
free_before file (x ∷ xs) row ys apart =
    let p = and_parts (not (list_any (clashes file x) (xs ++ row ∷ ys))) (all_apart file (xs ++ row ∷ ys)) apart in
    let q = or_parts (list_any (clashes file x) xs) (list_any (clashes file x) (row ∷ ys)) (sym (list_any-append (clashes file x) xs (row ∷ ys)) ∙ not-true _ p.0) in
    let here = or_parts (clashes file x row) (list_any (clashes file x) ys) q.1 in
    or_from _ _ (clashes_swap file row x ∙ here.0) (free_before file xs row ys p.1)

-- ---- fewer rows

any_filter : (p q : Row → Bool) (rows : List Row) → list_any q rows ≡ false → list_any q (filter p rows) ≡ false
any_filter p q [] h = refl
any_filter p q (r ∷ rows) h = let k = or_parts (q r) (list_any q rows) h in by (p r) k.0 (any_filter p q rows k.1)
  where
    by : {r : Row} (b : Bool) → q r ≡ false → list_any q (filter p rows) ≡ false → list_any q (cond b (r ∷ filter p rows) (filter p rows)) ≡ false
    by true h k = or_from _ _ h k
    by false h k = k

pub taken_out : (file : SourceFile) (p : Row → Bool) (rows : List Row) → all_apart file rows ≡ true → all_apart file (filter p rows) ≡ true
taken_out file p [] h = refl
taken_out file p (r ∷ rows) h =
    let k = and_parts (not (list_any (clashes file r) rows)) (all_apart file rows) h in
    by (p r) (any_filter p (clashes file r) rows (not-true _ k.0)) (taken_out file p rows k.1)
  where
    by : (b : Bool) → list_any (clashes file r) (filter p rows) ≡ false → all_apart file (filter p rows) ≡ true → all_apart file (cond b (r ∷ filter p rows) (filter p rows)) ≡ true
    by true h k = and_from _ _ (ap not h) k
    by false h k = k

-- ---- a row in the place of the one that has its key

abbrev pub row_instead : SourceFile → Row → Row → Row
row_instead file row r = cond (same_key file row r) row r

none_same : (file : SourceFile) (row : Row) (rows : List Row) → list_any (same_key file row) rows ≡ false → map (row_instead file row) rows ≡ rows
none_same file row [] h = refl
none_same file row (r ∷ rows) h = let k = or_parts (same_key file row r) (list_any (same_key file row) rows) h in rw (k.0, none_same file row rows k.1) refl

-- where one row has the key, no row that does not clash with it has
none_other : (file : SourceFile) (row r : Row) (rows : List Row) → same_key file row r ≡ true → list_any (clashes file r) rows ≡ false → list_any (same_key file row) rows ≡ false
none_other file row r [] h free = refl
none_other file row r (s ∷ rows) h free =
    let k = or_parts (clashes file r s) (list_any (clashes file r) rows) free in
    let apart = (or_parts (same_key file r s) (overlaps file r s) k.0).0 in
    or_from _ _ (false_from_ne_true (same_key file row s) (λ also. absurd (let e : true ≡ false = sym (key_chain file row r s h also) ∙ apart in cc))) (none_other file row r rows h k.1)

-- rows of other keys that do not overlap it do not clash with it
no_clash : (file : SourceFile) (row : Row) (rows : List Row) → list_any (same_key file row) rows ≡ false → list_any (overlaps_another file row) rows ≡ false → list_any (clashes file row) rows ≡ false
no_clash file row [] h k = refl
no_clash file row (r ∷ rows) h k =
    let p = or_parts (same_key file row r) (list_any (same_key file row) rows) h in
    let q = or_parts (overlaps_another file row r) (list_any (overlaps_another file row) rows) k in
    or_from _ _ (or_from _ _ p.0 (by (same_key file row r) (overlaps file row r) p.0 q.0)) (no_clash file row rows p.1 q.1)
  where
    by : (same over : Bool) → same ≡ false → (not same && over) ≡ false → over ≡ false
    by true over h k = absurd cc
    by false over h k = k

instead_free : (file : SourceFile) (row r : Row) (rows : List Row) → clashes file r row ≡ false → list_any (clashes file r) rows ≡ false → list_any (clashes file r) (map (row_instead file row) rows) ≡ false
instead_free file row r [] apart free = refl
instead_free file row r (s ∷ rows) apart free =
    let k = or_parts (clashes file r s) (list_any (clashes file r) rows) free in
    or_from _ _ (by (same_key file row s) k.0) (instead_free file row r rows apart k.1)
  where
    by : (same : Bool) → clashes file r s ≡ false → clashes file r (cond same row s) ≡ false
    by true h = apart
    by false h = h

pub put_instead : (file : SourceFile) (row : Row) (rows : List Row) → all_apart file rows ≡ true → list_any (overlaps_another file row) rows ≡ false → all_apart file (map (row_instead file row) rows) ≡ true
put_instead file row [] apart free = refl
put_instead file row (r ∷ rows) apart free =
    let p = and_parts (not (list_any (clashes file r) rows)) (all_apart file rows) apart in
    let q = or_parts (overlaps_another file row r) (list_any (overlaps_another file row) rows) free in
    by (same_key file row r) refl (not-true _ p.0) p.1 q.0 q.1 (put_instead file row rows p.1 q.1)
  where
    by : (same : Bool) → same_key file row r ≡ same → list_any (clashes file r) rows ≡ false → all_apart file rows ≡ true → (not (same_key file row r) && overlaps file row r) ≡ false → list_any (overlaps_another file row) rows ≡ false → all_apart file (map (row_instead file row) rows) ≡ true → all_apart file (cond (same_key file row r) row r ∷ map (row_instead file row) rows) ≡ true
    by true e here rest over free later =
        let none = none_other file row r rows e here in
        rw (e, none_same file row rows none) (and_from _ _ (ap not (no_clash file row rows none free)) rest)
    by false e here rest over free later =
        let apart : overlaps file row r ≡ false = (let o : (not false && overlaps file row r) ≡ false = (rw e at over) in o) in
        let r_row : clashes file r row ≡ false = clashes_swap file r row ∙ or_from _ _ e apart in
        rw e (and_from _ _ (ap not (instead_free file row r rows r_row here)) later)
