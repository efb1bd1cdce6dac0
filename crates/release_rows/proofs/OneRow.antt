-- Where one row passes and no other one does.
use Rattle.std.proofs.Common.{◌≡◌, ℕ, suc, ◌+◌, Bool, true, false, not, ◌&&◌, ◌||◌, List, [], ◌∷◌, map, filter, set, get_or, Option, Some, None, refl, sym, ap, ◌∙◌, arith, append-nil}
use Rattle.std.specs.List.{list_any, position_or_len, remove}
use Rattle.std.proofs.lemmas.Bool.{and_parts, or_parts, eqb-true, eq-eqb, and_from, not-true}
use Rattle.source_rows.specs.Keys.{row_span, key_names, key_code, code_number, same_code, same_texts}
use Rattle.source_rows.specs.declared.key.Key.{Key}
use Rattle.release_rows.specs.FileItems.{FileItem, rows_in, SourceFile, Row}
use Rattle.release_rows.specs.Keys.{same_key}
use Rattle.release_rows.specs.Operations.{has_key, holds_row, row_passes, spans_of, spans_with}
use Rattle.release_rows.specs.Releases.{AreKept}
use Rattle.release_rows.proofs.Operations.{all_are_apart, any_rows}
use Rattle.release_rows.proofs.RowsApart.{all_apart, clashes, key_chain}
use Rattle.release_rows.proofs.Seeking.{code_is}
use Rattle.release_rows.proofs.Texts.{texts_same, texts_itself}

-- ---- in a list

-- behind one that passes none does
abbrev pub Once : {A : Type 0} → (A → Bool) → List A → Type 0
Once p [] = Unit {0}
Once p (x ∷ xs) = (p x ≡ true → list_any p xs ≡ false) × Once p xs

unchanged : {A : Type 0} (p : A → Bool) (f : A → A) → ((x : A) → p x ≡ false → f x ≡ x) → (xs : List A) → list_any p xs ≡ false → map f xs ≡ xs
unchanged p f keeps [] h = refl
unchanged p f keeps (x ∷ xs) h = let k = or_parts (p x) (list_any p xs) h in rw (keeps x k.0, unchanged p f keeps xs k.1) refl

all_stay : {A : Type 0} (p : A → Bool) (xs : List A) → list_any p xs ≡ false → filter (λ x. not (p x)) xs ≡ xs
all_stay p [] h = refl
all_stay p (x ∷ xs) h = let k = or_parts (p x) (list_any p xs) h in rw (k.0, all_stay p xs k.1) refl

none_pass : {A : Type 0} (p : A → Bool) (xs : List A) → list_any p xs ≡ false → filter p xs ≡ []
none_pass p [] h = refl
none_pass p (x ∷ xs) h = let k = or_parts (p x) (list_any p xs) h in rw (k.0, none_pass p xs k.1) refl

passes_later : (b any : Bool) → b ≡ false → (b || any) ≡ true → any ≡ true
passes_later true any e h = absurd cc
passes_later false any e h = h

set_step : {A : Type 0} (p : A → Bool) (f : A → A) (x : A) (xs : List A) (d : A) (b : Bool) → ((y : A) → p y ≡ false → f y ≡ y) → p x ≡ b → (p x ≡ true → list_any p xs ≡ false) → (list_any p xs ≡ true → map f xs ≡ set xs (position_or_len p xs) (f (get_or xs (position_or_len p xs) d))) → (p x || list_any p xs) ≡ true → map f (x ∷ xs) ≡ set (x ∷ xs) (position_or_len p (x ∷ xs)) (f (get_or (x ∷ xs) (position_or_len p (x ∷ xs)) d))
set_step p f x xs d true keeps e once later h = rw (e, unchanged p f keeps xs (once e)) refl
set_step p f x xs d false keeps e once later h =
    let n = position_or_len p xs in
    let next : 1 + n ≡ suc n = omega arith in
    rw (e, next, keeps x e) (ap (λ ys. x ∷ ys) (later (passes_later (p x) (list_any p xs) e h)))

pub once_set : {A : Type 0} (p : A → Bool) (f : A → A) (xs : List A) (d : A) → ((y : A) → p y ≡ false → f y ≡ y) → Once p xs → list_any p xs ≡ true → map f xs ≡ set xs (position_or_len p xs) (f (get_or xs (position_or_len p xs) d))
once_set p f [] d keeps once h = absurd cc
once_set p f (x ∷ xs) d keeps once h = set_step p f x xs d (p x) keeps refl once.0 (once_set p f xs d keeps once.1) h

out_step : {A : Type 0} (p : A → Bool) (x : A) (xs : List A) (b : Bool) → p x ≡ b → (p x ≡ true → list_any p xs ≡ false) → (list_any p xs ≡ true → filter (λ y. not (p y)) xs ≡ remove xs (position_or_len p xs)) → (p x || list_any p xs) ≡ true → filter (λ y. not (p y)) (x ∷ xs) ≡ remove (x ∷ xs) (position_or_len p (x ∷ xs))
out_step p x xs true e once later h = rw (e, all_stay p xs (once e)) refl
out_step p x xs false e once later h =
    let n = position_or_len p xs in
    let next : 1 + n ≡ suc n = omega arith in
    rw (e, next) (ap (λ ys. x ∷ ys) (later (passes_later (p x) (list_any p xs) e h)))

pub once_out : {A : Type 0} (p : A → Bool) (xs : List A) → Once p xs → list_any p xs ≡ true → filter (λ y. not (p y)) xs ≡ remove xs (position_or_len p xs)
once_out p [] once h = absurd cc
once_out p (x ∷ xs) once h = out_step p x xs (p x) refl once.0 (once_out p xs once.1) h

one_step : {A : Type 0} (p : A → Bool) (x : A) (xs : List A) (d : A) (b : Bool) → p x ≡ b → (p x ≡ true → list_any p xs ≡ false) → (list_any p xs ≡ true → filter p xs ≡ get_or xs (position_or_len p xs) d ∷ []) → (p x || list_any p xs) ≡ true → filter p (x ∷ xs) ≡ get_or (x ∷ xs) (position_or_len p (x ∷ xs)) d ∷ []
one_step p x xs d true e once later h = rw (e, none_pass p xs (once e)) refl
one_step p x xs d false e once later h =
    let n = position_or_len p xs in
    let next : 1 + n ≡ suc n = omega arith in
    rw (e, next) (later (passes_later (p x) (list_any p xs) e h))

pub once_one : {A : Type 0} (p : A → Bool) (xs : List A) (d : A) → Once p xs → list_any p xs ≡ true → filter p xs ≡ get_or xs (position_or_len p xs) d ∷ []
once_one p [] d once h = absurd cc
once_one p (x ∷ xs) d once h = one_step p x xs d (p x) refl once.0 (once_one p xs d once.1) h

-- ---- among the rows of a file

-- two rows that pass have one key
abbrev pub OneKey : SourceFile → (Row → Bool) → Type 0
OneKey file p = (a b : Row) → p a ≡ true → p b ≡ true → same_key file a b ≡ true

no_true : (b : Bool) → (b ≡ true → false ≡ true) → b ≡ false
no_true true h = sym (h refl)
no_true false h = refl

none_other : (file : SourceFile) (p : Row → Bool) (r : Row) (rows : List Row) → OneKey file p → p r ≡ true → list_any (clashes file r) rows ≡ false → list_any p rows ≡ false
none_other file p r [] one h free = refl
none_other file p r (s ∷ rows) one h free =
    let k = or_parts (clashes file r s) (list_any (clashes file r) rows) free in
    let apart = (or_parts _ _ k.0).0 in
    rw (no_true (p s) (λ also. sym apart ∙ one r s h also)) (none_other file p r rows one h k.1)

pub once_rows : (file : SourceFile) (p : Row → Bool) (items : List FileItem) → OneKey file p → all_apart file (rows_in items) ≡ true → Once (row_passes p) items
once_rows file p [] one apart = tt
once_rows file p (item ∷ items) one apart = by item.row refl (once_rows file p items one)
  where
    by : (o : Option Row) → item.row ≡ o → (all_apart file (rows_in items) ≡ true → Once (row_passes p) items) → Once (row_passes p) (item ∷ items)
    by None e later = (λ passes. absurd (let k = (rw e at passes) in cc), later (let k = (rw e at apart) in k))
    by (Some r) e later =
        let k : (not (list_any (clashes file r) (rows_in items)) && all_apart file (rows_in items)) ≡ true = (rw e at apart) in
        let parts = and_parts _ _ k in
        (λ passes. sym (any_rows p items) ∙ none_other file p r (rows_in items) one (rw e at passes) (not-true _ parts.0), later parts.1)

pub once_kept : (file : SourceFile) (p : Row → Bool) (items : List FileItem) → OneKey file p → AreKept file items → Once (row_passes p) items
once_kept file p items one kept = once_rows file p items one (all_are_apart file items kept)

pub same_key_once : (file : SourceFile) (row : Row) → OneKey file (same_key file row)
same_key_once file row a b h k = key_chain file row a b h k

code_same : (a b c : Option ℕ) → same_code a c ≡ true → same_code b c ≡ true → code_number a ≡ code_number b
code_same (Some a) (Some b) (Some c) h k = eqb-true a c h ∙ sym (eqb-true b c k)
code_same None None c h k = refl
code_same (Some a) None (Some c) h k = absurd cc
code_same (Some a) None None h k = absurd cc
code_same (Some a) (Some b) None h k = absurd cc
code_same None (Some b) (Some c) h k = absurd cc
code_same None (Some b) None h k = absurd cc

pub has_key_once : (file : SourceFile) (key : Key) → OneKey file (has_key file key)
has_key_once file key a b h k =
    let p = and_parts (same_texts (key_names file a) key.names) (same_code (key_code a) key.code) h in
    let q = and_parts (same_texts (key_names file b) key.names) (same_code (key_code b) key.code) k in
    let names : key_names file a ≡ key_names file b = texts_same _ _ p.0 ∙ sym (texts_same _ _ q.0) in
    let codes : (row_span a).lo ≡ (row_span b).lo = sym (code_is a) ∙ code_same (key_code a) (key_code b) key.code p.1 q.1 ∙ code_is b in
    and_from _ _ (rw names (texts_itself (key_names file b))) (eq-eqb _ _ codes)

-- what the one row speaks of
pub one_spans : (p : Row → Bool) (items : List FileItem) (d : FileItem) → Once (row_passes p) items → holds_row p items ≡ true → spans_with p items ≡ spans_of (get_or items (position_or_len (row_passes p) items) d).row
one_spans p items d once h = rw (once_one (row_passes p) items d once h) (append-nil _)
