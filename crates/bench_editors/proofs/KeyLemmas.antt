-- Keys that are the same, and what a map keeps under them.
use Rattle.std.proofs.Common.{◌≡◌, ℕ, ◌+◌, ◌<◌, ◌==◌, length, drop, take, get_or, Bool, true, false, not, ◌&&◌, ◌||◌, List, [], ◌∷◌, Option, Some, None, IsSome, refl, sym, ap, subst, ◌∙◌, if◌then◌else◌, eqb-true, arith, is_some, unwrap_or, bytes_eq, Ordering}
use Rattle.std.specs.BTreeMap.{BTreeMap, UpdatesBy, get_by, is_at}
use Rattle.std.specs.List.{list_any}
use Rattle.std.specs.Map.{KeepsOthers, lookup}
use Rattle.std.specs.Cmp.Derive.Mapped.{lex_map}
use Rattle.std.specs.Cmp.Lexicographic.{slice_cmp}
use Rattle.std.specs.Ordering.{eq_by_cmp, is_eq, nat_cmp, ordering_then}
use Rattle.std.proofs.Math.Path.{fun_ext}
use Rattle.std.proofs.lemmas.Bool.{and_parts, and_from, eq-eqb}
use Rattle.std.proofs.lemmas.Bool.Decides.{nat_tests}
use Rattle.std.proofs.lemmas.List.{drop_more}
use Rattle.std.proofs.lemmas.List.Folds.{list_any_more}
use Rattle.std.proofs.lemmas.Map.Text.{is_eq-slice_cmp}
use Rattle.std.proofs.lemmas.Slice.Eq.{bytes_eq-Decides, slice_eq-Decides}
use Rattle.std.proofs.Math.Bool.{and_assoc}
use Rattle.std.specs.Cmp.{tied_then}
use Rattle.source_rows.specs.Keys.{same_texts}
use Rattle.bench_editors.specs.RowKeys.{KeyParts, found_in, key_parts, last_in, row_key_cmp, same_parts}
use Rattle.bench_editors.specs.declared.row_key.RowKey.{RowKey}
use Rattle.bench_editors.specs.declared.row_revisions.RowRevisions.{RowRevisions}

-- ---- parts that are the same

names_same : (a b : List (List ℕ)) → same_texts a b ≡ true → a ≡ b
names_same a b = (slice_eq-Decides bytes_eq-Decides a b (same_texts a b) refl).0

names_themselves : (a : List (List ℕ)) → same_texts a a ≡ true
names_themselves a = (slice_eq-Decides bytes_eq-Decides a a (same_texts a a) refl).1 refl

abbrev these : ℕ → ℕ → List (List ℕ) → KeyParts
these file start names = record { file = file; start = start; names = names }

pub parts_same : (a b : KeyParts) → same_parts a b ≡ true → a ≡ b
parts_same a b h =
    let all = and_parts ((a.file == b.file) && (a.start == b.start)) (same_texts a.names b.names) h in
    let numbers = and_parts (a.file == b.file) (a.start == b.start) all.0 in
    let file : a.file ≡ b.file = eqb-true _ _ numbers.0 in
    let start : a.start ≡ b.start = eqb-true _ _ numbers.1 in
    let names : a.names ≡ b.names = names_same a.names b.names all.1 in
    ap (λ (n : ℕ). these n a.start a.names) file ∙ ap (λ (n : ℕ). these b.file n a.names) start ∙ ap (these b.file b.start) names

pub parts_themselves : (a : KeyParts) → same_parts a a ≡ true
parts_themselves a = and_from _ _ (and_from _ _ (eq-eqb a.file a.file refl) (eq-eqb a.start a.start refl)) (names_themselves a.names)

-- ---- keys in order

equal_then : (a b : Ordering) → is_eq (ordering_then a b) ≡ (is_eq a && is_eq b)
equal_then a b = sym (tied_then a b)

names_tell : (a b : List (List ℕ)) → is_eq (slice_cmp (slice_cmp nat_cmp) a b) ≡ same_texts a b
names_tell [] [] = refl
names_tell [] (y ∷ b) = refl
names_tell (x ∷ a) [] = refl
names_tell (x ∷ a) (y ∷ b) = equal_then (slice_cmp nat_cmp x y) (slice_cmp (slice_cmp nat_cmp) a b) ∙ rw (is_eq-slice_cmp x y, names_tell a b) refl

pub number_tells : (x y : ℕ) → is_eq (nat_cmp x y) ≡ (x == y)
number_tells x y = grind (arith, nat_tests)

-- keys compare alike exactly where their parts are the same
pub keys_tell : (a b : RowKey) → is_eq (row_key_cmp a b) ≡ same_parts (key_parts a) (key_parts b)
keys_tell a b =
    let names : is_eq (slice_cmp (λ m n. slice_cmp nat_cmp m.items n.items) a.names.items b.names.items) ≡ same_texts (key_parts a).names (key_parts b).names =
    ap is_eq (sym (lex_map (λ name. name.items) (slice_cmp nat_cmp) a.names.items b.names.items)) ∙ names_tell (key_parts a).names (key_parts b).names in
    equal_then (nat_cmp a.file b.file) _ ∙ ap (λ (x : Bool). is_eq (nat_cmp a.file b.file) && x) (equal_then (nat_cmp a.start b.start) _)
    ∙ rw (number_tells a.file b.file, number_tells a.start b.start, names) (sym (and_assoc (a.file == b.file) (a.start == b.start) (same_texts (key_parts a).names (key_parts b).names)))

-- ---- what a map keeps

abbrev by_parts : KeyParts → RowKey → Bool
by_parts parts k = same_parts parts (key_parts k)

abbrev by_key : RowKey → RowKey → Bool
by_key key = is_at (row_key_cmp key)

pub asked_by : (key : RowKey) → by_key key ≡ by_parts (key_parts key)
asked_by key = fun_ext (λ k. keys_tell key k)

-- a look-up by a key is one by its parts
pub found_by : (key : RowKey) (m : BTreeMap RowKey ℕ) → get_by (row_key_cmp key) m ≡ lookup (by_parts (key_parts key)) m.entries
found_by key m = ap (λ (t : RowKey → Bool). lookup t m.entries) (asked_by key)

apart : (parts : KeyParts) (key k : RowKey) → same_parts parts (key_parts key) ≡ false → by_key key k ≡ true → by_parts parts k ≡ false
apart parts key k other at =
    let same : key_parts key ≡ key_parts k = parts_same (key_parts key) (key_parts k) (sym (keys_tell key k) ∙ at) in
    ap (same_parts parts) (sym same) ∙ other

tests_one : (parts : KeyParts) (x y : RowKey) → by_parts parts x ≡ true → by_parts parts y ≡ eq_by_cmp row_key_cmp x y
tests_one parts x y at =
    let same : parts ≡ key_parts x = parts_same parts (key_parts x) at in
    ap (λ (p : KeyParts). same_parts p (key_parts y)) same ∙ sym (keys_tell x y)

others_stay : (parts : KeyParts) (key : RowKey) (old new : List (RowKey × ℕ)) → KeepsOthers (eq_by_cmp row_key_cmp) (by_key key) old new → same_parts parts (key_parts key) ≡ false
    → lookup (by_parts parts) new ≡ lookup (by_parts parts) old
unfolding KeepsOthers
others_stay parts key old new keeps other = keeps (by_parts parts) (tests_one parts) (λ k at. apart parts key k other at)

updated_by : (parts : KeyParts) (key : RowKey) (m n : BTreeMap RowKey ℕ) (w : ℕ) → UpdatesBy row_key_cmp (row_key_cmp key) m n (Some w) → (b : Bool) → same_parts parts (key_parts key) ≡ b
    → lookup (by_parts parts) n.entries ≡ (if b then Some w else lookup (by_parts parts) m.entries)
updated_by parts key m n w h true same =
    let is : parts ≡ key_parts key = parts_same parts (key_parts key) same in
    ap (λ (p : KeyParts). lookup (by_parts p) n.entries) is ∙ sym (found_by key n) ∙ h.1
updated_by parts key m n w h false other = others_stay parts key m.entries n.entries h.3 other

-- what a map keeps once a revision was put under a key
pub updated : (key : RowKey) (m n : BTreeMap RowKey ℕ) (w : ℕ) → UpdatesBy row_key_cmp (row_key_cmp key) m n (Some w) → (parts : KeyParts)
    → lookup (by_parts parts) n.entries ≡ (if same_parts parts (key_parts key) then Some w else lookup (by_parts parts) m.entries)
updated key m n w h parts = updated_by parts key m n w h (same_parts parts (key_parts key)) refl

-- ---- an entry that is made

pub is_there : (o : Option ℕ) → is_some o ≡ true → IsSome o
is_there (Some n) h = refl
is_there None h = absurd cc

pub key_stays : (b : Bool) (w : ℕ) (o : Option ℕ) → IsSome o → IsSome (if b then Some w else o)
key_stays true w o some = refl
key_stays false w o some = some

abbrev number : Option ℕ → ℕ
number o = unwrap_or o 0

none_is_zero : (o : Option ℕ) → is_some o ≡ false → 0 ≡ number o
none_is_zero (Some n) h = absurd cc
none_is_zero None h = refl

module _ (key : RowKey) (m n : BTreeMap RowKey ℕ) (h : UpdatesBy row_key_cmp (row_key_cmp key) m n (Some 0)) where
  entry_by : (parts : KeyParts) (b : Bool) → same_parts parts (key_parts key) ≡ b → is_some (get_by (row_key_cmp key) m) ≡ false
      → number (if b then Some 0 else lookup (by_parts parts) m.entries) ≡ number (lookup (by_parts parts) m.entries)
  entry_by parts true same none =
      none_is_zero (get_by (row_key_cmp key) m) none
      ∙ ap number (found_by key m ∙ ap (λ (p : KeyParts). lookup (by_parts p) m.entries) (sym (parts_same parts (key_parts key) same)))
  entry_by parts false other none = refl

  pub entry_is_zero : is_some (get_by (row_key_cmp key) m) ≡ false → (parts : KeyParts) → number (lookup (by_parts parts) n.entries) ≡ number (lookup (by_parts parts) m.entries)
  entry_is_zero none parts = ap number (updated key m n 0 h parts) ∙ entry_by parts (same_parts parts (key_parts key)) refl none

  pub entries_stay : (parts : KeyParts) → IsSome (lookup (by_parts parts) m.entries) → IsSome (lookup (by_parts parts) n.entries)
  entries_stay parts some = subst IsSome (sym (updated key m n 0 h parts)) (key_stays (same_parts parts (key_parts key)) 0 (lookup (by_parts parts) m.entries) some)

  pub entry_there : IsSome (lookup (by_parts (key_parts key)) n.entries)
  entry_there = subst IsSome (sym (updated key m n 0 h (key_parts key) ∙ ap (λ (b : Bool). if b then Some 0 else lookup (by_parts (key_parts key)) m.entries) (parts_themselves (key_parts key)))) refl

-- ---- names one by one

module _ (a b : List (List ℕ)) where
  names_more : (i : ℕ) → i < length a → i < length b → same_texts (drop i a) (drop i b) ≡ (bytes_eq (get_or a i []) (get_or b i []) && same_texts (drop (i + 1) a) (drop (i + 1) b))
  names_more i below also = rw (drop_more a i [] below, drop_more b i [] also) refl

  pub names_differ : (i : ℕ) → i < length a → i < length b → bytes_eq (get_or a i []) (get_or b i []) ≡ false → same_texts (drop i a) (drop i b) ≡ same_texts a b → false ≡ same_texts a b
  names_differ i below also other left = sym (ap (λ (t : Bool). t && same_texts (drop (i + 1) a) (drop (i + 1) b)) other) ∙ sym (names_more i below also) ∙ left

  pub names_on : (i : ℕ) → i < length a → i < length b → bytes_eq (get_or a i []) (get_or b i []) ≡ true → same_texts (drop i a) (drop i b) ≡ same_texts a b → same_texts (drop (i + 1) a) (drop (i + 1) b) ≡ same_texts a b
  names_on i below also same left = sym (ap (λ (t : Bool). t && same_texts (drop (i + 1) a) (drop (i + 1) b)) same) ∙ sym (names_more i below also) ∙ left

pub told_apart : (told : Bool) (x y : List ℕ) → told ≡ not (bytes_eq x y) → told ≡ true → bytes_eq x y ≡ false
told_apart told x y = by (bytes_eq x y)
  where
    by : (b : Bool) → told ≡ not b → told ≡ true → b ≡ false
    by true h k = absurd cc
    by false h k = refl

pub told_same : (told : Bool) (x y : List ℕ) → told ≡ not (bytes_eq x y) → told ≡ false → bytes_eq x y ≡ true
told_same told x y = by (bytes_eq x y)
  where
    by : (b : Bool) → told ≡ not b → told ≡ false → b ≡ true
    by true h k = refl
    by false h k = absurd cc

-- ---- a revision that is put under one key more

put_more : (before here : Bool) (w old : ℕ) (o : Option ℕ) → number o ≡ (if before then w else old) → number (if here then Some w else o) ≡ (if before || here then w else old)
put_more true true w old o h = refl
put_more true false w old o h = h
put_more false true w old o h = refl
put_more false false w old o h = h

pub put_key : (m n : RowRevisions) (keys : List RowKey) (i : ℕ) (key : RowKey) (w old : ℕ) (parts : KeyParts) → i < length keys → key ≡ get_or keys i key
    → found_in n parts ≡ (if same_parts parts (key_parts key) then Some w else found_in m parts)
    → last_in m parts ≡ (if list_any (by_parts parts) (take i keys) then w else old) → last_in n parts ≡ (if list_any (by_parts parts) (take (i + 1) keys) then w else old)
put_key m n keys i key w old parts lt is put before =
    ap number put ∙ put_more (list_any (by_parts parts) (take i keys)) (by_parts parts key) w old (found_in m parts) before
    ∙ ap (λ (b : Bool). if b then w else old) (ap (λ (k : RowKey). list_any (by_parts parts) (take i keys) || by_parts parts k) is ∙ sym (list_any_more (by_parts parts) keys i key lt))
