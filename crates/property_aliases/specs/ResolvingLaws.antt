-- Names are resolved by least numbers.
-- least a b                  the less of two numbers, of which each may be missing
-- direct table key           the place of the first name of the table that the key matches
-- row_number f row           the least place to which a name of the row leads, where f leads from a name
-- put row key number         the number, where the row has a name that the key matches
-- rows_number f rows key     the least number of a row that has a name that the key matches
-- number_of_is               the first name that a key names is the least of both
use Rattle.std.proofs.Common.{◌≡◌, ℕ, suc, ◌+◌, ◌<◌, Bool, true, false, not, cond, ◌&&◌, ◌||◌, List, [], ◌∷◌, ◌++◌, length, take, Option, Some, None, refl, sym, ap, ◌∙◌, arith, inl, inr, min, position, slice_index_or, option_map}
use Rattle.std.proofs.lemmas.Bool.{cases_lt, lt-ltb, le-ltb}
use Rattle.std.specs.List.{list_any, prefix_len}
use Rattle.std.proofs.lemmas.List.{take_more, length-take-le}
use Rattle.property_aliases.specs.Loose.{loose, is_name}
use Rattle.property_aliases.specs.Resolving.{ties, number_of}

abbrev pub least : Option ℕ → Option ℕ → Option ℕ
least None b = b
least (Some m) None = Some m
least (Some m) (Some n) = Some (min m n)

abbrev pub direct : List (List ℕ) → List ℕ → Option ℕ
direct table key = position (λ b. is_name key b) table

abbrev pub row_number : (List ℕ → Option ℕ) → List (List ℕ) → Option ℕ
row_number f [] = None
row_number f (n ∷ ns) = least (f (loose n)) (row_number f ns)

abbrev pub put : List (List ℕ) → List ℕ → Option ℕ → Option ℕ
put row key number = cond (list_any (λ n. is_name key n) row) number None

abbrev pub rows_number : (List ℕ → Option ℕ) → List (List (List ℕ)) → List ℕ → Option ℕ
rows_number f [] key = None
rows_number f (row ∷ rows) key = least (put row key (row_number f row)) (rows_number f rows key)

pub least_none : (a : Option ℕ) → least a None ≡ a
least_none None = refl
least_none (Some m) = refl

least_next : (a b : Option ℕ) → option_map suc (least a b) ≡ least (option_map suc a) (option_map suc b)
least_next None b = refl
least_next (Some m) None = refl
least_next (Some m) (Some n) = ap Some (omega arith)

least_zero : (a : Option ℕ) → least (Some 0) a ≡ Some 0
least_zero None = refl
least_zero (Some n) = ap Some (omega arith)

least_last_zero : (a : Option ℕ) → least a (Some 0) ≡ Some 0
least_last_zero None = refl
least_last_zero (Some n) = ap Some (omega arith)

-- ---- the first that passes

position_is : {A : Type 0} (p : A → Bool) (x : A) (xs : List A) → position p (x ∷ xs) ≡ cond (p x) (Some 0) (option_map suc (position p xs))
position_is p x xs = go (p x) refl
  where
    k : ℕ
    k = prefix_len (λ y. not (p y)) xs

    go : (b : Bool) → p x ≡ b → position p (x ∷ xs) ≡ cond b (Some 0) (option_map suc (position p xs))
    go true e = rw (e, lt-ltb 0 (suc (length xs)) (omega arith)) refl
    go false e = elim (cases_lt k (length xs)) [
      | inl lt ↦
          let next : 1 + k ≡ suc k = omega arith in
          rw (e, next, lt-ltb k (length xs) lt, lt-ltb (suc k) (suc (length xs)) (omega arith)) refl
      | inr ge ↦
          let next : 1 + k ≡ suc k = omega arith in
          rw (e, next, le-ltb k (length xs) ge, le-ltb (suc k) (suc (length xs)) (omega arith)) refl
    ]

position_or : {A : Type 0} (p q : A → Bool) (xs : List A) → position (λ x. p x || q x) xs ≡ least (position p xs) (position q xs)
position_or p q [] = refl
position_or p q (x ∷ xs) = rw (position_is (λ y. p y || q y) x xs, position_is p x xs, position_is q x xs, position_or p q xs) (go (p x) (q x))
  where
    a : Option ℕ
    a = position p xs

    b : Option ℕ
    b = position q xs

    go : (c d : Bool) → cond (c || d) (Some 0) (option_map suc (least a b)) ≡ least (cond c (Some 0) (option_map suc a)) (cond d (Some 0) (option_map suc b))
    go true true = refl
    go true false = sym (least_zero (option_map suc b))
    go false true = sym (least_last_zero (option_map suc a))
    go false false = least_next a b

position_none : {A : Type 0} (xs : List A) → position (λ x. false) xs ≡ None
position_none [] = refl
position_none (x ∷ xs) = position_is (λ y. false) x xs ∙ ap (option_map suc) (position_none xs)

-- ---- rows

row_is : (table : List (List ℕ)) (row : List (List ℕ)) → position (λ b. list_any (λ n. is_name (loose n) b) row) table ≡ row_number (direct table) row
row_is table [] = position_none table
row_is table (n ∷ ns) =
    position_or (λ b. is_name (loose n) b) (λ b. list_any (λ m. is_name (loose m) b) ns) table
    ∙ ap (least (direct table (loose n))) (row_is table ns)

tied_is : (table : List (List ℕ)) (row : List (List ℕ)) (key : List ℕ) → position (λ b. ties row key b) table ≡ put row key (row_number (direct table) row)
tied_is table row key = go (list_any (λ n. is_name key n) row)
  where
    go : (c : Bool) → position (λ b. c && list_any (λ n. is_name (loose n) b) row) table ≡ cond c (row_number (direct table) row) None
    go true = row_is table row
    go false = position_none table

rows_are : (table : List (List ℕ)) (rows : List (List (List ℕ))) (key : List ℕ) → position (λ b. list_any (λ row. ties row key b) rows) table ≡ rows_number (direct table) rows key
rows_are table [] key = position_none table
rows_are table (row ∷ rows) key =
    position_or (λ b. ties row key b) (λ b. list_any (λ r. ties r key b) rows) table
    ∙ ap (λ n. least n (position (λ b. list_any (λ r. ties r key b) rows) table)) (tied_is table row key)
    ∙ ap (least (put row key (row_number (direct table) row))) (rows_are table rows key)

pub number_of_is : (table : List (List ℕ)) (rows : List (List (List ℕ))) (key : List ℕ) → number_of table rows key ≡ least (direct table key) (rows_number (direct table) rows key)
number_of_is table rows key =
    position_or (λ b. is_name key b) (λ b. list_any (λ row. ties row key b) rows) table
    ∙ ap (least (direct table key)) (rows_are table rows key)

pub least_least : (a b c : Option ℕ) → least (least a b) c ≡ least a (least b c)
least_least None b c = refl
least_least (Some m) None c = refl
least_least (Some m) (Some n) None = refl
least_least (Some m) (Some n) (Some k) = ap Some (omega arith)

-- ---- one more

pub position_push : {A : Type 0} (p : A → Bool) (xs : List A) (x : A) → position p (xs ++ x ∷ []) ≡ least (position p xs) (cond (p x) (Some (length xs)) None)
position_push p [] x = position_is p x []
position_push p (y ∷ ys) x = position_is p y (ys ++ x ∷ []) ∙ rw (position_is p y ys, position_push p ys x) (go (p y) (p x))
  where
    a : Option ℕ
    a = position p ys

    n : ℕ
    n = length ys

    go : (c d : Bool) → cond c (Some 0) (option_map suc (least a (cond d (Some n) None))) ≡ least (cond c (Some 0) (option_map suc a)) (cond d (Some (suc n)) None)
    go true true = sym (least_zero (Some (suc n)))
    go true false = refl
    go false true = least_next a (Some n)
    go false false = least_next a None

pub direct_more : (xs : List (List ℕ)) (k : ℕ) (key : List ℕ) → k < length xs → direct (take (k + 1) xs) key ≡ least (direct (take k xs) key) (cond (is_name key (slice_index_or xs k [])) (Some k) None)
direct_more xs k key lt =
    let all : take (k + 1) xs ≡ take k xs ++ slice_index_or xs k [] ∷ [] = take_more xs k [] lt in
    let long : length (take k xs) ≡ k = length-take-le k xs (omega arith) in
    ap (λ (ys : List (List ℕ)). direct ys key) all ∙ position_push (λ b. is_name key b) (take k xs) (slice_index_or xs k [])
    ∙ ap (λ n. least (direct (take k xs) key) (cond (is_name key (slice_index_or xs k [])) (Some n) None)) long

pub least_same : (a : Option ℕ) → least a a ≡ a
least_same None = refl
least_same (Some m) = ap Some (omega arith)

pub put_more : (n : List ℕ) (ns : List (List ℕ)) (key : List ℕ) (v : Option ℕ) → least (cond (is_name key n) v None) (put ns key v) ≡ put (n ∷ ns) key v
put_more n ns key v = go (is_name key n) (list_any (λ m. is_name key m) ns)
  where
    go : (c d : Bool) → least (cond c v None) (cond d v None) ≡ cond (c || d) v None
    go true true = least_same v
    go true false = least_none v
    go false d = refl
