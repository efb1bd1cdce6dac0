-- How texts and names are compared part by part.
use Rattle.std.proofs.Common.{◌≡◌, zero, suc, ◌-◌, ◌<◌, ◌≤◌, arith, ℕ, true, false, List, [], ◌∷◌, ◌++◌, length, take, drop, refl, sym, ap, ◌∙◌, Ordering, Less, Equal, Greater, append-nil}
use Rattle.std.specs.Cmp.Lexicographic.{slice_cmp}
use Rattle.std.specs.List.{join_with_byte, flat_map}
use Rattle.std.specs.Ordering.{ordering_then, nat_cmp, is_ne}
use Rattle.source_rows.specs.KeyNames.{names_cmp}

then_assoc : (a b c : Ordering) → ordering_then a (ordering_then b c) ≡ ordering_then (ordering_then a b) c
then_assoc Less b c = refl
then_assoc _ b c = refl

-- a text against a part and what stands behind that
pub part_first : (e part more : List ℕ) → slice_cmp nat_cmp e (part ++ more) ≡ ordering_then (slice_cmp nat_cmp (take (length part) e) part) (slice_cmp nat_cmp (drop (length part) e) more)
part_first e [] more = refl
part_first [] (p ∷ ps) more = refl
part_first (x ∷ xs) (p ∷ ps) more = ap (ordering_then (nat_cmp x p)) (part_first xs ps more) ∙ then_assoc (nat_cmp x p) (slice_cmp nat_cmp (take (length ps) xs) ps) (slice_cmp nat_cmp (drop (length ps) xs) more)

-- words, each behind a space
abbrev pub led : List (List ℕ) → List ℕ
led ws = flat_map (λ w. 32 ∷ w) ws

-- words with one space between them: in front of the first one stands the gap
abbrev pub led_by : List ℕ → List (List ℕ) → List ℕ
led_by gap [] = []
led_by gap (w ∷ ws) = gap ++ (w ++ led ws)

pub led_joined : (ws : List (List ℕ)) → led_by [] ws ≡ join_with_byte 32 ws
led_joined [] = refl
led_joined (w ∷ []) = append-nil w
led_joined (w ∷ v ∷ vs) = ap (λ (xs : List ℕ). w ++ 32 ∷ xs) (led_joined (v ∷ vs))

pub led_spaced : (ws : List (List ℕ)) → led_by (32 ∷ []) ws ≡ led ws
led_spaced [] = refl
led_spaced (w ∷ ws) = refl

-- ---- one word, as the loop takes it

pub stops : (o rest : Ordering) → is_ne o ≡ true → o ≡ ordering_then o rest
stops Equal rest h = absurd cc
stops _ rest h = refl

pub goes : (o rest : Ordering) → is_ne o ≡ false → ordering_then o rest ≡ rest
goes Equal rest h = refl
goes _ rest h = absurd cc

abbrev pub begins : List ℕ → List ℕ → Ordering
begins text part = slice_cmp nat_cmp (take (length part) text) part

pub gap_stops : (left gap word : List ℕ) (ws : List (List ℕ)) (o : Ordering) → o ≡ begins left gap → is_ne o ≡ true → o ≡ slice_cmp nat_cmp left (led_by gap (word ∷ ws))
gap_stops left gap word ws o is ne =
    stops o (slice_cmp nat_cmp (drop (length gap) left) (word ++ led ws)) ne
    ∙ ap (λ (p : Ordering). ordering_then p (slice_cmp nat_cmp (drop (length gap) left) (word ++ led ws))) is
    ∙ sym (part_first left gap (word ++ led ws))

gap_goes : (left gap word : List ℕ) (ws : List (List ℕ)) (o : Ordering) → o ≡ begins left gap → is_ne o ≡ false → slice_cmp nat_cmp left (led_by gap (word ∷ ws)) ≡ slice_cmp nat_cmp (drop (length gap) left) (word ++ led ws)
gap_goes left gap word ws o is eq =
    part_first left gap (word ++ led ws)
    ∙ ap (λ (p : Ordering). ordering_then p (slice_cmp nat_cmp (drop (length gap) left) (word ++ led ws))) (sym is)
    ∙ goes o (slice_cmp nat_cmp (drop (length gap) left) (word ++ led ws)) eq

pub word_stops : (left gap word behind : List ℕ) (ws : List (List ℕ)) (o p : Ordering) → o ≡ begins left gap → is_ne o ≡ false → behind ≡ drop (length gap) left → p ≡ begins behind word → is_ne p ≡ true → p ≡ slice_cmp nat_cmp left (led_by gap (word ∷ ws))
word_stops left gap word behind ws o p is eq rest js ne =
    stops p (slice_cmp nat_cmp (drop (length word) behind) (led ws)) ne
    ∙ ap (λ (q : Ordering). ordering_then q (slice_cmp nat_cmp (drop (length word) behind) (led ws))) js
    ∙ sym (part_first behind word (led ws))
    ∙ ap (λ (xs : List ℕ). slice_cmp nat_cmp xs (word ++ led ws)) rest
    ∙ sym (gap_goes left gap word ws o is eq)

pub word_goes : (left gap word behind next : List ℕ) (ws : List (List ℕ)) (o p : Ordering) → o ≡ begins left gap → is_ne o ≡ false → behind ≡ drop (length gap) left → p ≡ begins behind word → is_ne p ≡ false → next ≡ drop (length word) behind → slice_cmp nat_cmp next (led_by (32 ∷ []) ws) ≡ slice_cmp nat_cmp left (led_by gap (word ∷ ws))
word_goes left gap word behind next ws o p is eq rest js eq2 rest2 =
    ap (λ (xs : List ℕ). slice_cmp nat_cmp xs (led_by (32 ∷ []) ws)) rest2
    ∙ ap (slice_cmp nat_cmp (drop (length word) behind)) (led_spaced ws)
    ∙ sym (goes p (slice_cmp nat_cmp (drop (length word) behind) (led ws)) eq2)
    ∙ ap (λ (q : Ordering). ordering_then q (slice_cmp nat_cmp (drop (length word) behind) (led ws))) js
    ∙ sym (part_first behind word (led ws))
    ∙ ap (λ (xs : List ℕ). slice_cmp nat_cmp xs (word ++ led ws)) rest
    ∙ sym (gap_goes left gap word ws o is eq)

-- ---- at the end

pub none_left : (left : List ℕ) → length left < 1 → Equal ≡ slice_cmp nat_cmp left []
none_left [] h = refl
none_left (b ∷ bs) h = absurd (omega arith)

pub some_left : (left : List ℕ) → 1 ≤ length left → Greater ≡ slice_cmp nat_cmp left []
some_left [] h = absurd (omega arith)
some_left (b ∷ bs) h = refl

-- ---- names

pub some_names : (names : List (List ℕ)) → 1 ≤ length names → Greater ≡ names_cmp names []
some_names [] h = absurd (omega arith)
some_names (n ∷ ns) h = refl

pub field_goes : (left behind : List (List ℕ)) (field : List ℕ) (fields next : List (List ℕ)) (n : ℕ) (o : Ordering) → ((more : List (List ℕ)) → names_cmp left (field ∷ more) ≡ ordering_then o (names_cmp behind more)) → is_ne o ≡ false → fields ≡ field ∷ next → 0 < n → names_cmp behind (take (n - 1) next) ≡ names_cmp left (take n fields)
field_goes left behind field fields next zero o first eq cut some = absurd (omega arith)
field_goes left behind field fields next (suc n) o first eq cut some = let e : suc n - 1 ≡ n = omega arith in rw (cut, e) (sym (first (take n next) ∙ goes o (names_cmp behind (take n next)) eq))
