-- Hexadecimal digits.
use Rattle.std.proofs.Common.{◌≡◌, ℕ, Bool, true, false, List, [], ◌∷◌, length, Option, Some, None, fold, refl, arith, eqb-true}
use Rattle.std.specs.List.{position_or_len}
use Rattle.source_rows.proofs.Found.{guarded}
use Rattle.ucd_points.specs.Fields.{digit_of, with_digit, hex_number, if_point, point_of, is_dot}

pub none_stays : (bs : List ℕ) → fold (λ n b. with_digit n (digit_of b)) None bs ≡ None
none_stays [] = refl
none_stays (b ∷ bs) = none_stays bs

no_digit : (n : Option ℕ) → with_digit n None ≡ None
no_digit (Some n) = refl
no_digit None = refl

-- a dot is no digit
dot_step : (b : ℕ) (bs : List ℕ) (acc : Option ℕ) (n : ℕ) (dot : Bool) → is_dot b ≡ dot → fold (λ n b. with_digit n (digit_of b)) (with_digit acc (digit_of b)) bs ≡ Some n → position_or_len is_dot bs ≡ length bs → position_or_len is_dot (b ∷ bs) ≡ length (b ∷ bs)
dot_step b bs acc n true e h ih =
    let is : b ≡ 46 = eqb-true b 46 e in
    let none : fold (λ n b. with_digit n (digit_of b)) (with_digit acc (digit_of b)) bs ≡ None = rw (is, no_digit acc) (none_stays bs) in
    absurd cc
dot_step b bs acc n false e h ih = rw (e, ih) (omega arith)

no_dot_from : (bs : List ℕ) (acc : Option ℕ) (n : ℕ) → fold (λ n b. with_digit n (digit_of b)) acc bs ≡ Some n → position_or_len is_dot bs ≡ length bs
no_dot_from [] acc n h = refl
no_dot_from (b ∷ bs) acc n h = dot_step b bs acc n (is_dot b) refl h (no_dot_from bs (with_digit acc (digit_of b)) n h)

if_point_some : (o : Option ℕ) (c : ℕ) → if_point o ≡ Some c → (n : ℕ) × (o ≡ Some n)
if_point_some (Some n) c h = (n, refl)
if_point_some None c h = absurd cc

-- a code point has no dot
pub point_no_dot : (bs : List ℕ) (c : ℕ) → point_of bs ≡ Some c → position_or_len is_dot bs ≡ length bs
unfolding point_of
point_no_dot bs c h =
    let digits = if_point_some (hex_number bs) c (guarded _ _ c h).1 in
    no_dot_from bs (Some 0) digits.0 digits.1
