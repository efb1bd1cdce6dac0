-- What stands before a LF is a content and the CR of CR LF.
use Rattle.std.proofs.Common.{◌≡◌, ◌≢◌, ℕ, ◌+◌, ◌-◌, Bool, true, false, nat_eq, List, [], ◌∷◌, ◌++◌, length, take, Option, Some, None, get_or, refl, sym, ap, ◌∙◌, arith, slice_get, eqb-true}
use Rattle.std.specs.Option.{option_eq}
use Rattle.std.proofs.lemmas.List.{take_more, take_all, append_assoc, length-append}
use Rattle.std.proofs.lemmas.Option.{slice_get_within, get_or_from_slice_get}
use Rattle.ucd_points.specs.Lines.{unended, lf, cr_lf, ends_in_return, ended_item, item_bytes}

is_return : (o : Option ℕ) → option_eq nat_eq o (Some 13) ≡ true → o ≡ Some 13
is_return None h = absurd cc
is_return (Some b) h = ap Some (eqb-true b 13 h)

returned : (piece : List ℕ) → slice_get piece (length piece - 1) ≡ Some 13 → take (length piece - 1) piece ++ 13 ∷ [] ≡ piece
returned piece h =
    let within = slice_get_within piece (length piece - 1) 13 h in
    let more = take_more piece (length piece - 1) 0 within in
    let is : get_or piece (length piece - 1) 0 ≡ 13 = get_or_from_slice_get piece (length piece - 1) 13 0 h in
    sym (rw (is, take_all (length piece - 1 + 1) piece (omega arith)) at more)

ended_bytes_by : (piece : List ℕ) (cr : Bool) → ends_in_return piece ≡ cr → item_bytes (ended_item piece) ≡ piece ++ 10 ∷ []
ended_bytes_by piece true e =
    let whole = returned piece (is_return (slice_get piece (length piece - 1)) e) in
    rw e (sym (append_assoc (take (length piece - 1) piece) (13 ∷ []) (10 ∷ [])) ∙ ap (λ bs. bs ++ 10 ∷ []) whole)
ended_bytes_by piece false e = rw e refl

-- the bytes of the line of what stands before a LF
pub ended_bytes : (piece : List ℕ) → item_bytes (ended_item piece) ≡ piece ++ 10 ∷ []
ended_bytes piece = ended_bytes_by piece (ends_in_return piece) refl

told_by : (piece : List ℕ) (cr : Bool) → ends_in_return piece ≡ cr → (ended_item piece).ending ≡ lf → ends_in_return (ended_item piece).content ≡ false
told_by piece true e h = let cut = rw e at h in absurd cc
told_by piece false e h = rw (e, e) refl

pub ended_told : (piece : List ℕ) → (ended_item piece).ending ≡ lf → ends_in_return (ended_item piece).content ≡ false
ended_told piece h = told_by piece (ends_in_return piece) refl h

ended_by : (piece : List ℕ) (cr : Bool) → ends_in_return piece ≡ cr → (ended_item piece).ending ≢ unended
ended_by piece true e = λ h. let cut = rw e at h in absurd cc
ended_by piece false e = λ h. let cut = rw e at h in absurd cc

-- it has an ending
pub ended_ends : (piece : List ℕ) → (ended_item piece).ending ≢ unended
ended_ends piece = ended_by piece (ends_in_return piece) refl

last_is : (bs : List ℕ) (b : ℕ) → slice_get (bs ++ b ∷ []) (length bs) ≡ Some b
last_is [] b = refl
last_is (x ∷ bs) b = last_is bs b

last_place : (bs : List ℕ) (b : ℕ) → length (bs ++ b ∷ []) - 1 ≡ length bs
last_place bs b = omega (arith, length-append bs (b ∷ []))

front_of : (bs : List ℕ) (b : ℕ) → take (length bs) (bs ++ b ∷ []) ≡ bs
front_of [] b = refl
front_of (x ∷ bs) b = ap (λ rest. x ∷ rest) (front_of bs b)

-- a content and a CR stand before the LF of CR LF
pub with_return : (content : List ℕ) → ended_item (content ++ 13 ∷ []) ≡ record { content = content; ending = cr_lf }
with_return content = rw (last_place content 13, last_is content 13, front_of content 13) refl
