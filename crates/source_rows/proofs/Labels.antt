-- Names of the first and the last line of a range, and the label in them.
use Rattle.std.proofs.Common.{◌≡◌, ℕ, ◌-◌, true, List, [], ◌∷◌, ◌++◌, length, take, drop, refl, sym, ap, ◌∙◌, arith, length-append, codes, ◌&&◌, bytes_eq, take-append-drop}
use Rattle.std.proofs.lemmas.Bool.{and_parts, and_from}
use Rattle.std.proofs.lemmas.Slice.Eq.{bytes_eq-Decides}
use Rattle.std.proofs.Math.Seq.{take-append_seam, drop-append_seam}
use Rattle.ucd_points.specs.Fields.{is_name, is_label_closed_by, label_of}

begins : (front closing : List ℕ) → is_name (drop 1 front) ≡ true → take 1 (front ++ closing) ≡ 60 ∷ [] → front ≡ 60 ∷ drop 1 front
begins [] closing name h = absurd cc
begins (f ∷ fs) closing name h = let first : f ≡ 60 = cc in ap (λ (b : ℕ). b ∷ fs) first

abbrev front_of : List ℕ → List ℕ → List ℕ
front_of closing bs = take (length bs - length closing) bs

abbrev back_of : List ℕ → List ℕ → List ℕ
back_of closing bs = drop (length bs - length closing) bs

pub label_read : (closing bs : List ℕ) → is_label_closed_by closing bs ≡ true → (bs ≡ 60 ∷ label_of closing bs ++ closing) × (is_name (label_of closing bs) ≡ true)
unfolding is_label_closed_by
label_read closing bs h =
    let a = and_parts (bytes_eq (take 1 bs) (codes "<") && bytes_eq (back_of closing bs) closing) (is_name (label_of closing bs)) h in
    let b = and_parts (bytes_eq (take 1 bs) (codes "<")) (bytes_eq (back_of closing bs) closing) a.0 in
    let back : back_of closing bs ≡ closing = (bytes_eq-Decides _ _).0 b.1 in
    let whole : bs ≡ front_of closing bs ++ closing = sym (take-append-drop (length bs - length closing) bs) ∙ ap (λ (xs : List ℕ). front_of closing bs ++ xs) back in
    let first : take 1 (front_of closing bs ++ closing) ≡ 60 ∷ [] = ap (λ (xs : List ℕ). take 1 xs) (sym whole) ∙ (bytes_eq-Decides _ _).0 b.0 in
    let front : front_of closing bs ≡ 60 ∷ label_of closing bs = begins (front_of closing bs) closing a.1 first in
    (whole ∙ ap (λ (xs : List ℕ). xs ++ closing) front, a.1)

front_given : (label closing : List ℕ) → front_of closing (60 ∷ label ++ closing) ≡ 60 ∷ label
front_given label closing =
    let n : length (60 ∷ label ++ closing) - length closing ≡ length (60 ∷ label) = omega (arith, length-append label closing) in
    rw n (take-append_seam (60 ∷ label) closing)

back_given : (label closing : List ℕ) → back_of closing (60 ∷ label ++ closing) ≡ closing
back_given label closing =
    let n : length (60 ∷ label ++ closing) - length closing ≡ length (60 ∷ label) = omega (arith, length-append label closing) in
    rw n (drop-append_seam (60 ∷ label) closing)

pub label_is : (label closing : List ℕ) → label_of closing (60 ∷ label ++ closing) ≡ label
label_is label closing = ap (λ (xs : List ℕ). drop 1 xs) (front_given label closing)

pub label_given : (label closing : List ℕ) → is_name label ≡ true → is_label_closed_by closing (60 ∷ label ++ closing) ≡ true
unfolding is_label_closed_by
label_given label closing name =
    let back : bytes_eq (back_of closing (60 ∷ label ++ closing)) closing ≡ true = (bytes_eq-Decides _ _).1 (back_given label closing) in
    let named : is_name (label_of closing (60 ∷ label ++ closing)) ≡ true = ap is_name (label_is label closing) ∙ name in
    and_from _ _ (and_from _ _ refl back) named
