-- Texts that are trimmed.
use Rattle.std.proofs.Common.{◌≡◌, ℕ, ◌+◌, ◌-◌, ◌<◌, false, eqb, List, [], ◌∷◌, ◌++◌, length, drop, reverse, refl, ◌∙◌, arith, one-add, length-append, inl, inr}
use Rattle.std.specs.List.{list_any, prefix_len, suffix_len}
use Rattle.std.proofs.lemmas.Bool.{or_parts, ne_eqb, eq-eqb, cases_eq}
use Rattle.std.proofs.lemmas.List.{take_all, drop_all, take-append-le, drop-append-le, reverse-append, length-reverse}
use Rattle.std.proofs.lemmas.List.Folds.{prefix_len-append, list_any-append}
use Rattle.std.proofs.lemmas.List.Sums.{prefix_len-le-length}
use Rattle.ucd_points.specs.Lines.{is_blank}
use Rattle.ucd_points.specs.Fields.{trim_start, trim_end, trim}
use Rattle.source_rows.proofs.Lacks.{Lacks}

-- bytes, of which neither the first nor the last is white space
pub record Firm (bs : List ℕ) : Type 0 where
  pub some : 0 < length bs
  pub front : prefix_len is_blank bs ≡ 0
  pub back : suffix_len is_blank bs ≡ 0

pub trim_none : (bs : List ℕ) → prefix_len is_blank bs ≡ 0 → suffix_len is_blank bs ≡ 0 → trim bs ≡ bs
trim_none bs front back = rw (front, back) (take_all (length bs - 0) bs (omega arith))

pub trim_firm : (bs : List ℕ) → Firm bs → trim bs ≡ bs
trim_firm bs f = trim_none bs f.front f.back

lacks_front : (bs : List ℕ) → Lacks is_blank bs → prefix_len is_blank bs ≡ 0
lacks_front [] h = refl
lacks_front (b ∷ bs) h = rw (or_parts (is_blank b) (list_any is_blank bs) h).0 refl

lacks_reverse : (bs : List ℕ) → Lacks is_blank bs → Lacks is_blank (reverse bs)
lacks_reverse [] h = refl
lacks_reverse (b ∷ bs) h =
    let k = or_parts (is_blank b) (list_any is_blank bs) h in
    let back : reverse (b ∷ bs) ≡ reverse bs ++ b ∷ [] = reverse-append (b ∷ []) bs in
    rw (back, list_any-append is_blank (reverse bs) (b ∷ []), lacks_reverse bs k.1, k.0) refl

pub solid : (bs : List ℕ) → 0 < length bs → Lacks is_blank bs → Firm bs
solid bs some h = record { some = some; front = lacks_front bs h; back = lacks_front (reverse bs) (lacks_reverse bs h) }

-- the first of two texts has no white space at its front
front_stays : (xs ys : List ℕ) → 0 < length xs → prefix_len is_blank xs ≡ 0 → prefix_len is_blank (xs ++ ys) ≡ 0
front_stays xs ys some front =
    let not_all : eqb (prefix_len is_blank xs) (length xs) ≡ false = ne_eqb _ _ (λ e. omega arith) in
    prefix_len-append is_blank xs ys ∙ rw not_all front

back_stays : (xs ys : List ℕ) → 0 < length ys → suffix_len is_blank ys ≡ 0 → suffix_len is_blank (xs ++ ys) ≡ 0
back_stays xs ys some back = rw (reverse-append xs ys) (front_stays (reverse ys) (reverse xs) (omega (arith, length-reverse ys)) back)

pub firm_ends : (xs ys : List ℕ) → Firm xs → Firm ys → Firm (xs ++ ys)
firm_ends xs ys f g = record { some = omega (arith, f.some, length-append xs ys); front = front_stays xs ys f.some f.front; back = back_stays xs ys g.some g.back }

-- whatever stands between
pub firm_around : (xs : List ℕ) (b : ℕ) (ys : List ℕ) → Firm xs → Firm ys → Firm (xs ++ b ∷ ys)
firm_around xs b ys f g = record { some = omega (arith, f.some, length-append xs (b ∷ ys)); front = front_stays xs (b ∷ ys) f.some f.front; back = back_stays xs (b ∷ ys) (omega arith) (back_stays (b ∷ []) ys g.some g.back) }

-- ---- a space at an end

pub space_before : (bs : List ℕ) → trim (32 ∷ bs) ≡ trim bs
space_before bs = rw one-add refl

end_space : (xs : List ℕ) → trim_end (xs ++ 32 ∷ []) ≡ trim_end xs
end_space xs =
    let back : suffix_len is_blank (xs ++ 32 ∷ []) ≡ 1 + suffix_len is_blank xs = rw (reverse-append xs (32 ∷ [])) refl in
    let left : length (xs ++ 32 ∷ []) - suffix_len is_blank (xs ++ 32 ∷ []) ≡ length xs - suffix_len is_blank xs = omega (arith, back, length-append xs (32 ∷ [])) in
    rw left (take-append-le (length xs - suffix_len is_blank xs) xs (32 ∷ []) (omega arith))

pub space_behind : (bs : List ℕ) → trim (bs ++ 32 ∷ []) ≡ trim bs
space_behind bs =
    elim (cases_eq (prefix_len is_blank bs) (length bs)) [
      | inl all ↦
          let k : prefix_len is_blank (bs ++ 32 ∷ []) ≡ length bs + 1 = prefix_len-append is_blank bs (32 ∷ []) ∙ rw (eq-eqb _ _ all) refl in
          let none : drop (length bs + 1) (bs ++ 32 ∷ []) ≡ [] = drop_all (length bs + 1) (bs ++ 32 ∷ []) (omega (arith, length-append bs (32 ∷ []))) in
          rw (k, none, all, drop_all (length bs) bs (omega arith)) refl
      | inr some ↦
          let k : prefix_len is_blank (bs ++ 32 ∷ []) ≡ prefix_len is_blank bs = prefix_len-append is_blank bs (32 ∷ []) ∙ rw (ne_eqb _ _ some) refl in
          rw (k, drop-append-le (prefix_len is_blank bs) bs (32 ∷ []) (prefix_len-le-length is_blank bs)) (end_space (trim_start bs))
    ]

-- `<`, and whatever stands before what is firm
pub firm_between : (xs ys : List ℕ) → Firm ys → Firm (60 ∷ (xs ++ ys))
firm_between xs ys f = record { some = omega arith; front = refl; back = back_stays (60 ∷ xs) ys f.some f.back }
