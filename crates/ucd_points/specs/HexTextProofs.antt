-- Proofs of the laws of the text of code points and spans. No word but those of the laws is defined here.
--
-- hex_text_has_four_to_six_digits, hex_text_has_no_spare_digit, hex_text_is_upper_case, hex_text_spells_its_number,
-- hex_text_spells_its_point, span_text_spells_its_span   the laws of the same names
use Rattle.std.proofs.Common.{◌≡◌, ◌≢◌, ℕ, ◌+◌, ◌-◌, ◌*◌, ◌/◌, ◌%◌, ◌<◌, ◌≤◌, true, false, cond, List, [], ◌∷◌, ◌++◌, length, get_or, drop, Some, nat_lt, refl, sym, ap, subst, ◌∙◌, arith, inl, inr, slice_get, nat_le, fold}
use Rattle.std.specs.List.{AllByRecursion, position_or_len, before_first, after_first}
use Rattle.std.proofs.lemmas.List.Elements.{All-from_recursion}
use Rattle.std.proofs.lemmas.Option.{same_Some}
use Rattle.std.proofs.lemmas.Bool.{cases_lt, cases_eq, eq-eqb, ne_eqb, lt-ltb, le-ltb, le-leb, lt-leb}
use Rattle.std.proofs.lemmas.Nat.{mod_below}
use Rattle.std.proofs.lemmas.List.{length-append, get_or_append_left, get_or_at, take_at, drop_at, append_assoc}
use Rattle.std.proofs.lemmas.List.Sums.{position_or_len_is}
use Rattle.ucd_points.specs.Bounds.{Bounds}
use Rattle.ucd_points.specs.Fields.{digit_of, with_digit, hex_number, point_of, is_dot, one_point, two_points, behind_dot, span_of}
use Rattle.ucd_points.specs.HexText.{hex_digit, four_digits, hex_text, span_text}
use Rattle.ucd_points.specs.HexTextLaws.{IsUpperHex, SpanTextSpellsItsSpan, HexTextHasFourToSixDigits, HexTextHasNoSpareDigit, HexTextIsUpperCase, HexTextSpellsItsNumber, HexTextSpellsItsPoint}

-- ---- one digit

hex_digit-low : (d : ℕ) → d < 10 → hex_digit d ≡ 48 + d
hex_digit-low d h = rw (lt-ltb d 10 h) refl

hex_digit-high : (d : ℕ) → 10 ≤ d → hex_digit d ≡ 55 + d
hex_digit-high d h = rw (le-ltb d 10 h) refl

hex_digit-upper : (d : ℕ) → d < 16 → IsUpperHex (hex_digit d)
hex_digit-upper d h = elim (cases_lt d 10) [
  | inl lt ↦ let e = hex_digit-low d lt in inl ((omega arith), (omega arith))
  | inr ge ↦ let e = hex_digit-high d ge in inr ((omega arith), (omega arith))
]

hex_digit-zero : (d : ℕ) → hex_digit d ≡ 48 → d ≡ 0
hex_digit-zero d h = elim (cases_lt d 10) [
  | inl lt ↦ let e = hex_digit-low d lt in omega arith
  | inr ge ↦ let e = hex_digit-high d ge in omega arith
]

digit_of-low : (b : ℕ) → 48 ≤ b → b ≤ 57 → digit_of b ≡ Some (b - 48)
digit_of-low b low high = rw (le-leb 48 b low, le-leb b 57 high) refl

digit_of-high : (b : ℕ) → 65 ≤ b → b ≤ 70 → digit_of b ≡ Some (b - 55)
digit_of-high b low high =
    let a : nat_le 48 b ≡ true = le-leb 48 b (omega arith) in
    let c : nat_le b 57 ≡ false = lt-leb b 57 (omega arith) in
    rw (a, c, le-leb 65 b low, le-leb b 70 high) refl

digit_read : (d : ℕ) → d < 16 → digit_of (hex_digit d) ≡ Some d
digit_read d h = elim (cases_lt d 10) [
  | inl lt ↦ let e = hex_digit-low d lt in digit_of-low (hex_digit d) (omega arith) (omega arith) ∙ ap Some (omega arith)
  | inr ge ↦ let e = hex_digit-high d ge in digit_of-high (hex_digit d) (omega arith) (omega arith) ∙ ap Some (omega arith)
]

below_16 : (n : ℕ) → n % 16 < 16
below_16 n = mod_below n 16 (omega arith)

-- ---- the texts by length

four_of : (c : ℕ) → c < 65536 → hex_text c ≡ four_digits c
unfolding hex_text
four_of c h = rw (lt-ltb c 65536 h) refl

five_of : (c : ℕ) → 65536 ≤ c → c < 1048576 → hex_text c ≡ hex_digit (c / 65536 % 16) ∷ four_digits c
unfolding hex_text
five_of c low h = rw (le-ltb c 65536 low, lt-ltb c 1048576 h) refl

six_of : (c : ℕ) → 1048576 ≤ c → hex_text c ≡ hex_digit (c / 1048576 % 16) ∷ hex_digit (c / 65536 % 16) ∷ four_digits c
unfolding hex_text
six_of c low =
    let more : 65536 ≤ c = omega arith in
    rw (le-ltb c 65536 more, le-ltb c 1048576 low) refl

-- a fact of the three forms is one of the text
by_length : (P : List ℕ → Type 0) (c : ℕ) → (c < 65536 → P (four_digits c)) → (65536 ≤ c → c < 1048576 → P (hex_digit (c / 65536 % 16) ∷ four_digits c))
    → (1048576 ≤ c → P (hex_digit (c / 1048576 % 16) ∷ hex_digit (c / 65536 % 16) ∷ four_digits c)) → P (hex_text c)
by_length P c four five six = elim (cases_lt c 65536) [
  | inl lt ↦ subst P (sym (four_of c lt)) (four lt)
  | inr ge ↦ elim (cases_lt c 1048576) [
    | inl lt ↦ subst P (sym (five_of c ge lt)) (five ge lt)
    | inr more ↦ subst P (sym (six_of c more)) (six more)
  ]
]

-- ---- the laws

pub hex_text_has_four_to_six_digits : HexTextHasFourToSixDigits
hex_text_has_four_to_six_digits c = by_length (λ bs. (4 ≤ length bs) × (length bs ≤ 6)) c (λ _. ((omega arith), (omega arith))) (λ _ _. ((omega arith), (omega arith))) (λ _. ((omega arith), (omega arith)))

pub hex_text_has_no_spare_digit : HexTextHasNoSpareDigit
hex_text_has_no_spare_digit c h = by_length (λ bs. 4 < length bs → slice_get bs 0 ≢ Some 48) c
    (λ _ long. absurd (omega arith))
    (λ low high long same. let none : c / 65536 % 16 ≡ 0 = hex_digit-zero (c / 65536 % 16) (same_Some (hex_digit (c / 65536 % 16)) 48 same) in absurd (omega arith))
    (λ low long same. let none : c / 1048576 % 16 ≡ 0 = hex_digit-zero (c / 1048576 % 16) (same_Some (hex_digit (c / 1048576 % 16)) 48 same) in absurd (omega arith))

digit_upper : (k : ℕ) → IsUpperHex (hex_digit (k % 16))
digit_upper k = hex_digit-upper (k % 16) (below_16 k)

four_upper : (c : ℕ) → AllByRecursion IsUpperHex (four_digits c)
four_upper c = (digit_upper (c / 4096), (digit_upper (c / 256), (digit_upper (c / 16), (digit_upper c, tt))))

pub hex_text_is_upper_case : HexTextIsUpperCase
hex_text_is_upper_case c = All-from_recursion IsUpperHex (hex_text c) (by_length (λ bs. AllByRecursion IsUpperHex bs) c (λ _. four_upper c) (λ _ _. (digit_upper (c / 65536), four_upper c))
    (λ _. (digit_upper (c / 1048576), (digit_upper (c / 65536), four_upper c))))

-- the number that is written on by one more digit
one_more : (n d : ℕ) → d < 16 → with_digit (Some n) (digit_of (hex_digit d)) ≡ Some (16 * n + d)
one_more n d h = rw (digit_read d h) refl

four_more : (n c : ℕ) → fold (λ n b. with_digit n (digit_of b)) (Some n) (four_digits c) ≡ Some (16 * (16 * (16 * (16 * n + c / 4096 % 16) + c / 256 % 16) + c / 16 % 16) + c % 16)
four_more n c = rw (one_more n (c / 4096 % 16) (below_16 (c / 4096)), one_more (16 * n + c / 4096 % 16) (c / 256 % 16) (below_16 (c / 256)), one_more (16 * (16 * n + c / 4096 % 16) + c / 256 % 16) (c / 16 % 16) (below_16 (c / 16)), one_more (16 * (16 * (16 * n + c / 4096 % 16) + c / 256 % 16) + c / 16 % 16) (c % 16) (below_16 c)) refl

four_worth : (n c : ℕ) → n ≡ c / 65536 → 16 * (16 * (16 * (16 * n + c / 4096 % 16) + c / 256 % 16) + c / 16 % 16) + c % 16 ≡ c
four_worth n c h = omega arith

pub hex_text_spells_its_number : HexTextSpellsItsNumber
hex_text_spells_its_number c h = by_length (λ bs. hex_number bs ≡ Some c) c
    (λ lt. four_more 0 c ∙ ap Some (four_worth 0 c (omega arith)))
    (λ low lt. ap (λ o. fold (λ n b. with_digit n (digit_of b)) o (four_digits c)) (one_more 0 (c / 65536 % 16) (below_16 (c / 65536)))
    ∙ four_more (16 * 0 + c / 65536 % 16) c ∙ ap Some (four_worth (16 * 0 + c / 65536 % 16) c (omega arith)))
    (λ low. ap (λ o. fold (λ n b. with_digit n (digit_of b)) (with_digit o (digit_of (hex_digit (c / 65536 % 16)))) (four_digits c)) (one_more 0 (c / 1048576 % 16) (below_16 (c / 1048576)))
    ∙ ap (λ o. fold (λ n b. with_digit n (digit_of b)) o (four_digits c)) (one_more (16 * 0 + c / 1048576 % 16) (c / 65536 % 16) (below_16 (c / 65536)))
    ∙ four_more (16 * (16 * 0 + c / 1048576 % 16) + c / 65536 % 16) c ∙ ap Some (four_worth (16 * (16 * 0 + c / 1048576 % 16) + c / 65536 % 16) c (omega arith)))

pub hex_text_spells_its_point : HexTextSpellsItsPoint
unfolding point_of
hex_text_spells_its_point c h =
    let number : hex_number (hex_text c) ≡ Some c = hex_text_spells_its_number c (omega arith) in
    let (least, most) = hex_text_has_four_to_six_digits c in
    rw (le-leb 4 (length (hex_text c)) least, le-leb (length (hex_text c)) 6 most, number, lt-ltb c 1114112 h) refl

-- ---- the text of a span

upper_no_dot : (b : ℕ) → IsUpperHex b → is_dot b ≡ false
upper_no_dot b (inl digit) = ne_eqb b 46 (λ e. absurd (omega (arith, digit.0)))
upper_no_dot b (inr letter) = ne_eqb b 46 (λ e. absurd (omega (arith, letter.0)))

hex_text_no_dot : (c k : ℕ) → k < length (hex_text c) → is_dot (get_or (hex_text c) k 0) ≡ false
hex_text_no_dot c k lt = upper_no_dot (get_or (hex_text c) k 0) (hex_text_is_upper_case c k 0 lt)

one_dotless : (c : ℕ) → position_or_len is_dot (hex_text c) ≡ length (hex_text c)
one_dotless c = position_or_len_is is_dot (hex_text c) (length (hex_text c)) 0 (omega arith) (hex_text_no_dot c) (λ lt. absurd (omega arith))

-- the first dot stands behind the text of a code point
two_dots : (c : ℕ) (rest : List ℕ) → position_or_len is_dot (hex_text c ++ 46 ∷ rest) ≡ length (hex_text c)
two_dots c rest = position_or_len_is is_dot (hex_text c ++ 46 ∷ rest) (length (hex_text c)) 0 (omega (arith, length-append (hex_text c) (46 ∷ rest)))
    (λ k lt. rw (get_or_append_left (hex_text c) (46 ∷ rest) 0 k lt) (hex_text_no_dot c k lt))
    (λ lt. rw (get_or_at (hex_text c) 46 rest 0 (length (hex_text c)) refl) refl)

span_of-one : (c : ℕ) → c < 1114112 → span_of (hex_text c) ≡ Some (record { lo = c; hi = c })
unfolding span_of
span_of-one c h =
    let last : nat_lt (position_or_len is_dot (hex_text c)) (length (hex_text c)) ≡ false = le-ltb (position_or_len is_dot (hex_text c)) (length (hex_text c)) (omega (arith, one_dotless c)) in
    rw (last, hex_text_spells_its_point c h) refl

span_of-two : (a b : ℕ) → a ≤ b → b < 1114112 → span_of (hex_text a ++ 46 ∷ 46 ∷ hex_text b) ≡ Some (record { lo = a; hi = b })
unfolding span_of
span_of-two a b le h =
    let text : List ℕ = hex_text a ++ 46 ∷ 46 ∷ hex_text b in
    let first : position_or_len is_dot text ≡ length (hex_text a) = two_dots a (46 ∷ hex_text b) in
    let here : nat_lt (position_or_len is_dot text) (length text) ≡ true = lt-ltb (position_or_len is_dot text) (length text) (omega (arith, first, length-append (hex_text a) (46 ∷ 46 ∷ hex_text b))) in
    let before : before_first is_dot text ≡ hex_text a = take_at (hex_text a) (46 ∷ 46 ∷ hex_text b) (position_or_len is_dot text) (sym first) in
    let split : text ≡ (hex_text a ++ 46 ∷ []) ++ 46 ∷ hex_text b = sym (append_assoc (hex_text a) (46 ∷ []) (46 ∷ hex_text b)) in
    let long : length (hex_text a ++ 46 ∷ []) ≡ position_or_len is_dot text + 1 = omega (arith, first, length-append (hex_text a) (46 ∷ [])) in
    let behind : after_first is_dot text ≡ 46 ∷ hex_text b = ap (λ (bs : List ℕ). drop (position_or_len is_dot text + 1) bs) split ∙ drop_at (hex_text a ++ 46 ∷ []) (46 ∷ hex_text b) (position_or_len is_dot text + 1) long in
    let lo : point_of (before_first is_dot text) ≡ Some a = ap point_of before ∙ hex_text_spells_its_point a (omega arith) in
    let hi : behind_dot (after_first is_dot text) ≡ Some b = ap behind_dot behind ∙ hex_text_spells_its_point b h in
    let two : two_points (Some a) (Some b) ≡ Some (record { lo = a; hi = b }) = rw (le-leb a b le) refl in
    ap (λ t. cond t (two_points (point_of (before_first is_dot text)) (behind_dot (after_first is_dot text))) (one_point (point_of text))) here
    ∙ ap (λ o. two_points o (behind_dot (after_first is_dot text))) lo ∙ ap (λ o. two_points (Some a) o) hi ∙ two

pub span_text_spells_its_span : SpanTextSpellsItsSpan
unfolding span_text
span_text_spells_its_span s le h = elim (cases_eq s.lo s.hi) [
  | inl same ↦ rw (eq-eqb s.lo s.hi same) (span_of-one s.lo (omega arith) ∙ ap (λ (k : ℕ). let b : Bounds = record { lo = s.lo; hi = k } in Some b) same)
  | inr differ ↦ rw (ne_eqb s.lo s.hi differ) (ap span_of (append_assoc (hex_text s.lo) (46 ∷ 46 ∷ []) (hex_text s.hi)) ∙ span_of-two s.lo s.hi le h)
]
