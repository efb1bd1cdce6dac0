-- The tag of conditions: that of the first word is that of all words with one space between them.
use Rattle.std.proofs.Common.{◌≡◌, ℕ, ◌-◌, ◌==◌, Bool, true, false, List, [], ◌∷◌, ◌++◌, length, map, take, zero, suc, refl, sym, ap, ◌∙◌, subst, one-add, arith, filter, append-nil}
use Rattle.std.specs.List.{join_with_byte, slice_split, suffix_len}
use Rattle.std.proofs.lemmas.Bool.Decides.{nat_tests}
use Rattle.ucd_points.specs.Fields.{field, fields, is_semicolon, trim, trim_start, uncommented}
use Rattle.ucd_points.specs.Lines.{is_blank}
use Rattle.ucd_facts.specs.Mappings.{is_some_bytes, spaced_words, words}
use Rattle.source_rows.specs.Keys.{condition_names, SourceFile}
use Rattle.release_rows.specs.Tags.{behind_first, digit, first_digit, is_inner, number}

-- ---- what follows a word does not count

-- no bytes, or bytes that begin with one below `0`
abbrev Low : List ℕ → Type 0
Low [] = Unit {0}
Low (b ∷ bs) = (digit b ≡ 0) × (is_inner b ≡ false)

-- y is w, and what stands behind it is low
abbrev Ends : List ℕ → List ℕ → Type 0
Ends w y = (t : List ℕ) × Low t × (y ≡ w ++ t)

first_low : (t : List ℕ) → Low t → first_digit t ≡ 0
first_low [] low = refl
first_low (b ∷ bs) low = low.0

behind_low : (t : List ℕ) → Low t → behind_first t ≡ []
behind_low [] low = refl
behind_low (b ∷ bs) low = rw low.1 refl

first_kept : (w t : List ℕ) → Low t → first_digit (w ++ t) ≡ first_digit w
first_kept [] t low = first_low t low
first_kept (b ∷ w) t low = refl

inner_kept : (b : ℕ) (w t : List ℕ) (inner : Bool) → is_inner b ≡ inner → Low t → Ends (behind_first (b ∷ w)) (behind_first (b ∷ (w ++ t)))
inner_kept b w t true is low = rw is (t, low, refl)
inner_kept b w t false is low = rw is ([], tt, refl)

behind_kept : (w t : List ℕ) → Low t → Ends (behind_first w) (behind_first (w ++ t))
behind_kept [] t low = ([], tt, behind_low t low)
behind_kept (b ∷ w) t low = inner_kept b w t (is_inner b) refl low

first_of : (w y : List ℕ) → Ends w y → first_digit y ≡ first_digit w
first_of w y e = ap first_digit e.2 ∙ first_kept w e.0 e.1

behind_of : (w y : List ℕ) → Ends w y → Ends (behind_first w) (behind_first y)
behind_of w y e = subst (λ (x : List ℕ). Ends (behind_first w) (behind_first x)) (sym e.2) (behind_kept w e.0 e.1)

number_of : (w y : List ℕ) → Ends w y → number y ≡ number w
number_of w y e =
    let second = behind_of w y e in
    let third = behind_of _ _ second in
    let fourth = behind_of _ _ third in
    let fifth = behind_of _ _ fourth in
    omega (arith, first_of w y e, first_of _ _ second, first_of _ _ third, first_of _ _ fourth, first_of _ _ fifth)

-- ---- the first word

blank_low : (b : ℕ) (bs : List ℕ) → is_blank b ≡ true → Low (b ∷ bs)
blank_low b bs h = (grind (arith, nat_tests), grind (arith, nat_tests))

record First (xs : List ℕ) : Type 0 where
  word : List ℕ
  others : List (List ℕ)
  cut : slice_split is_blank xs ≡ word ∷ others
  ends : Ends word xs

cut_at : (x : ℕ) (xs : List ℕ) (blank : Bool) → is_blank x ≡ blank → First xs → First (x ∷ xs)
cut_at x xs true is f = record { word = []; others = slice_split is_blank xs; cut = rw is refl; ends = (x ∷ xs, blank_low x xs is, refl) }
cut_at x xs false is f = record { word = x ∷ f.word; others = f.others; cut = rw (is, f.cut) refl; ends = (f.ends.0, f.ends.1, ap (λ (ys : List ℕ). x ∷ ys) f.ends.2) }

first_word : (xs : List ℕ) → First xs
first_word [] = record { word = []; others = []; cut = refl; ends = ([], tt, refl) }
first_word (x ∷ xs) = cut_at x xs (is_blank x) refl (first_word xs)

joined_ends : (w : List ℕ) (ws : List (List ℕ)) → Ends w (join_with_byte 32 (w ∷ ws))
joined_ends w [] = ([], tt, sym (append-nil w))
joined_ends w (v ∷ vs) = (32 ∷ join_with_byte 32 (v ∷ vs), (refl, refl), refl)

-- ---- a text without white space at its front

abbrev IsFront : List ℕ → Type 0
IsFront [] = Unit {0}
IsFront (b ∷ bs) = is_blank b ≡ false

spaced_ends : (b : ℕ) (bs : List ℕ) → is_blank b ≡ false → (f : First bs) → Ends (b ∷ f.word) (spaced_words (b ∷ bs))
unfolding words
spaced_ends b bs front f = rw (front, f.cut) (joined_ends (b ∷ f.word) (filter is_some_bytes f.others))

front_number : (x : List ℕ) → IsFront x → number x ≡ number (spaced_words x)
unfolding words
front_number [] front = refl
front_number (b ∷ bs) front =
    let f = first_word bs in
    let whole : Ends (b ∷ f.word) (b ∷ bs) = (f.ends.0, f.ends.1, ap (λ (ys : List ℕ). b ∷ ys) f.ends.2) in
    number_of (b ∷ f.word) (b ∷ bs) whole ∙ sym (number_of (b ∷ f.word) (spaced_words (b ∷ bs)) (spaced_ends b bs front f))

-- ---- a trimmed text has none

front_taken : (n : ℕ) (xs : List ℕ) → IsFront xs → IsFront (take n xs)
front_taken zero xs front = tt
front_taken (suc n) [] front = tt
front_taken (suc n) (x ∷ xs) front = front

front_step : (x : ℕ) (xs : List ℕ) (blank : Bool) → is_blank x ≡ blank → IsFront (trim_start xs) → IsFront (trim_start (x ∷ xs))
front_step x xs true is h = rw (is, one-add) h
front_step x xs false is h = rw is is

front_start : (xs : List ℕ) → IsFront (trim_start xs)
front_start [] = tt
front_start (x ∷ xs) = front_step x xs (is_blank x) refl (front_start xs)

front_trimmed : (xs : List ℕ) → IsFront (trim xs)
front_trimmed xs = front_taken (length (trim_start xs) - suffix_len is_blank (trim_start xs)) (trim_start xs) (front_start xs)

front_at : (part : List ℕ) (others : List (List ℕ)) (n : ℕ) (here : Bool) → (n == 0) ≡ here → IsFront (field others (n - 1)) → IsFront (field (trim part ∷ others) n)
front_at part others n true is later = rw is (front_trimmed part)
front_at part others n false is later = rw is later

front_field : (parts : List (List ℕ)) (n : ℕ) → IsFront (field (map trim parts) n)
front_field [] n = tt
front_field (part ∷ parts) n = front_at part (map trim parts) n (n == 0) refl (front_field parts (n - 1))

named : (bs : List ℕ) → field (condition_names bs) 0 ≡ bs
named [] = refl
named (b ∷ bs) = refl

-- the tag by the conditions as they stand in a field, and by them as a name
pub conditions_number : (file : SourceFile) (content : List ℕ) (n : ℕ) → number (field (fields file content) n) ≡ number (field (condition_names (spaced_words (field (fields file content) n))) 0)
unfolding fields
conditions_number file content n =
    let text = field (fields file content) n in
    front_number text (front_field (slice_split is_semicolon (uncommented file content)) n) ∙ ap number (sym (named (spaced_words text)))
