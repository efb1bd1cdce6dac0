-- The first word and the words behind it.
use Rattle.std.proofs.Common.{◌≡◌, ℕ, ◌+◌, ◌<◌, ◌≤◌, Bool, true, false, leb, ◌==◌, List, [], ◌∷◌, length, Option, Some, None, refl, sym, ◌∙◌, arith, inl, inr, filter, unwrap_or}
use Rattle.std.specs.List.{slice_split, position_or_len, before_first, after_first}
use Rattle.std.proofs.lemmas.Bool.{cases_lt, false≢true, eqb-true, le-leb, lt-leb}
use Rattle.std.proofs.lemmas.List.{take_all, drop_all}
use Rattle.std.proofs.lemmas.List.Splits.{slice_split_first}
use Rattle.source_rows.proofs.Found.{none_either}
use Rattle.ucd_points.specs.Lines.{is_blank}
use Rattle.ucd_points.specs.Fields.{point_of}
use Rattle.ucd_facts.specs.Mappings.{is_some_bytes, words, onto_points, all_points, mapping_of}
use Rattle.ucd_lines.specs.Cuts.{split_whole}
use Rattle.source_rows.specs.Mappings.{points_in}

-- a word that may be empty, and then it is none
abbrev pub onto_words : List ℕ → List (List ℕ) → List (List ℕ)
onto_words [] ws = ws
onto_words (b ∷ bs) ws = (b ∷ bs) ∷ ws

onto_is : (w : List ℕ) (parts : List (List ℕ)) → filter is_some_bytes (w ∷ parts) ≡ onto_words w (filter is_some_bytes parts)
onto_is [] parts = refl
onto_is (b ∷ bs) parts = refl

pub first_word_is : (text : List ℕ) → words text ≡ onto_words (before_first is_blank text) (words (after_first is_blank text))
unfolding words
first_word_is text =
    elim (cases_lt (position_or_len is_blank text) (length text)) [
      | inl lt ↦ rw (slice_split_first is_blank text 0 lt) (onto_is (before_first is_blank text) (slice_split is_blank (after_first is_blank text)))
      | inr le ↦ rw (split_whole is_blank text le, take_all (position_or_len is_blank text) text le, drop_all (position_or_len is_blank text + 1) text (omega arith)) (onto_is text ([] ∷ []))
    ]

pub no_words : words [] ≡ []
unfolding words
no_words = refl

-- ---- one word more, as a loop takes it

first_onto : (rest word next : List ℕ) → word ≡ before_first is_blank rest → next ≡ after_first is_blank rest → words rest ≡ onto_words word (words next)
first_onto rest word next ew en = rw (ew, en) (first_word_is rest)

empty_onto : (word : List ℕ) (ws : List (List ℕ)) → (length word == 0) ≡ true → onto_words word ws ≡ ws
empty_onto [] ws h = refl
empty_onto (b ∷ bs) ws h = absurd (omega (arith, eqb-true (length (b ∷ bs)) 0 h))

some_onto : (word : List ℕ) (ws : List (List ℕ)) → (length word == 0) ≡ false → onto_words word ws ≡ word ∷ ws
some_onto [] ws h = absurd (false≢true (sym h))
some_onto (b ∷ bs) ws h = refl

pub no_word : (rest word next : List ℕ) → word ≡ before_first is_blank rest → next ≡ after_first is_blank rest → (length word == 0) ≡ true → words rest ≡ words next
no_word rest word next ew en h = first_onto rest word next ew en ∙ empty_onto word (words next) h

pub one_word : (rest word next : List ℕ) → word ≡ before_first is_blank rest → next ≡ after_first is_blank rest → (length word == 0) ≡ false → words rest ≡ word ∷ words next
one_word rest word next ew en h = first_onto rest word next ew en ∙ some_onto word (words next) h

pub at_end : (rest : List ℕ) → (length rest == 0) ≡ true → words rest ≡ []
at_end [] h = no_words
at_end (b ∷ bs) h = absurd (omega (arith, eqb-true (length (b ∷ bs)) 0 h))

-- ---- mappings

-- whether there are code points
abbrev pub is_spelled : Option (List ℕ) → Bool
is_spelled (Some cs) = true
is_spelled None = false

spelled_onto : (c : ℕ) (rest : Option (List ℕ)) → is_spelled (onto_points (Some c) rest) ≡ is_spelled rest
spelled_onto c (Some cs) = refl
spelled_onto c None = refl

none_spelled : (o : Option (List ℕ)) → is_spelled o ≡ false → o ≡ None
none_spelled None h = refl
none_spelled (Some cs) h = absurd cc

pub some_spelled : (o : Option (List ℕ)) → is_spelled o ≡ true → o ≡ Some (unwrap_or o [])
some_spelled (Some cs) h = refl
some_spelled None h = absurd cc

pub none_mapping : (text : List ℕ) → is_spelled (all_points (words text)) ≡ false → mapping_of text ≡ None
unfolding mapping_of
none_mapping text h = rw (none_spelled (all_points (words text)) h) (none_either (leb (length (words text)) 64))

pub over_mapping : (text : List ℕ) → 64 < length (words text) → mapping_of text ≡ None
unfolding mapping_of
over_mapping text h = rw (lt-leb (length (words text)) 64 h) refl

pub fits_mapping : (text : List ℕ) → is_spelled (all_points (words text)) ≡ true → length (words text) ≤ 64 → mapping_of text ≡ Some (points_in text)
unfolding mapping_of
fits_mapping text h len = rw (le-leb (length (words text)) 64 len) (some_spelled (all_points (words text)) h)

pub spelled_first : (w : List ℕ) (ws : List (List ℕ)) (c : ℕ) → point_of w ≡ Some c → is_spelled (all_points (w ∷ ws)) ≡ is_spelled (all_points ws)
spelled_first w ws c h = rw h (spelled_onto c (all_points ws))

pub none_first : (w : List ℕ) (ws : List (List ℕ)) → point_of w ≡ None → is_spelled (all_points (w ∷ ws)) ≡ false
none_first w ws h = rw h refl

onto_count : (o : Option ℕ) (rest : Option (List ℕ)) (cs : List ℕ) (n : ℕ) → ((ds : List ℕ) → rest ≡ Some ds → length ds ≡ n) → onto_points o rest ≡ Some cs → length cs ≡ n + 1
onto_count (Some c) (Some ds) cs n h e = let same : c ∷ ds ≡ cs = cc in rw (← same) (omega (arith, h ds refl))
onto_count (Some c) None cs n h e = absurd cc
onto_count None rest cs n h e = absurd cc

pub points_count : (ws : List (List ℕ)) (cs : List ℕ) → all_points ws ≡ Some cs → length cs ≡ length ws
points_count [] cs h = let same : [] ≡ cs = cc in rw (← same) refl
points_count (w ∷ ws) cs h = omega (arith, onto_count (point_of w) (all_points ws) cs (length ws) (λ ds e. points_count ws ds e) h)
