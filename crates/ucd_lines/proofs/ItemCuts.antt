-- The first line and the lines behind it.
use Rattle.std.proofs.Common.{◌≡◌, ◌≢◌, ℕ, ◌+◌, ◌<◌, ◌≤◌, ◌==◌, true, List, [], ◌∷◌, length, refl, ap, arith, inl, inr}
use Rattle.std.specs.List.{slice_split, position_or_len, before_first, after_first}
use Rattle.std.proofs.lemmas.Bool.{cases_lt, eqb-true}
use Rattle.std.proofs.lemmas.List.{take_all, drop_all, length-take}
use Rattle.std.proofs.lemmas.List.Splits.{slice_split_first, length-slice_split}
use Rattle.ucd_points.specs.Lines.{is_lf, unended, ended_item, items_of_pieces, items_of}
use Rattle.ucd_lines.specs.Cuts.{split_whole}

pub no_item : (text : List ℕ) → (length text == 0) ≡ true → items_of text ≡ []
unfolding items_of
no_item [] h = refl
no_item (b ∷ bs) h = absurd (omega (arith, eqb-true (length (b ∷ bs)) 0 h))

pub empty_text : items_of [] ≡ []
empty_text = no_item [] refl

pub ended : (piece : List ℕ) (pieces : List (List ℕ)) → 0 < length pieces → items_of_pieces (piece ∷ pieces) ≡ ended_item piece ∷ items_of_pieces pieces
ended piece [] h = absurd (omega arith)
ended [] (next ∷ pieces) h = refl
ended (b ∷ bs) (next ∷ pieces) h = refl

first_item_ended : (text : List ℕ) → position_or_len is_lf text < length text → items_of text ≡ ended_item (before_first is_lf text) ∷ items_of (after_first is_lf text)
unfolding items_of
first_item_ended text h =
    rw (slice_split_first is_lf text 0 h) (ended (before_first is_lf text) (slice_split is_lf (after_first is_lf text)) (omega (arith, length-slice_split is_lf (after_first is_lf text))))

not_empty : (text : List ℕ) → 0 < length text → items_of_pieces (text ∷ []) ≡ record { content = text; ending = unended } ∷ []
not_empty [] h = absurd (omega arith)
not_empty (b ∷ bs) h = refl

pub first_item_last : (text : List ℕ) → 0 < length text → length (before_first is_lf text) ≡ length text → items_of text ≡ record { content = before_first is_lf text; ending = unended } ∷ items_of (after_first is_lf text)
unfolding items_of
first_item_last text some h =
    let none : length text ≤ position_or_len is_lf text = omega (arith, length-take (position_or_len is_lf text) text) in
    rw (take_all (position_or_len is_lf text) text none, drop_all (position_or_len is_lf text + 1) text (omega arith), split_whole is_lf text none) (not_empty text some)

pub first_item_more : (text : List ℕ) → length (before_first is_lf text) ≢ length text → items_of text ≡ ended_item (before_first is_lf text) ∷ items_of (after_first is_lf text)
first_item_more text h =
    elim (cases_lt (position_or_len is_lf text) (length text)) [
      | inl lt ↦ first_item_ended text lt
      | inr le ↦ absurd (h (ap length (take_all (position_or_len is_lf text) text le)))
    ]
