-- Words with one space between them, one after the other.
use Rattle.std.proofs.Common.{◌≡◌, ℕ, List, [], ◌∷◌, ◌++◌, refl, ◌∙◌, append_assoc, filter}
use Rattle.std.specs.List.{join_with_byte, slice_split}
use Rattle.ucd_points.specs.Lines.{is_blank}
use Rattle.source_rows.specs.Fields.{with_word}
use Rattle.ucd_facts.specs.Mappings.{is_some_bytes, words, spaced_words}

-- what stands so far, and the words behind it, each behind a space but where nothing stands yet
abbrev pub behind_words : List ℕ → List (List ℕ) → List ℕ
behind_words done [] = done
behind_words [] (w ∷ ws) = behind_words w ws
behind_words (b ∷ bs) (w ∷ ws) = behind_words ((b ∷ bs) ++ 32 ∷ w) ws

joined : (a w : List ℕ) (ws : List (List ℕ)) → join_with_byte 32 ((a ++ 32 ∷ w) ∷ ws) ≡ join_with_byte 32 (a ∷ w ∷ ws)
joined a w [] = refl
joined a w (v ∷ vs) = append_assoc a (32 ∷ w) (32 ∷ join_with_byte 32 (v ∷ vs))

some_behind : (b : ℕ) (bs : List ℕ) (ws : List (List ℕ)) → behind_words (b ∷ bs) ws ≡ join_with_byte 32 ((b ∷ bs) ∷ ws)
some_behind b bs [] = refl
some_behind b bs (w ∷ ws) = some_behind b (bs ++ 32 ∷ w) ws ∙ joined (b ∷ bs) w ws

joined_words : (parts : List (List ℕ)) → behind_words [] (filter is_some_bytes parts) ≡ join_with_byte 32 (filter is_some_bytes parts)
joined_words [] = refl
joined_words ([] ∷ parts) = joined_words parts
joined_words ((b ∷ bs) ∷ parts) = some_behind b bs (filter is_some_bytes parts)

pub all_behind : (text : List ℕ) → behind_words [] (words text) ≡ spaced_words text
unfolding words
all_behind text = joined_words (slice_split is_blank text)

pub words_onto : (done word : List ℕ) (ws : List (List ℕ)) → behind_words done (word ∷ ws) ≡ behind_words (with_word done word) ws
words_onto [] word ws = refl
words_onto (b ∷ bs) word ws = refl
