-- Words, and what is written of them.
use Rattle.std.proofs.Common.{◌≡◌, ℕ, Bool, true, false, List, [], ◌∷◌, Some, refl, arith, filter}
use Rattle.std.specs.List.{All, list_all, join_with_byte, slice_split, onto_first}
use Rattle.std.proofs.lemmas.Bool.{ne_eqb, and_parts}
use Rattle.std.proofs.lemmas.List.Elements.{All-nil, All-cons, All-head, All-tail}
use Rattle.std.proofs.lemmas.Option.{cond_some}
use Rattle.ucd_points.specs.Lines.{is_blank, is_lf}
use Rattle.ucd_points.specs.Fields.{trim}
use Rattle.ucd_facts.specs.Mappings.{is_some_bytes, words, spaced_words, is_condition_byte, conditions_of}
use Rattle.source_rows.proofs.Lacks.{Lacks, lacks_all}
use Rattle.source_rows.proofs.Trims.{Firm, trim_firm, solid, firm_around}
use Rattle.source_rows.proofs.TextValues.{words_join}

-- ---- no part between separators holds one

pub part_lacks : (p : ℕ → Bool) (x : ℕ) (parts : List (List ℕ)) → p x ≡ false → All (Lacks p) parts → All (Lacks p) (onto_first x parts)
part_lacks p x [] e h = All-cons (Lacks p) (x ∷ []) [] (rw e refl) (All-nil (Lacks p))
part_lacks p x (part ∷ parts) e h = All-cons (Lacks p) (x ∷ part) parts (rw e (All-head (Lacks p) part parts h)) (All-tail (Lacks p) part parts h)

part_step : (p : ℕ → Bool) (x : ℕ) (xs : List ℕ) (b : Bool) → p x ≡ b → All (Lacks p) (slice_split p xs) → All (Lacks p) (slice_split p (x ∷ xs))
part_step p x xs true e h = rw e (All-cons (Lacks p) [] (slice_split p xs) refl h)
part_step p x xs false e h = rw e (part_lacks p x (slice_split p xs) e h)

pub parts_lack : (p : ℕ → Bool) (xs : List ℕ) → All (Lacks p) (slice_split p xs)
parts_lack p [] = All-cons (Lacks p) [] [] refl (All-nil (Lacks p))
parts_lack p (x ∷ xs) = part_step p x xs (p x) refl (parts_lack p xs)

-- ---- words

some_lack : (parts : List (List ℕ)) → All (Lacks is_blank) parts → All (Lacks is_blank) (filter is_some_bytes parts)
some_lack [] h = All-nil (Lacks is_blank)
some_lack ([] ∷ parts) h = some_lack parts (All-tail (Lacks is_blank) [] parts h)
some_lack ((b ∷ bs) ∷ parts) h = All-cons (Lacks is_blank) (b ∷ bs) (filter is_some_bytes parts) (All-head (Lacks is_blank) (b ∷ bs) parts h) (some_lack parts (All-tail (Lacks is_blank) (b ∷ bs) parts h))

pub words_lack : (bs : List ℕ) → All (Lacks is_blank) (words bs)
unfolding words
words_lack bs = some_lack (slice_split is_blank bs) (parts_lack is_blank bs)

all_some : (parts : List (List ℕ)) → list_all is_some_bytes (filter is_some_bytes parts) ≡ true
all_some [] = refl
all_some ([] ∷ parts) = all_some parts
all_some ((b ∷ bs) ∷ parts) = all_some parts

pub words_some : (bs : List ℕ) → list_all is_some_bytes (words bs) ≡ true
unfolding words
words_some bs = all_some (slice_split is_blank bs)

pub words_again : (bs : List ℕ) → words (spaced_words bs) ≡ words bs
words_again bs = words_join (words bs) (words_lack bs) (words_some bs)

word_firm : (w : List ℕ) → Lacks is_blank w → is_some_bytes w ≡ true → Firm w
word_firm [] h some = absurd cc
word_firm (b ∷ bs) h some = solid (b ∷ bs) (omega arith) h

joined_firm : (w : List ℕ) (ws : List (List ℕ)) → All (Lacks is_blank) (w ∷ ws) → list_all is_some_bytes (w ∷ ws) ≡ true → Firm (join_with_byte 32 (w ∷ ws))
joined_firm w [] h some = word_firm w (All-head (Lacks is_blank) w [] h) (and_parts (is_some_bytes w) true some).0
joined_firm w (v ∷ vs) h some =
    let k = and_parts (is_some_bytes w) (list_all is_some_bytes (v ∷ vs)) some in
    firm_around w 32 (join_with_byte 32 (v ∷ vs)) (word_firm w (All-head (Lacks is_blank) w (v ∷ vs) h) k.0) (joined_firm v vs (All-tail (Lacks is_blank) w (v ∷ vs) h) k.1)

joined_trimmed : (ws : List (List ℕ)) → All (Lacks is_blank) ws → list_all is_some_bytes ws ≡ true → trim (join_with_byte 32 ws) ≡ join_with_byte 32 ws
joined_trimmed [] h some = refl
joined_trimmed (w ∷ ws) h some = trim_firm (join_with_byte 32 (w ∷ ws)) (joined_firm w ws h some)

pub spaced_trimmed : (bs : List ℕ) → trim (spaced_words bs) ≡ spaced_words bs
spaced_trimmed bs = joined_trimmed (words bs) (words_lack bs) (words_some bs)

-- ---- conditions

pub conditions_are : (bs cs : List ℕ) → conditions_of bs ≡ Some cs → (list_all is_condition_byte bs ≡ true) × (spaced_words bs ≡ cs)
unfolding conditions_of
conditions_are bs cs h = cond_some (list_all is_condition_byte bs) (spaced_words bs) cs h

condition_no_feed : (b : ℕ) → is_condition_byte b ≡ true → is_lf b ≡ false
condition_no_feed b h = ne_eqb b 10 (λ e. not_feed b e h)
  where
    not_feed : (b : ℕ) → b ≡ 10 → is_condition_byte b ≡ true → ⊥
    not_feed b e h = let k = rw e at h in cc

pub conditions_no_feed : (bs : List ℕ) → list_all is_condition_byte bs ≡ true → Lacks is_lf bs
conditions_no_feed bs h = lacks_all is_lf is_condition_byte bs condition_no_feed h

pub no_conditions : conditions_of [] ≡ Some []
unfolding conditions_of words
no_conditions = refl
