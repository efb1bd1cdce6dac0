-- The hash of conditions, as a loop over their bytes makes it.
use Rattle.std.proofs.Common.{◌≡◌, ℕ, ◌+◌, ◌*◌, ◌%◌, Bool, true, false, List, [], ◌∷◌, ◌++◌, if◌then◌else◌, refl, sym, ap, ◌∙◌, codes, filter, append-nil}
use Rattle.std.specs.List.{join_with_byte, onto_first, slice_split}
use Rattle.ucd_points.specs.Lines.{is_blank}
use Rattle.ucd_facts.specs.Mappings.{is_some_bytes, spaced_words, words}
use Rattle.source_rows.specs.Keys.{condition_names}
use Rattle.release_rows.specs.Noted.{hash_on, names_hash}

-- ---- what is left of a text: its words behind a space each, and a `;`; nothing where no word begins

abbrev pub left_of : Bool → Bool → List ℕ → List ℕ
left_of begun gap [] = if begun then codes ";" else []
left_of begun gap (b ∷ bs) = if is_blank b then left_of begun begun bs else (if gap then 32 ∷ b ∷ left_of true false bs else b ∷ left_of true false bs)

-- the hash of that
abbrev pub hashed_on : Bool → Bool → ℕ → List ℕ → ℕ
hashed_on begun gap hash bs = hash_on hash (left_of begun gap bs)

-- ---- all bytes

abbrev behind : List (List ℕ) → List ℕ
behind [] = []
behind (w ∷ ws) = 32 ∷ (w ++ behind ws)

-- the parts of what is left, of which the first one is the end of a word if there is no gap
abbrev within : Bool → List (List ℕ) → List ℕ
within true ws = behind (filter is_some_bytes ws)
within false [] = []
within false (w ∷ ws) = w ++ behind (filter is_some_bytes ws)

onto_word : (b : ℕ) (parts : List (List ℕ)) → b ∷ (within false parts ++ codes ";") ≡ within false (onto_first b parts) ++ codes ";"
onto_word b [] = refl
onto_word b (w ∷ ws) = refl

onto_gap : (b : ℕ) (parts : List (List ℕ)) → 32 ∷ b ∷ (within false parts ++ codes ";") ≡ within true (onto_first b parts) ++ codes ";"
onto_gap b [] = refl
onto_gap b (w ∷ ws) = refl

begun_step : (gap : Bool) (b : ℕ) (bs : List ℕ) (blank : Bool) → is_blank b ≡ blank → ((g : Bool) → left_of true g bs ≡ within g (slice_split is_blank bs) ++ codes ";") → left_of true gap (b ∷ bs) ≡ within gap (slice_split is_blank (b ∷ bs)) ++ codes ";"
begun_step true b bs true is rest = rw is (rest true)
begun_step false b bs true is rest = rw is (rest true)
begun_step true b bs false is rest = rw is (ap (λ (xs : List ℕ). 32 ∷ b ∷ xs) (rest false) ∙ onto_gap b (slice_split is_blank bs))
begun_step false b bs false is rest = rw is (ap (λ (xs : List ℕ). b ∷ xs) (rest false) ∙ onto_word b (slice_split is_blank bs))

begun_left : (gap : Bool) (bs : List ℕ) → left_of true gap bs ≡ within gap (slice_split is_blank bs) ++ codes ";"
begun_left true [] = refl
begun_left false [] = refl
begun_left gap (b ∷ bs) = begun_step gap b bs (is_blank b) refl (λ g. begun_left g bs)

-- a text with a `;` behind it; nothing where there is none
abbrev closed : List ℕ → List ℕ
closed [] = []
closed (b ∷ bs) = (b ∷ bs) ++ codes ";"

joined : (w : List ℕ) (ws : List (List ℕ)) → join_with_byte 32 (w ∷ ws) ≡ w ++ behind ws
joined w [] = sym (append-nil w)
joined w (v ∷ vs) = ap (λ (xs : List ℕ). w ++ 32 ∷ xs) (joined v vs)

closed_onto : (b : ℕ) (parts : List (List ℕ)) → b ∷ (within false parts ++ codes ";") ≡ closed (join_with_byte 32 (filter is_some_bytes (onto_first b parts)))
closed_onto b [] = refl
closed_onto b (w ∷ ws) = sym (ap closed (joined (b ∷ w) (filter is_some_bytes ws)))

all_step : (b : ℕ) (bs : List ℕ) (blank : Bool) → is_blank b ≡ blank → left_of false false bs ≡ closed (spaced_words bs) → left_of false false (b ∷ bs) ≡ closed (spaced_words (b ∷ bs))
unfolding words
all_step b bs true is rest = rw is rest
all_step b bs false is rest = rw is (ap (λ (xs : List ℕ). b ∷ xs) (begun_left false bs) ∙ closed_onto b (slice_split is_blank bs))

all_left : (bs : List ℕ) → left_of false false bs ≡ closed (spaced_words bs)
unfolding words
all_left [] = refl
all_left (b ∷ bs) = all_step b bs (is_blank b) refl (all_left bs)

-- ---- as a name

hash_append : (hash : ℕ) (xs ys : List ℕ) → hash_on hash (xs ++ ys) ≡ hash_on (hash_on hash xs) ys
hash_append hash [] ys = refl
hash_append hash (x ∷ xs) ys = hash_append ((hash * 2654435761 + x + 1) % 4294967291) xs ys

named : (hash : ℕ) (xs : List ℕ) → hash_on hash (closed xs) ≡ names_hash hash (condition_names xs)
named hash [] = refl
named hash (x ∷ xs) = hash_append hash (x ∷ xs) (codes ";")

pub all_hashed : (hash : ℕ) (text : List ℕ) → hashed_on false false hash text ≡ names_hash hash (condition_names (spaced_words text))
all_hashed hash text = ap (hash_on hash) (all_left text) ∙ named hash (spaced_words text)
