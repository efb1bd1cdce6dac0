-- Mappings: code points separated by white space. UAX #44, section 4.2.
-- is_some_bytes bs      there is a byte
-- words bs              what stands between white space, in order
-- SpellsMapping bs cs   the words of bs spell the code points cs, one by one, at most 64; no words spell the empty mapping. The
--                       longest mapping of a real file has 18: FDFA in UnicodeData.txt
-- onto_points c cs      the code point before the others; None where one of the two is
-- all_points ws         the code points of all words; None where one word is no code point
-- mapping_of bs         those code points; None where the words spell none, and for more than 64 words
-- is_word_byte b        a byte from 21 to 7E
-- is_condition_byte b   such a byte, space or tab
-- spaced_words bs       the words with one space between them; no bytes for no words
-- conditions_of bs      the words with one space between them, where each has bytes from 21 to 7E alone; no bytes where there are
--                       none; else None
use Rattle.std.specs.Prelude.{◌≡◌, ℕ, ◌≤◌, Bool, true, false, ◌&&◌, ◌||◌, List, [], ◌∷◌, length, map, filter, Option, Some, None, nat_le, if◌then◌else◌}
use Rattle.std.specs.List.{slice_split, join_with_byte, list_all}
use Rattle.ucd_points.specs.Lines.{is_blank}
use Rattle.ucd_points.specs.Fields.{point_of}

abbrev pub is_some_bytes : List ℕ → Bool
is_some_bytes [] = false
is_some_bytes (b ∷ bs) = true

unfoldable pub words : List ℕ → List (List ℕ)
words bs = filter is_some_bytes (slice_split is_blank bs)

-- ---- mappings

abbrev pub SpellsMapping : List ℕ → List ℕ → Type 0
SpellsMapping bs cs = (map point_of (words bs) ≡ map (λ c. Some c) cs) × (length cs ≤ 64)

abbrev pub onto_points : Option ℕ → Option (List ℕ) → Option (List ℕ)
onto_points (Some c) (Some cs) = Some (c ∷ cs)
onto_points _ _ = None

abbrev pub all_points : List (List ℕ) → Option (List ℕ)
all_points [] = Some []
all_points (w ∷ ws) = onto_points (point_of w) (all_points ws)

unfoldable pub mapping_of : List ℕ → Option (List ℕ)
mapping_of bs = if nat_le (length (words bs)) 64 then all_points (words bs) else None

-- ---- conditions

abbrev pub is_word_byte : ℕ → Bool
is_word_byte b = nat_le 33 b && nat_le b 126

abbrev pub is_condition_byte : ℕ → Bool
is_condition_byte b = is_blank b || is_word_byte b

abbrev pub spaced_words : List ℕ → List ℕ
spaced_words bs = join_with_byte 32 (words bs)

unfoldable pub conditions_of : List ℕ → Option (List ℕ)
conditions_of bs = if list_all is_condition_byte bs then Some (spaced_words bs) else None
