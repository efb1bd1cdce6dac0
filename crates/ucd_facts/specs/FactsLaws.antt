-- The laws of the facts of code points.
-- IsLV l v c           c is the Hangul syllable of the leading consonant l and the vowel v. The Unicode Standard, section 3.12
-- IsLVT lv t c         c is the syllable of the syllable lv, which has no ending, and the ending t
-- ImageIsSame          an image is Same exactly where a code point is mapped to itself alone
-- ImageIsOther         and else it holds what the code point is mapped to
-- HangulComposesBack   the mapping of a Hangul syllable composes to the syllable: it is its consonant and vowel, or the syllable
--                      without an ending and its ending. The Unicode Standard, section 3.12
-- NumbersPastPointsAreUnassigned          a number past the code points has the facts of a code point without a row
use Rattle.std.specs.Prelude.{◌≡◌, ℕ, ◌+◌, ◌-◌, ◌*◌, ◌%◌, ◌<◌, ◌≤◌, List, [], ◌∷◌, ◌↔◌, ◌⊎◌, true}
use Rattle.ucd_points.specs.Limits.{point_count}
use Rattle.ucd_facts.specs.Facts.{Sources, facts, unassigned, image, is_hangul_syllable, hangul_mapping, Same, To}

abbrev pub ImageIsSame : Type 0
ImageIsSame = (c : ℕ) (points : List ℕ) → (image c points ≡ Same) ↔ (points ≡ c ∷ [])

abbrev pub ImageIsOther : Type 0
ImageIsOther = (c : ℕ) (points : List ℕ) → ¬ (points ≡ c ∷ []) → image c points ≡ To points

-- 19 leading consonants from 1100 on, and 21 vowels from 1161 on
pub record IsLV (l v c : ℕ) : Type 0 where
  pub consonant_from : 0x1100 ≤ l
  pub consonant_below : l < 0x1100 + 19
  pub vowel_from : 0x1161 ≤ v
  pub vowel_below : v < 0x1161 + 21
  pub is : c ≡ 0xAC00 + ((l - 0x1100) * 21 + (v - 0x1161)) * 28

-- 27 endings from 11A8 on
pub record IsLVT (lv t c : ℕ) : Type 0 where
  pub syllable : (lv - 0xAC00) % 28 ≡ 0
  pub syllable_from : 0xAC00 ≤ lv
  pub ending_from : 0x11A8 ≤ t
  pub ending_below : t < 0x11A8 + 27
  pub is : c ≡ lv + (t - 0x11A7)

abbrev pub HangulComposesBack : Type 0
HangulComposesBack = (c : ℕ) → is_hangul_syllable c ≡ true
    → ((l : ℕ) × (v : ℕ) × (hangul_mapping c ≡ l ∷ v ∷ []) × IsLV l v c) ⊎ ((lv : ℕ) × (t : ℕ) × (hangul_mapping c ≡ lv ∷ t ∷ []) × IsLVT lv t c)

abbrev pub NumbersPastPointsAreUnassigned : Type 0
NumbersPastPointsAreUnassigned = (rows : Sources) (c : ℕ) → point_count ≤ c → facts rows c ≡ unassigned c
