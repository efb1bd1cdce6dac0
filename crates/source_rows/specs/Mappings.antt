-- Mappings as they stand in their line.
-- points_in text            the code points that the words of the text spell; none where a word is no code point
-- HasPoints text len        the text has so many words, and each of them is a code point
use Rattle.std.specs.Prelude.{◌≡◌, ℕ, List, [], length, Some, unwrap_or}
use Rattle.ucd_facts.specs.Mappings.{words, all_points}

abbrev pub points_in : List ℕ → List ℕ
points_in text = unwrap_or (all_points (words text)) []

pub record HasPoints (text : List ℕ) (len : ℕ) : Type 0 where
  pub points : all_points (words text) ≡ Some (points_in text)
  pub count : length (words text) ≡ len
