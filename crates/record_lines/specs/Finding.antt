-- Lines of a text, found by their places.
-- Found                        the contents of the lines of a text, and how many of them were passed
-- IsBehind bytes passed left   these are the lines of the text behind the first ones that were passed
use Rattle.std.specs.Prelude.{◌≡◌, ℕ, ◌+◌, ◌≤◌, List, length, drop, map}
use Rattle.ucd_points.specs.Lines.{LineItem, contents}

pub record Found : Type 0 where
  pub lines : List (List ℕ)
  pub passed : ℕ

pub record IsBehind (bytes : List ℕ) (passed : ℕ) (left : List LineItem) : Type 0 where
  pub rest : map (λ (item : LineItem). item.content) left ≡ drop passed (contents bytes)
  pub count : passed + length left ≡ length (contents bytes)
  pub few : length (contents bytes) ≤ length bytes
