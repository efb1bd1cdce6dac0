-- The names in a tree. UTS #35, "Unicode Sets".
-- Name                a name in a tree
--   alone name at         a property that is named alone; at is the place where it begins
--   with_value p v at     a property with a value; at is the place where it begins
-- name_place n        the place of a name
-- tree_names t        the names in a tree, in the order of the tree
-- step_names steps    the same of the steps of a bracket set
-- PlacesAscend        in the tree that a text is read as, each name begins behind the one before it
use Rattle.std.specs.Prelude.{◌≡◌, ℕ, List, [], ◌∷◌, ◌++◌, map, Ok}
use Rattle.std.specs.List.Sorted.{IsStrictlyIncreasing}
use Rattle.unicodeset_parser.specs.Parsed.{parsed}
use Rattle.unicodeset_parser.specs.Trees.{Tree, chars, named, valued, complement, bracket, Steps, no_steps, step_then}

pub data Name : Type 0 where
  alone : List ℕ → ℕ → Name
  with_value : List ℕ → List ℕ → ℕ → Name

abbrev pub name_place : Name → ℕ
name_place (alone name at) = at
name_place (with_value p v at) = at

abbrev mutual
  pub tree_names : Tree → List Name
  tree_names (chars b) = []
  tree_names (named name at) = alone name at ∷ []
  tree_names (valued p v at) = with_value p v at ∷ []
  tree_names (complement t) = tree_names t
  tree_names (bracket steps) = step_names steps

  pub step_names : Steps → List Name
  step_names no_steps = []
  step_names (step_then join t steps) = tree_names t ++ step_names steps

abbrev pub PlacesAscend : Type 0
PlacesAscend = (text : List ℕ) (t : Tree) → parsed text ≡ Ok t → IsStrictlyIncreasing (map name_place (tree_names t))
