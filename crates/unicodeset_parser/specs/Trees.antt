-- Trees of UnicodeSets. UTS #35, "Unicode Sets".
-- Tree                  what a text stands for
--   chars b               the characters of a span
--   named n at            a property that is named alone; at is the place where it begins
--   valued p v at         a property with a value; at is the place where it begins
--   complement t          all code points but the members of t
--   bracket steps         the steps of a bracket set from left to right, beginning with no members
-- Steps                 such steps: none left, or how a tree is joined to what stands before it, and the steps behind it
-- Step                  one step: how it is joined, and its tree
-- steps_of ps           a list of steps as Steps
-- bracket_of negated ps   the bracket set of a list of steps, or its complement
use Rattle.std.specs.Prelude.{ℕ, Bool, true, false, List, [], ◌∷◌}
use Rattle.ucd_points.specs.Bounds.{Bounds}
use Rattle.unicodeset_parser.specs.declared.expr.Join.{Join}

mutual
  pub data Tree : Type 0 where
    chars : Bounds → Tree
    named : List ℕ → ℕ → Tree
    valued : List ℕ → List ℕ → ℕ → Tree
    complement : Tree → Tree
    bracket : Steps → Tree

  pub data Steps : Type 0 where
    no_steps : Steps
    step_then : Join → Tree → Steps → Steps

pub record Step : Type 0 where
  pub join : Join
  pub tree : Tree

abbrev pub steps_of : List Step → Steps
steps_of [] = no_steps
steps_of (p ∷ ps) = step_then p.join p.tree (steps_of ps)

abbrev pub negated_by : Bool → Tree → Tree
negated_by true t = complement t
negated_by false t = t

abbrev pub bracket_of : Bool → List Step → Tree
bracket_of negated ps = negated_by negated (bracket (steps_of ps))
