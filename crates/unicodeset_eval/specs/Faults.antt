-- The names of a tree that mean nothing.
-- unless_some f x          no fault where there is something; else this one
-- value_faults .. p        the fault of a value of property p, if any
-- name_faults names n      the fault of a name, if any
-- faults names t           the faults of the names of a tree, in its order
-- Tells m fs               a set where there is no fault, and else the first fault
-- FirstFaultIsTold         there are members exactly where each name means something; else the first name that means nothing is
--                          told, whatever the tests say
-- IsLeast f fs             the fault is one of these, and none of them stands before it
-- LeastFaultIsTold         in the tree of a text, the fault that is told is that of the name without meaning with the least place
use Rattle.std.specs.Prelude.{◌≡◌, ◌≤◌, ℕ, Bool, List, [], ◌∷◌, Option, Some, None, Ok, Err, All, Contains, flat_map}
use Rattle.property_aliases.specs.Sources.{Sources}
use Rattle.property_aliases.specs.declared.property.Property.{Property}
use Rattle.property_aliases.specs.declared.property.Test.{Test}
use Rattle.unicodeset_eval.specs.Questions.{NameFault, fault, Names, names_of, Members, members, answer}
use Rattle.unicodeset_eval.specs.declared.stop.NameRule.TheVariants.{S8, S9}
use Rattle.unicodeset_parser.specs.Parsed.{parsed}
use Rattle.unicodeset_parser.specs.TreeNames.{Name, alone, with_value, tree_names}
use Rattle.unicodeset_parser.specs.Trees.{Tree}

abbrev pub unless_some : NameFault → Option Test → List NameFault
unless_some f None = f ∷ []
unless_some f (Some test) = []

abbrev pub value_faults : Names → List ℕ → ℕ → Option Property → List NameFault
value_faults names value at None = fault S8 at ∷ []
value_faults names value at (Some p) = unless_some (fault S9 at) (names.value p value)

abbrev pub name_faults : Names → Name → List NameFault
name_faults names (alone name at) = unless_some (fault S8 at) (names.lone name)
name_faults names (with_value property value at) = value_faults names value at (names.property property)

abbrev pub faults : Names → Tree → List NameFault
faults names t = flat_map (name_faults names) (tree_names t)

pub record Begins (f : NameFault) (fs : List NameFault) : Type 0 where
  pub rest : List NameFault
  pub is : fs ≡ f ∷ rest

abbrev pub Tells : Members → List NameFault → Type 0
Tells (Ok set) fs = fs ≡ []
Tells (Err f) fs = Begins f fs

abbrev pub FirstFaultIsTold : Type 0
FirstFaultIsTold = (names : Names) (tests : Test → ℕ → Bool) (t : Tree) → Tells (members names tests t) (faults names t)

pub record IsLeast (f : NameFault) (fs : List NameFault) : Type 0 where
  pub among : Contains fs f
  pub least : All (λ g. f.at ≤ g.at) fs

abbrev pub LeastFaultIsTold : Type 0
LeastFaultIsTold = (text : List ℕ) (t : Tree) (s : Sources) (tests : Test → ℕ → Bool) (n : ℕ) (f : NameFault) → parsed text ≡ Ok t → answer s tests n t ≡ Err f → IsLeast f (faults (names_of s) t)
