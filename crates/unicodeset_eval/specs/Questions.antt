-- What a UnicodeSet means. UTS #35, "Unicode Sets".
-- NameFault                 a name without meaning: the rule, and the place in the text where its property begins
-- Names                     what names mean: that of a property, that of a value of a property, and a name that stands alone
-- names_of s                what they mean by the rows of a release
-- tested holds fault test   the numbers of which a test holds; the fault where there is no test
-- value_members .. p        the same for a value of property p: S8 where there is no property, S9 where it has no such value
-- with_set made next        what comes next with the set that was made; its fault where none was
-- members names holds t     the members of a tree, where `holds` says of which numbers a test holds; or the first name without meaning.
--                           Names are taken in the order of the text, so that one has the least place
-- members_after .. before steps   the same for the steps of a bracket set from left to right; `before` has the members so far
-- answer s holds n t        the members below n as maximal ascending spans, or the first name without meaning
use Rattle.std.specs.Prelude.{ℕ, Bool, List, Option, Some, None, Result, Ok, Err}
use Rattle.property_aliases.specs.Properties.{property_of}
use Rattle.property_aliases.specs.Sources.{Sources}
use Rattle.property_aliases.specs.Values.{value_of, lone_of}
use Rattle.property_aliases.specs.declared.property.Property.{Property}
use Rattle.property_aliases.specs.declared.property.Test.{Test}
use Rattle.ucd_points.specs.Bounds.{Bounds}
use Rattle.unicodeset_eval.specs.Members.{between, joined, member_spans, nothing, outside}
use Rattle.unicodeset_eval.specs.declared.stop.NameRule.{NameRule}
use Rattle.unicodeset_eval.specs.declared.stop.NameRule.TheVariants.{S8, S9}
use Rattle.unicodeset_parser.specs.Trees.{Tree, Steps, chars, named, valued, complement, bracket, no_steps, step_then}

pub record NameFault : Type 0 where
  pub rule : NameRule
  pub at : ℕ

abbrev pub fault : NameRule → ℕ → NameFault
fault rule at = record { rule = rule; at = at }

pub record Names : Type 0 where
  pub property : List ℕ → Option Property
  pub value : Property → List ℕ → Option Test
  pub lone : List ℕ → Option Test

abbrev pub names_of : Sources → Names
names_of s = record { property = property_of s; value = value_of s; lone = lone_of s }

abbrev pub Members : Type 0
Members = Result (ℕ → Bool) NameFault

abbrev pub tested : (Test → ℕ → Bool) → NameFault → Option Test → Members
tested holds f None = Err f
tested holds f (Some test) = Ok (holds test)

abbrev pub value_members : Names → (Test → ℕ → Bool) → List ℕ → ℕ → Option Property → Members
value_members names holds value at None = Err (fault S8 at)
value_members names holds value at (Some p) = tested holds (fault S9 at) (names.value p value)

abbrev pub with_set : Members → ((ℕ → Bool) → Members) → Members
with_set (Ok set) next = next set
with_set (Err f) next = Err f

abbrev mutual
  pub members : Names → (Test → ℕ → Bool) → Tree → Members
  members names holds (chars b) = Ok (between b)
  members names holds (named name at) = tested holds (fault S8 at) (names.lone name)
  members names holds (valued property value at) = value_members names holds value at (names.property property)
  members names holds (complement t) = with_set (members names holds t) (λ set. Ok (outside set))
  members names holds (bracket steps) = members_after names holds nothing steps

  pub members_after : Names → (Test → ℕ → Bool) → (ℕ → Bool) → Steps → Members
  members_after names holds before no_steps = Ok before
  members_after names holds before (step_then join t steps) = with_set (members names holds t) (λ set. members_after names holds (joined join before set) steps)

abbrev pub spans_of : ℕ → Members → Result (List Bounds) NameFault
spans_of n (Ok set) = Ok (member_spans n set)
spans_of n (Err f) = Err f

abbrev pub answer : Sources → (Test → ℕ → Bool) → ℕ → Tree → Result (List Bounds) NameFault
answer s holds n t = spans_of n (members (names_of s) holds t)
