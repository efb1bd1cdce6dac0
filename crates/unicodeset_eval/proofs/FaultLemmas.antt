-- The first name that means nothing is told, and in the tree of a text it has the least place.
use Rattle.std.proofs.Common.{◌≡◌, ℕ, suc, ◌+◌, ◌<◌, ◌≤◌, Bool, List, [], ◌∷◌, ◌++◌, map, Option, Some, None, Ok, Err, refl, sym, ap, subst, arith, All, flat_map, slice_index, append-nil}
use Rattle.std.specs.List.Sorted.{IsStrictlyIncreasing}
use Rattle.std.proofs.lemmas.Grind.{flat_map-append}
use Rattle.std.proofs.lemmas.List.Elements.{All-nil, All-cons}
use Rattle.property_aliases.specs.declared.property.Property.{Property}
use Rattle.property_aliases.specs.declared.property.Test.{Test}
use Rattle.unicodeset_eval.specs.EdgeLaws.{Rises-from}
use Rattle.unicodeset_eval.specs.Edges.{Rises}
use Rattle.unicodeset_eval.specs.Faults.{faults, name_faults, unless_some, value_faults, Begins, Tells, IsLeast, FirstFaultIsTold, LeastFaultIsTold}
use Rattle.unicodeset_eval.specs.Members.{joined, nothing, outside}
use Rattle.unicodeset_eval.specs.Questions.{NameFault, fault, Names, names_of, Members, members, members_after, tested, value_members, with_set, spans_of}
use Rattle.unicodeset_eval.specs.declared.stop.NameRule.TheVariants.{S8, S9}
use Rattle.unicodeset_parser.specs.TreeNames.{Name, alone, with_value, name_place, tree_names, step_names, PlacesAscend}
use Rattle.unicodeset_parser.specs.Trees.{Tree, Steps, chars, named, valued, complement, bracket, no_steps, step_then}

-- ---- the first fault

tested_tells : (tests : Test → ℕ → Bool) (f : NameFault) (test : Option Test) → Tells (tested tests f test) (unless_some f test ++ [])
tested_tells tests f None = record { rest = []; is = refl }
tested_tells tests f (Some test) = refl

value_tells : (names : Names) (tests : Test → ℕ → Bool) (value : List ℕ) (at : ℕ) (p : Option Property) → Tells (value_members names tests value at p) (value_faults names value at p ++ [])
value_tells names tests value at None = record { rest = []; is = refl }
value_tells names tests value at (Some p) = tested_tells tests (fault S9 at) (names.value p value)

with_tells : (m : Members) (next : (ℕ → Bool) → Members) (fs gs : List NameFault) → Tells m fs → ((set : ℕ → Bool) → Tells (next set) gs) → Tells (with_set m next) (fs ++ gs)
with_tells (Ok set) next fs gs first behind = subst (λ (xs : List NameFault). Tells (next set) (xs ++ gs)) (sym first) (behind set)
with_tells (Err f) next fs gs first behind = record { rest = first.rest ++ gs; is = ap (λ (xs : List NameFault). xs ++ gs) first.is }

mutual
  tells : (names : Names) (tests : Test → ℕ → Bool) (t : Tree) → Tells (members names tests t) (faults names t)
  tells names tests (chars b) = refl
  tells names tests (named name at) = tested_tells tests (fault S8 at) (names.lone name)
  tells names tests (valued property value at) = value_tells names tests value at (names.property property)
  tells names tests (complement t) = subst (Tells (members names tests (complement t))) (append-nil (faults names t)) (with_tells (members names tests t) (λ set. Ok (outside set)) (faults names t) [] (tells names tests t) (λ set. refl))
  tells names tests (bracket steps) = steps_tell names tests nothing steps

  steps_tell : (names : Names) (tests : Test → ℕ → Bool) (before : ℕ → Bool) (steps : Steps) → Tells (members_after names tests before steps) (flat_map (name_faults names) (step_names steps))
  steps_tell names tests before no_steps = refl
  steps_tell names tests before (step_then join t steps) =
      subst (Tells (members_after names tests before (step_then join t steps))) (sym (flat_map-append (name_faults names) (tree_names t) (step_names steps)))
      (with_tells (members names tests t) (λ set. members_after names tests (joined join before set) steps) (faults names t) (flat_map (name_faults names) (step_names steps))
      (tells names tests t) (λ set. steps_tell names tests (joined join before set) steps))

pub first_fault : FirstFaultIsTold
first_fault names tests t = tells names tests t

-- ---- the least place

abbrev places : List NameFault → List ℕ
places fs = map (λ f. f.at) fs

unless_some_rises : (f : NameFault) (r : Option Test) (fs : List NameFault) (low : ℕ) → low ≤ f.at → Rises (f.at + 1) (places fs) → Rises low (places (unless_some f r ++ fs))
unless_some_rises f None fs low le rises = (le, rises)
unless_some_rises f (Some test) fs low le rises = Rises-from (places fs) (f.at + 1) low rises (omega arith)

value_rises : (names : Names) (value : List ℕ) (at : ℕ) (p : Option Property) (fs : List NameFault) (low : ℕ) → low ≤ at → Rises (at + 1) (places fs) → Rises low (places (value_faults names value at p ++ fs))
value_rises names value at None fs low le rises = (le, rises)
value_rises names value at (Some p) fs low le rises = unless_some_rises (fault S9 at) (names.value p value) fs low le rises

name_rises : (names : Names) (n : Name) (fs : List NameFault) (low : ℕ) → low ≤ name_place n → Rises (name_place n + 1) (places fs) → Rises low (places (name_faults names n ++ fs))
name_rises names (alone name at) fs low le rises = unless_some_rises (fault S8 at) (names.lone name) fs low le rises
name_rises names (with_value property value at) fs low le rises = value_rises names value at (names.property property) fs low le rises

faults_rise : (names : Names) (ns : List Name) (low : ℕ) → Rises low (map name_place ns) → Rises low (places (flat_map (name_faults names) ns))
faults_rise names [] low rises = tt
faults_rise names (n ∷ ns) low rises = name_rises names n (flat_map (name_faults names) ns) low rises.0 (faults_rise names ns (name_place n + 1) rises.1)

increasing_behind : (x : ℕ) (xs : List ℕ) → IsStrictlyIncreasing (x ∷ xs) → IsStrictlyIncreasing xs
increasing_behind x xs h k lt =
    let e : suc k + 1 ≡ suc (k + 1) = omega arith in
    let P : ℕ → Type 0 = λ j. slice_index xs k < slice_index (x ∷ xs) j in
    subst P e (h (suc k) (omega arith))

rises_behind : (x : ℕ) (xs : List ℕ) → IsStrictlyIncreasing (x ∷ xs) → Rises (x + 1) xs
rises_behind x [] h = tt
rises_behind x (y ∷ ys) h = (let lt : x < y = h 0 (omega arith) in omega arith, rises_behind y ys (increasing_behind x (y ∷ ys) h))

rises : (xs : List ℕ) → IsStrictlyIncreasing xs → Rises 0 xs
rises [] h = tt
rises (x ∷ xs) h = (omega arith, rises_behind x xs h)

all_behind : (low : ℕ) (fs : List NameFault) → Rises low (places fs) → All (λ g. low ≤ g.at) fs
all_behind low [] rises = All-nil (λ g. low ≤ g.at)
all_behind low (f ∷ fs) rises =
    let first : low ≤ f.at = rises.0 in
    All-cons (λ g. low ≤ g.at) f fs first (all_behind low fs (Rises-from (places fs) (f.at + 1) low rises.1 (omega arith)))

least_first : (f : NameFault) (fs : List NameFault) → Begins f fs → Rises 0 (places fs) → IsLeast f fs
least_first f fs begins rise =
    let front : Rises 0 (places (f ∷ begins.rest)) = subst (λ (xs : List NameFault). Rises 0 (places xs)) begins.is rise in
    let behind : All (λ (g : NameFault). f.at ≤ g.at) (f ∷ begins.rest) = all_behind f.at (f ∷ begins.rest) (omega arith, front.1) in
    let least : IsLeast f (f ∷ begins.rest) = record { among = (0, omega arith, refl); least = behind } in
    subst (IsLeast f) (sym begins.is) least

fault_is : (n : ℕ) (m : Members) (f : NameFault) (fs : List NameFault) → spans_of n m ≡ Err f → Tells m fs → Begins f fs
fault_is n (Ok set) f fs is told = absurd (cc)
fault_is n (Err g) f fs is told = let same : g ≡ f = cc in let P : NameFault → Type 0 = λ h. Begins h fs in subst P same told

pub least_fault : PlacesAscend → LeastFaultIsTold
least_fault ascend text t s tests n f read is =
    least_first f (faults (names_of s) t) (fault_is n (members (names_of s) tests t) f (faults (names_of s) t) is (tells (names_of s) tests t))
    (faults_rise (names_of s) (tree_names t) 0 (rises (map name_place (tree_names t)) (ascend text t read)))
