-- Steps of a bracket set, one by one.
-- united_after     a step for each of some spans puts their code points in union with the members so far
-- several_are      the members of a bracket set of such steps
-- seen_more        the steps of an expression do what one step with its set does
-- seen_stops       where there is no such set, they stop as it does
-- parts_more       the set of a part is put together with the members so far, where its change is put behind those so far, and the steps
--                  of the part are the next of those that are left
-- parts_stop       where a part has no set, the bracket set has none for the same reason
use Rattle.std.proofs.Common.{rules, refl, ◌≡◌, ℕ, ◌+◌, ◌<◌, Bool, true, false, List, [], ◌∷◌, ◌++◌, Ok, Err, map, drop, length, get_or, sym, ap, subst, ◌∙◌}
use Rattle.std.specs.List.{flat_map, list_any}
use Rattle.std.proofs.Math.Bool.{or_assoc, or-false}
use Rattle.std.proofs.lemmas.List.{append-nil, drop_more}
use Rattle.std.proofs.lemmas.List.Concat.{flat_map-cons}
use Rattle.property_aliases.specs.declared.property.Test.{Test}
use Rattle.ucd_points.specs.Bounds.{Bounds, within}
use Rattle.unicodeset_eval.specs.Answers.{Stops}
use Rattle.unicodeset_eval.specs.Changes.{all_changed, changed, gathered}
use Rattle.unicodeset_eval.specs.Edges.{Edges, has, holds}
use Rattle.unicodeset_eval.specs.Members.{between, joined, nothing}
use Rattle.unicodeset_eval.specs.Questions.{Members, Names, fault, members, members_after, with_set}
use Rattle.unicodeset_eval.specs.declared.changes.Change.{Change}
use Rattle.unicodeset_eval.specs.declared.stop.EvalStop.{EvalStop}
use Rattle.unicodeset_eval.specs.declared.stop.EvalStop.TheVariants.{Fault, Memory}
use Rattle.unicodeset_parser.specs.Trees.{Tree, bracket, negated_by, Step, steps_of}
use Rattle.unicodeset_parser.specs.Views.{Seen, one, several, part_view, seen_steps, seen_tree, seen_view, signed, tree_view, united}
use Rattle.unicodeset_parser.specs.declared.expr.Expr.{the_lemmas}
use Rattle.unicodeset_parser.specs.declared.expr.Join.{Join}
use Rattle.unicodeset_parser.specs.declared.expr.Join.TheVariants.{Union, Meet, Minus}
use Rattle.unicodeset_parser.specs.declared.expr.Part.{Part}

abbrev covered : List Bounds → ℕ → Bool
covered bs c = list_any (within c) bs

united_after : (names : Names) (tests : Test → ℕ → Bool) (before : ℕ → Bool) (bs : List Bounds) (rest : List Step) →
    members_after names tests before (steps_of (map united bs ++ rest)) ≡ members_after names tests (joined Union before (covered bs)) (steps_of rest)
united_after names tests before [] rest =
    ap (λ (s : ℕ → Bool). members_after names tests s (steps_of rest)) (λ i c. sym (or-false (before c)) i)
united_after names tests before (b ∷ bs) rest =
    united_after names tests (joined Union before (between b)) bs rest
    ∙ ap (λ (s : ℕ → Bool). members_after names tests s (steps_of rest)) (λ i c. or_assoc (before c) (within c b) (covered bs c) i)

covered_are : (names : Names) (tests : Test → ℕ → Bool) (bs : List Bounds) → members names tests (bracket (steps_of (map united bs))) ≡ Ok (covered bs)
covered_are names tests bs =
    ap (λ (ps : List Step). members_after names tests nothing (steps_of ps)) (sym (append-nil (map united bs)))
    ∙ united_after names tests nothing bs []

pub several_are : (names : Names) (tests : Test → ℕ → Bool) (bs : List Bounds) (set : Edges) → ((c : ℕ) → has set c ≡ list_any (within c) bs) →
    members names tests (bracket (steps_of (map united bs))) ≡ Ok (has set)
several_are names tests bs set is = covered_are names tests bs ∙ ap (λ (s : ℕ → Bool). Ok s) (λ i c. sym (is c) i)

one_more : (names : Names) (tests : Test → ℕ → Bool) (before set : ℕ → Bool) (join : Join) (t : Tree) (rest : List Step) →
    members names tests t ≡ Ok set →
    members_after names tests before (steps_of (record { join = join; tree = t } ∷ rest)) ≡ members_after names tests (joined join before set) (steps_of rest)
one_more names tests before set join t rest made = ap (λ m. with_set m (λ s. members_after names tests (joined join before s) (steps_of rest))) made

seen_more : (names : Names) (tests : Test → ℕ → Bool) (before set : ℕ → Bool) (join : Join) (seen : Seen) (rest : List Step) →
    members names tests (seen_tree seen) ≡ Ok set →
    members_after names tests before (steps_of (seen_steps join seen ++ rest)) ≡ members_after names tests (joined join before set) (steps_of rest)
seen_more names tests before set Union (one t) rest made = one_more names tests before set Union t rest made
seen_more names tests before set Union (several bs) rest made =
    let both : Ok (covered bs) ≡ Ok set = sym (covered_are names tests bs) ∙ made in
    let same : covered bs ≡ set = cc in
    united_after names tests before bs rest
    ∙ ap (λ (s : ℕ → Bool). members_after names tests (joined Union before s) (steps_of rest)) same
seen_more names tests before set Meet seen rest made = one_more names tests before set Meet (seen_tree seen) rest made
seen_more names tests before set Minus seen rest made = one_more names tests before set Minus (seen_tree seen) rest made

-- the change does what a set does that is joined to what stands before it
abbrev pub IsStep : Change → Join → Edges → Type 0
IsStep change join set = (c : ℕ) (b : Bool) → changed c b change ≡ holds join b (has set c)

-- the changes do what others do, and a change behind them
abbrev pub IsGrown : List Change → List Change → Change → Type 0
IsGrown after before change = (c : ℕ) (b : Bool) → all_changed c b after ≡ changed c (all_changed c b before) change

gathered_more : (before after : List Change) (change : Change) (join : Join) (set : Edges) → IsStep change join set → IsGrown after before change → joined join (gathered before) (has set) ≡ gathered after
gathered_more before after change join set is grown = λ i c. (sym (is c (gathered before c)) ∙ sym (grown c false)) i

seen_stops : (names : Names) (tests : Test → ℕ → Bool) (before : ℕ → Bool) (join : Join) (seen : Seen) (rest : List Step) (stop : EvalStop) →
    Stops stop (members names tests (seen_tree seen)) → Stops stop (members_after names tests before (steps_of (seen_steps join seen ++ rest)))
seen_stops names tests before join seen rest Memory is = tt
seen_stops names tests before Union (one t) rest (Fault rule at) is = ap (λ m. with_set m (λ s. members_after names tests (joined Union before s) (steps_of rest))) is
seen_stops names tests before Union (several bs) rest (Fault rule at) is =
    let none : Ok (covered bs) ≡ Err (fault rule at) = sym (covered_are names tests bs) ∙ is in
    absurd (cc)
seen_stops names tests before Meet seen rest (Fault rule at) is = ap (λ m. with_set m (λ s. members_after names tests (joined Meet before s) (steps_of rest))) is
seen_stops names tests before Minus seen rest (Fault rule at) is = ap (λ m. with_set m (λ s. members_after names tests (joined Minus before s) (steps_of rest))) is

-- what a part stands for
abbrev part_seen : Part → Seen
part_seen part = signed part.negated (seen_view part.part)

signed_tree : (negated : Bool) (seen : Seen) → seen_tree (signed negated seen) ≡ negated_by negated (seen_tree seen)
signed_tree true seen = refl
signed_tree false seen = refl

-- the tree of a part
abbrev pub part_tree : Part → Tree
part_tree part = negated_by part.negated (tree_view part.part)

part_steps : (parts : List Part) (i : ℕ) (part : Part) → i < length parts → part ≡ get_or parts i part →
    flat_map part_view (drop i parts) ≡ seen_steps part.join (part_seen part) ++ flat_map part_view (drop (i + 1) parts)
part_steps parts i part lt here =
    let left : List Part = drop (i + 1) parts in
    let view : part_view part ≡ seen_steps part.join (part_seen part) = search (rules, the_lemmas) in
    let split : drop i parts ≡ part ∷ left = drop_more parts i part lt ∙ ap (λ (p : Part). p ∷ left) (sym here) in
    ap (flat_map part_view) split ∙ flat_map-cons part_view part left ∙ ap (λ (ps : List Step). ps ++ flat_map part_view left) view

pub parts_more : (names : Names) (tests : Test → ℕ → Bool) (before after : List Change) (change : Change) (set : Edges) (parts : List Part) (i : ℕ) (part : Part) (all : Members) →
    i < length parts → part ≡ get_or parts i part → members names tests (part_tree part) ≡ Ok (has set) → IsStep change part.join set → IsGrown after before change →
    members_after names tests (gathered before) (steps_of (flat_map part_view (drop i parts))) ≡ all →
    members_after names tests (gathered after) (steps_of (flat_map part_view (drop (i + 1) parts))) ≡ all
parts_more names tests before after change set parts i part all lt here made is grown kept =
    let rest : List Step = flat_map part_view (drop (i + 1) parts) in
    sym (ap (λ (ps : List Step). members_after names tests (gathered before) (steps_of ps)) (part_steps parts i part lt here)
    ∙ seen_more names tests (gathered before) (has set) part.join (part_seen part) rest (ap (members names tests) (signed_tree part.negated (seen_view part.part)) ∙ made)
    ∙ ap (λ (s : ℕ → Bool). members_after names tests s (steps_of rest)) (gathered_more before after change part.join set is grown))
    ∙ kept

pub parts_stop : (names : Names) (tests : Test → ℕ → Bool) (before : ℕ → Bool) (parts : List Part) (i : ℕ) (part : Part) (all : Members) (stop : EvalStop) →
    i < length parts → part ≡ get_or parts i part → Stops stop (members names tests (part_tree part)) →
    members_after names tests before (steps_of (flat_map part_view (drop i parts))) ≡ all → Stops stop all
parts_stop names tests before parts i part all stop lt here stops kept =
    let rest : List Step = flat_map part_view (drop (i + 1) parts) in
    let same : members_after names tests before (steps_of (seen_steps part.join (part_seen part) ++ rest)) ≡ all =
    ap (λ (ps : List Step). members_after names tests before (steps_of ps)) (sym (part_steps parts i part lt here)) ∙ kept in
    subst (Stops stop) same (seen_stops names tests before part.join (part_seen part) rest stop
    (subst (λ t. Stops stop (members names tests t)) (sym (signed_tree part.negated (seen_view part.part))) stops))
