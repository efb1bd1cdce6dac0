-- One step of composition, in place.
use Rattle.std.proofs.Common.{◌≡◌, ℕ, zero, suc, ◌+◌, ◌<◌, ◌≤◌, Bool, true, false, cond, ◌&&◌, ◌==◌, nat_lt, List, [], ◌∷◌, ◌++◌, length, take, drop, get_or, set, Option, Some, None, refl, sym, ap, ◌∙◌, subst, arith}
use Rattle.std.specs.Option.{option_map, ForSome}
use Rattle.std.proofs.lemmas.Bool.Decides.{nat_tests}
use Rattle.std.proofs.lemmas.List.{length-append, get_or_at, get_or-take, set_at, length-take, take_more_set, at_drop_more, at_drop_all}
use Rattle.std.proofs.lemmas.List.Folds.{list_all-append}
use Rattle.std.proofs.Math.Bool.{and-true}
use Rattle.ucd_model.specs.Composition.{Split, where_open, last_starter, with_point, with_composite, composed_with, compose_onto}
use Rattle.normalisation.specs.declared.starter.Starter.{Starter}
use Rattle.normalisation.specs.declared.composition.Join.{Join}
use Rattle.normalisation.specs.SoFar.{passes, highest_with, raised, starter_behind, placed_at, joined, with_joined, Describes}
use Rattle.normalisation.specs.StarterLemmas.{CutsAt, push_after, last_starter_cuts, last_starter_at, last_starter_push}

take_set : (n : ℕ) (xs : List ℕ) (i v : ℕ) → take n (set xs i v) ≡ set (take n xs) i v
take_set zero [] i v = refl
take_set zero (x ∷ xs) zero v = refl
take_set zero (x ∷ xs) (suc i) v = refl
take_set (suc n) [] i v = refl
take_set (suc n) (x ∷ xs) zero v = refl
take_set (suc n) (x ∷ xs) (suc i) v = ap (λ zs. x ∷ zs) (take_set n xs i v)

-- ---- the kept starter of a list that grows

passes_with : (highest : Option ℕ) (m k : ℕ) → passes highest k && (nat_lt m k && true) ≡ nat_lt (highest_with highest m) k
passes_with (Some h) m k = grind (arith, nat_tests, and-true)
passes_with None m k = and-true (nat_lt m k)

raised_describes : (class : ℕ → ℕ) (y : ℕ) (cut : Option Split) (starter : Option (Starter ℕ)) → Describes class cut starter → Describes class (option_map (push_after y) cut) (raised starter (class y))
raised_describes class y (Some cut) (Some starter) d = (d.0, λ z. list_all-append (λ x. nat_lt (class x) (class z)) cut.after (y ∷ []) ∙ ap (λ b. b && (nat_lt (class y) (class z) && true)) (d.1 z) ∙ passes_with starter.highest (class y) (class z))
raised_describes class y None None d = tt
raised_describes class y (Some cut) None d = absurd d
raised_describes class y None (Some starter) d = absurd d

behind_describes : (class : ℕ → ℕ) (xs : List ℕ) (y : ℕ) (starter : Option (Starter ℕ)) → Describes class (last_starter class xs) starter → (t : Bool) → (class y == 0) ≡ t
    → Describes class (last_starter class (xs ++ y ∷ [])) (cond t (Some (record { which = length xs; highest = None })) (raised starter (class y)))
behind_describes class xs y starter d true t =
    let starts : class y ≡ 0 = grind (arith, nat_tests) in
    rw (last_starter_at class xs [] y starts refl) (refl, λ z. refl)
behind_describes class xs y starter d false t =
    let other : ¬ (class y ≡ 0) = grind (arith, nat_tests) in
    rw (last_starter_push class xs y other) (raised_describes class y (last_starter class xs) starter d)

pub Describes-behind : (class : ℕ → ℕ) (xs : List ℕ) (y : ℕ) (starter : Option (Starter ℕ)) → Describes class (last_starter class xs) starter → Describes class (last_starter class (xs ++ y ∷ [])) (starter_behind (length xs) starter (class y))
Describes-behind class xs y starter d = behind_describes class xs y starter d (class y == 0) refl

-- the kept starter stands within the list
cut_within : (class : ℕ → ℕ) (xs : List ℕ) (cut : Option Split) (starter : Starter ℕ) → CutsAt class xs cut → Describes class cut (Some starter) → starter.which < length xs
cut_within class xs (Some cut) starter cuts d = omega (arith, ap length cuts.0, length-append cut.before (cut.starter ∷ cut.after), d.0)
cut_within class xs None starter cuts d = absurd d

pub starter_within : (class : ℕ → ℕ) (xs : List ℕ) (starter : Starter ℕ) → Describes class (last_starter class xs) (Some starter) → starter.which < length xs
starter_within class xs starter d = cut_within class xs (last_starter class xs) starter (last_starter_cuts class xs) d

-- a composite in its place
cut_replaced : (class : ℕ → ℕ) (xs : List ℕ) (cut : Option Split) (starter : Starter ℕ) (q : ℕ) → CutsAt class xs cut → Describes class cut (Some starter) → class q ≡ 0 → Describes class (last_starter class (set xs starter.which q)) (Some starter)
cut_replaced class xs (Some cut) starter q cuts d starts =
    let is : set xs starter.which q ≡ cut.before ++ q ∷ cut.after = ap (λ zs. set zs starter.which q) cuts.0 ∙ set_at cut.before cut.starter cut.after q starter.which (sym d.0) in
    rw (is, last_starter_at class cut.before cut.after q starts cuts.2) d
cut_replaced class xs None starter q cuts d starts = absurd d

pub Describes-replaced : (class : ℕ → ℕ) (xs : List ℕ) (starter : Starter ℕ) (q : ℕ) → Describes class (last_starter class xs) (Some starter) → class q ≡ 0 → Describes class (last_starter class (set xs starter.which q)) (Some starter)
Describes-replaced class xs starter q d starts = cut_replaced class xs (last_starter class xs) starter q (last_starter_cuts class xs) d starts

-- ---- the step is that of the definition

composite_is : (xs : List ℕ) (y : ℕ) (cut : Split) (at : ℕ) (pair : Option ℕ) → xs ≡ cut.before ++ cut.starter ∷ cut.after → at ≡ length cut.before → with_composite xs y cut pair ≡ with_joined xs y (placed_at at pair)
composite_is xs y cut at (Some q) is place = sym (ap (λ zs. set zs at q) is ∙ set_at cut.before cut.starter cut.after q at (sym place))
composite_is xs y cut at None is place = refl

point_is : (pair : ℕ → ℕ → Option ℕ) (xs : List ℕ) (y : ℕ) (cut : Split) (at : ℕ) → xs ≡ cut.before ++ cut.starter ∷ cut.after → at ≡ length cut.before → (t : Bool)
    → with_point pair xs y (cond t (Some cut) None) ≡ with_joined xs y (cond t (placed_at at (pair (get_or xs at 0) y)) None)
point_is pair xs y cut at is place false = refl
point_is pair xs y cut at is place true =
    let read : get_or xs at 0 ≡ cut.starter = ap (λ zs. get_or zs at 0) is ∙ get_or_at cut.before cut.starter cut.after 0 at (sym place) in
    rw read (composite_is xs y cut at (pair cut.starter y) is place)

cut_is : (class : ℕ → ℕ) (pair : ℕ → ℕ → Option ℕ) (xs : List ℕ) (y : ℕ) (cut : Option Split) (starter : Option (Starter ℕ)) → CutsAt class xs cut → Describes class cut starter
    → with_point pair xs y (where_open class y cut) ≡ with_joined xs y (joined pair xs starter y (class y))
cut_is class pair xs y (Some cut) (Some starter) cuts d = ap (λ t. with_point pair xs y (cond t (Some cut) None)) (d.1 y) ∙ point_is pair xs y cut starter.which cuts.0 d.0 (passes starter.highest (class y))
cut_is class pair xs y None None cuts d = refl
cut_is class pair xs y (Some cut) None cuts d = absurd d
cut_is class pair xs y None (Some starter) cuts d = absurd d

pub composed_is : (class : ℕ → ℕ) (pair : ℕ → ℕ → Option ℕ) (xs : List ℕ) (y : ℕ) (starter : Option (Starter ℕ)) → Describes class (last_starter class xs) starter
    → composed_with class pair xs y ≡ with_joined xs y (joined pair xs starter y (class y))
composed_is class pair xs y starter d = cut_is class pair xs y (last_starter class xs) starter (last_starter_cuts class xs) d

-- ---- over the whole list, of which the front is composed

pub starters_within : (class : ℕ → ℕ) (xs : List ℕ) (starter : Option (Starter ℕ)) (n : ℕ) → Describes class (last_starter class xs) starter → length xs ≤ n → ForSome starter (λ t. t.which < n)
starters_within class xs (Some starter) n d le = λ t e. let same : starter ≡ t = cc in let lt = starter_within class xs starter d in omega (arith, ap (λ (s : Starter ℕ). s.which) same)
starters_within class xs None n d le = λ t e. cc

pub joined_front : (pair : ℕ → ℕ → Option ℕ) (s : List ℕ) (n : ℕ) (starter : Option (Starter ℕ)) (y k : ℕ) → ForSome starter (λ t. t.which < n) → joined pair (take n s) starter y k ≡ joined pair s starter y k
joined_front pair s n (Some starter) y k within = rw (get_or-take n s starter.which 0 (within starter refl)) refl
joined_front pair s n None y k within = refl

-- what a join tells: the kept starter is there, and the two have a composite
abbrev pub Joins : (ℕ → ℕ → Option ℕ) → List ℕ → Option (Starter ℕ) → ℕ → Join → Type 0
Joins pair s (Some starter) y join = (starter.which ≡ join.at) × (pair (get_or s join.at 0) y ≡ Some join.point)
Joins pair s None y join = ⊥

placed_joins : (at : ℕ) (r : Option ℕ) (join : Join) → placed_at at r ≡ Some join → (at ≡ join.at) × (r ≡ Some join.point)
placed_joins at (Some p) join e =
    let same : record { at = at; point = p } ≡ join = cc in
    (ap (λ (j : Join). j.at) same, ap (λ (j : Join). Some j.point) same)
placed_joins at None join e = cc

if_joins : (t : Bool) (at : ℕ) (r : Option ℕ) (join : Join) → cond t (placed_at at r) None ≡ Some join → (at ≡ join.at) × (r ≡ Some join.point)
if_joins true at r join e = placed_joins at r join e
if_joins false at r join e = cc

pub joined_joins : (pair : ℕ → ℕ → Option ℕ) (s : List ℕ) (starter : Option (Starter ℕ)) (y k : ℕ) (join : Join) → joined pair s starter y k ≡ Some join → Joins pair s starter y join
joined_joins pair s (Some starter) y k join e =
    let parts = if_joins (passes starter.highest k) starter.which (pair (get_or s starter.which 0) y) join e in
    (parts.0, rw (sym parts.0) parts.1)
joined_joins pair s None y k join e = cc

pub Joins-pair : (pair : ℕ → ℕ → Option ℕ) (s : List ℕ) (starter : Option (Starter ℕ)) (y : ℕ) (join : Join) → Joins pair s starter y join → pair (get_or s join.at 0) y ≡ Some join.point
Joins-pair pair s (Some starter) y join joins = joins.1
Joins-pair pair s None y join joins = absurd joins

pub Joins-within : (pair : ℕ → ℕ → Option ℕ) (s : List ℕ) (starter : Option (Starter ℕ)) (y : ℕ) (join : Join) (n : ℕ) → Joins pair s starter y join → ForSome starter (λ t. t.which < n) → join.at < n
Joins-within pair s (Some starter) y join n joins within = let lt = within starter refl in omega (arith, joins.0)
Joins-within pair s None y join n joins within = absurd joins

-- the front, once the composite is in its place
pub Describes-joined : (class : ℕ → ℕ) (pair : ℕ → ℕ → Option ℕ) (s : List ℕ) (n : ℕ) (starter : Option (Starter ℕ)) (y : ℕ) (join : Join) → Joins pair s starter y join → Describes class (last_starter class (take n s)) starter → class join.point ≡ 0
    → Describes class (last_starter class (take n (set s join.at join.point))) starter
Describes-joined class pair s n (Some starter) y join joins d starts = rw (take_set n s join.at join.point, sym joins.0) (Describes-replaced class (take n s) starter join.point d starts)
Describes-joined class pair s n None y join joins d starts = absurd joins

pub composed_joined : (class : ℕ → ℕ) (pair : ℕ → ℕ → Option ℕ) (s : List ℕ) (n : ℕ) (starter : Option (Starter ℕ)) (y : ℕ) (join : Join) → Describes class (last_starter class (take n s)) starter → n ≤ length s
    → joined pair s starter y (class y) ≡ Some join → take n (set s join.at join.point) ≡ composed_with class pair (take n s) y
composed_joined class pair s n starter y join d le e =
    let within = starters_within class (take n s) starter n d (omega (arith, length-take n s)) in
    let front = joined_front pair s n starter y (class y) within in
    take_set n s join.at join.point ∙ sym (composed_is class pair (take n s) y starter d ∙ ap (with_joined (take n s) y) (front ∙ e))

pub composed_alone : (class : ℕ → ℕ) (pair : ℕ → ℕ → Option ℕ) (s : List ℕ) (n : ℕ) (starter : Option (Starter ℕ)) (y : ℕ) → Describes class (last_starter class (take n s)) starter → n < length s
    → joined pair s starter y (class y) ≡ None → take (n + 1) (set s n y) ≡ composed_with class pair (take n s) y
composed_alone class pair s n starter y d lt e =
    let within = starters_within class (take n s) starter n d (omega (arith, length-take n s)) in
    let front = joined_front pair s n starter y (class y) within in
    take_more_set s n y lt ∙ sym (composed_is class pair (take n s) y starter d ∙ ap (with_joined (take n s) y) (front ∙ e))

pub Describes-alone : (class : ℕ → ℕ) (s : List ℕ) (n : ℕ) (starter : Option (Starter ℕ)) (y : ℕ) → Describes class (last_starter class (take n s)) starter → n < length s
    → Describes class (last_starter class (take (n + 1) (set s n y))) (starter_behind n starter (class y))
Describes-alone class s n starter y d lt =
    let len : length (take n s) ≡ n = omega (arith, length-take n s) in
    rw (take_more_set s n y lt) (subst (λ (m : ℕ). Describes class (last_starter class (take n s ++ y ∷ [])) (starter_behind m starter (class y))) len (Describes-behind class (take n s) y starter d))

-- ---- the pass

pub compose_more : (class : ℕ → ℕ) (pair : ℕ → ℕ → Option ℕ) (s s' done done' : List ℕ) (at : ℕ) → at < length s → done' ≡ composed_with class pair done (get_or s at 0) → drop (at + 1) s' ≡ drop (at + 1) s
    → compose_onto class pair done' (drop (at + 1) s') ≡ compose_onto class pair done (drop at s)
compose_more class pair s s' done done' at lt is rest = rw (is, rest) (sym (at_drop_more (compose_onto class pair done) s at 0 lt))

pub compose_end : (class : ℕ → ℕ) (pair : ℕ → ℕ → Option ℕ) (s done : List ℕ) (at : ℕ) → length s ≤ at → compose_onto class pair done (drop at s) ≡ done
compose_end class pair s done at le = at_drop_all (compose_onto class pair done) s at le
