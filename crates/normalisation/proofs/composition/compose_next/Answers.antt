use Rattle.std.proofs.Common.{◌≡◌, ◌+◌, ℕ, List, take, drop, length, get_or, set, Option, Some, None, sym, ap, ◌∙◌, arith}
use Rattle.std.proofs.lemmas.List.{get_or_read, length-take, drop-set-lt}
use Rattle.ucd_model.specs.CanonicalOrder.{class_of}
use Rattle.ucd_facts.specs.Composites.{pair_of}
use Rattle.ucd_model.specs.Composition.{composed_with}
use Rattle.normalisation.specs.SoFar.{joined, starter_behind}
use Rattle.normalisation.specs.PairLemmas.{pair_joins}
use Rattle.normalisation.proofs.JoiningLemmas.{starters_within, composed_joined, composed_alone, Describes-joined, Describes-alone, joined_joins, Joins-pair, Joins-within}
use Rattle.normalisation.proofs.composition.compose_next.Goals as goal

pub composite_with_starter-requires : goal.composite_with_starter-requires
composite_with_starter-requires g c =
    starters_within (class_of (g.W.FactView.facts_of c.args.view.now)) (take c.args.so_far.len c.args.s.now) c.args.so_far.starter (length c.args.s.now) c.requires.starter (omega (arith, length-take c.args.so_far.len c.args.s.now))

pub replace-requires : goal.replace-requires
replace-requires g c =
    let class : ℕ → ℕ = class_of (g.W.FactView.facts_of c.args.view.now) in
    let pair : ℕ → ℕ → Option ℕ = pair_of (g.W.FactView.facts_of c.args.view.now) in
    let s : List ℕ = c.args.s.now in
    let is : joined pair s c.args.so_far.starter c.index-as_slice-at.result c.class-class.result ≡ Some c.in-Some.join = sym c.composite_with_starter.ensures ∙ c.in-Some.is in
    let join = joined_joins pair s c.args.so_far.starter c.index-as_slice-at.result c.class-class.result c.in-Some.join is in
    let within = starters_within class (take c.args.so_far.len s) c.args.so_far.starter (length s) c.requires.starter (omega (arith, length-take c.args.so_far.len s)) in
    Joins-within pair s c.args.so_far.starter c.index-as_slice-at.result c.in-Some.join (length s) join within

pub returns-in-Some-clause-composed : goal.returns-in-Some-clause-composed
returns-in-Some-clause-composed g c =
    let class : ℕ → ℕ = class_of (g.W.FactView.facts_of c.args.view.now) in
    let pair : ℕ → ℕ → Option ℕ = pair_of (g.W.FactView.facts_of c.args.view.now) in
    let s : List ℕ = c.args.s.now in
    let y : ℕ = c.index-as_slice-at.result in
    let at : y ≡ get_or s c.args.at y = cc in
    let read : y ≡ get_or s c.args.at 0 = get_or_read s c.args.at y c.requires.within at 0 in
    let is : joined pair s c.args.so_far.starter y (class y) ≡ Some c.in-Some.join = ap (joined pair s c.args.so_far.starter y) (sym c.class-class.ensures) ∙ sym c.composite_with_starter.ensures ∙ c.in-Some.is in
    ap (take c.args.so_far.len) c.replace.ensures ∙ composed_joined class pair s c.args.so_far.len c.args.so_far.starter y c.in-Some.join c.requires.starter (omega (arith, c.requires.so_far, c.requires.within)) is
    ∙ ap (composed_with class pair (take c.args.so_far.len s)) read

pub returns-in-Some-clause-rest : goal.returns-in-Some-clause-rest
returns-in-Some-clause-rest g c =
    let class : ℕ → ℕ = class_of (g.W.FactView.facts_of c.args.view.now) in
    let pair : ℕ → ℕ → Option ℕ = pair_of (g.W.FactView.facts_of c.args.view.now) in
    let s : List ℕ = c.args.s.now in
    let is : joined pair s c.args.so_far.starter c.index-as_slice-at.result c.class-class.result ≡ Some c.in-Some.join = sym c.composite_with_starter.ensures ∙ c.in-Some.is in
    let join = joined_joins pair s c.args.so_far.starter c.index-as_slice-at.result c.class-class.result c.in-Some.join is in
    let within = starters_within class (take c.args.so_far.len s) c.args.so_far.starter c.args.so_far.len c.requires.starter (omega (arith, length-take c.args.so_far.len s)) in
    let lt = Joins-within pair s c.args.so_far.starter c.index-as_slice-at.result c.in-Some.join c.args.so_far.len join within in
    ap (drop (c.args.at + 1)) c.replace.ensures ∙ drop-set-lt (c.args.at + 1) s c.in-Some.join.at c.in-Some.join.point (omega (arith, c.requires.so_far))

pub returns-in-Some-clause-starter : goal.returns-in-Some-clause-starter
returns-in-Some-clause-starter g c =
    let class : ℕ → ℕ = class_of (g.W.FactView.facts_of c.args.view.now) in
    let pair : ℕ → ℕ → Option ℕ = pair_of (g.W.FactView.facts_of c.args.view.now) in
    let s : List ℕ = c.args.s.now in
    let y : ℕ = c.index-as_slice-at.result in
    let is : joined pair s c.args.so_far.starter y c.class-class.result ≡ Some c.in-Some.join = sym c.composite_with_starter.ensures ∙ c.in-Some.is in
    let join = joined_joins pair s c.args.so_far.starter y c.class-class.result c.in-Some.join is in
    let starts = pair_joins (g.W.FactView.facts_of c.args.view.now) (get_or s c.in-Some.join.at 0) y c.in-Some.join.point (Joins-pair pair s c.args.so_far.starter y c.in-Some.join join) in
    rw c.replace.ensures (Describes-joined class pair s c.args.so_far.len c.args.so_far.starter y c.in-Some.join join c.requires.starter starts.class)

pub returns-in-None-clause-composed : goal.returns-in-None-clause-composed
returns-in-None-clause-composed g c =
    let class : ℕ → ℕ = class_of (g.W.FactView.facts_of c.args.view.now) in
    let pair : ℕ → ℕ → Option ℕ = pair_of (g.W.FactView.facts_of c.args.view.now) in
    let s : List ℕ = c.args.s.now in
    let y : ℕ = c.index-as_slice-at.result in
    let at : y ≡ get_or s c.args.at y = cc in
    let read : y ≡ get_or s c.args.at 0 = get_or_read s c.args.at y c.requires.within at 0 in
    let is : joined pair s c.args.so_far.starter y (class y) ≡ None = ap (joined pair s c.args.so_far.starter y) (sym c.class-class.ensures) ∙ sym c.composite_with_starter.ensures ∙ c.in-None.is in
    ap (take (c.args.so_far.len + 1)) c.replace-in-None.ensures ∙ composed_alone class pair s c.args.so_far.len c.args.so_far.starter y c.requires.starter (omega (arith, c.requires.so_far, c.requires.within)) is
    ∙ ap (composed_with class pair (take c.args.so_far.len s)) read

pub returns-in-None-clause-starter : goal.returns-in-None-clause-starter
returns-in-None-clause-starter g c =
    let class : ℕ → ℕ = class_of (g.W.FactView.facts_of c.args.view.now) in
    let s : List ℕ = c.args.s.now in
    let y : ℕ = c.index-as_slice-at.result in
    let new : c.replace-in-None.new.self ≡ set s c.args.so_far.len y = c.replace-in-None.ensures in
    let starter : c.starter_behind.result ≡ starter_behind c.args.so_far.len c.args.so_far.starter (class y) = c.starter_behind.ensures ∙ ap (starter_behind c.args.so_far.len c.args.so_far.starter) c.class-class.ensures in
    rw (new, starter) (Describes-alone class s c.args.so_far.len c.args.so_far.starter y c.requires.starter (omega (arith, c.requires.so_far, c.requires.within)))
