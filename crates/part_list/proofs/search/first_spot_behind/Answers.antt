use Rattle.std.proofs.Common.{◌≡◌, ◌+◌, ◌<◌, Some, None, drop, false, length, subst, arith, All}
use Rattle.std.proofs.lemmas.List.{length-map, take_all}
use Rattle.part_list.specs.Finds.{FirstIn}
use Rattle.part_list.specs.Parts.{flat}
use Rattle.part_list.specs.PartValues.{parts_next}
use Rattle.part_list.proofs.BehindLemmas.{before_none, found_behind, none_behind}
use Rattle.part_list.proofs.FindLemmas.{FirstAt-found, none_of-part}
use Rattle.part_list.proofs.ReachLemmas.{none_first}
use Rattle.part_list.proofs.search.first_spot_behind.Goals as goal

pub returns-in_default : goal.returns-in_default
returns-in_default g c =
    let p = g.S.Seek.passing c.args.seek.now in
    let all = flat (parts_next c.args.parts.now) in
    none_first p all (subst (All (λ x. p x ≡ false)) (take_all c.args.count all c.in_default.ensures) c.requires.before)

pub first_spot-requires-clause-before : goal.first_spot-requires-clause-before
first_spot-requires-clause-before g c =
    let p = g.S.Seek.passing c.args.seek.now in
    let ps = c.args.parts.now in
    let begin = c.in-Some.begin in
    let part = c.index-parts-slot.result in
    let long = length-map ps (λ part. part.next) in
    let inner = c.in-Some.ensures.0.part in
    let slot : begin.slot < length ps = omega arith in
    let front = before_none p ps begin.slot begin.at c.args.count part slot c.index-parts-slot.is c.in-Some.ensures.0.within c.in-Some.ensures.1 c.requires.before in
    let none : FirstIn None p (drop begin.at part.next) = rw (← c.next.ensures, ← c.entries_from.ensures) c.in-None.ensures in
    none_of-part p ps begin.slot part slot c.index-parts-slot.is front
    (none_behind p ps begin.slot begin.at c.args.count part slot c.index-parts-slot.is c.in-Some.ensures.0.within c.in-Some.ensures.1 c.requires.before none)

pub returns-in-Some-first_in : goal.returns-in-Some-first_in
returns-in-Some-first_in g c =
    let p = g.S.Seek.passing c.args.seek.now in
    let ps = c.args.parts.now in
    let begin = c.in-Some.begin in
    let part = c.index-parts-slot.result in
    let long = length-map ps (λ part. part.next) in
    let inner = c.in-Some.ensures.0.part in
    let slot : begin.slot < length ps = omega arith in
    let front = before_none p ps begin.slot begin.at c.args.count part slot c.index-parts-slot.is c.in-Some.ensures.0.within c.in-Some.ensures.1 c.requires.before in
    let found : FirstIn (Some c.in-Some-first_in.at) p (drop begin.at part.next) = rw (← c.next.ensures, ← c.entries_from.ensures) c.in-Some-first_in.ensures in
    FirstAt-found p ps begin.slot (begin.at + c.in-Some-first_in.at) part slot c.index-parts-slot.is front
    (found_behind p ps begin.slot begin.at c.args.count part slot c.index-parts-slot.is c.in-Some.ensures.0.within c.in-Some.ensures.1 c.requires.before c.in-Some-first_in.at found)
