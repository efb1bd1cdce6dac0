use Rattle.std.proofs.Common.{Some, None, subst}
use Rattle.part_list.specs.Finds.{FirstAt, LastAt}
use Rattle.release_rows.specs.Searches.{Sought, entry_passes}
use Rattle.release_rows.proofs.GapPlaces.{missing_group, missing_front, missing_only}
use Rattle.release_rows.proofs.edits.missing_gap.Goals as goal

pub returns-in-Some : goal.returns-in-Some
returns-in-Some c row is missing =
    let alike = subst (λ (s : Sought). LastAt (Some c.in-Some.spot) (entry_passes s) c.args.items.now.next) c.with.ensures c.in-Some.ensures in
    missing_group c.args.search.now row c.args.items.now.next c.contents_have_keys.ensures is c.requires.each missing c.in-Some.spot alike

pub returns-in-Some-first : goal.returns-in-Some-first
returns-in-Some-first c row is missing =
    let other = subst (λ (s : Sought). LastAt None (entry_passes s) c.args.items.now.next) c.with.ensures c.in_default.ensures in
    let first = subst (λ (s : Sought). FirstAt (Some c.in-Some-first.spot) (entry_passes s) c.args.items.now.next) c.with-2.ensures c.in-Some-first.ensures in
    missing_front c.args.search.now row c.args.items.now.next c.contents_have_keys.ensures is c.requires.each missing c.in-Some-first.spot other first

pub returns-in-None : goal.returns-in-None
returns-in-None c row is missing =
    let other = subst (λ (s : Sought). LastAt None (entry_passes s) c.args.items.now.next) c.with.ensures c.in_default.ensures in
    let none = subst (λ (s : Sought). FirstAt None (entry_passes s) c.args.items.now.next) c.with-2.ensures c.in-None.ensures in
    missing_only c.args.search.now row c.args.items.now.next c.contents_have_keys.ensures is c.requires.each missing other none
