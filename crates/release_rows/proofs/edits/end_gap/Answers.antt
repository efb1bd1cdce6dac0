use Rattle.std.proofs.Common.{Some, None, subst}
use Rattle.part_list.specs.Finds.{LastAt}
use Rattle.release_rows.specs.Searches.{Sought, entry_passes}
use Rattle.release_rows.proofs.GapPlaces.{end_behind, end_only}
use Rattle.release_rows.proofs.edits.end_gap.Goals as goal

pub returns-in-Some : goal.returns-in-Some
returns-in-Some c = end_behind c.args.items.now.next c.in-Some.spot (subst (λ (s : Sought). LastAt (Some c.in-Some.spot) (entry_passes s) c.args.items.now.next) c.with.ensures c.in-Some.ensures)

pub returns-in-None : goal.returns-in-None
returns-in-None c = end_only c.args.items.now.next (subst (λ (s : Sought). LastAt None (entry_passes s) c.args.items.now.next) c.with.ensures c.in-None.ensures)
