use Rattle.std.proofs.Common.{arith}
use Rattle.part_list.specs.SpotLaws.{place-lt}
use Rattle.release_rows.proofs.edits.gap_place.Goals as goal

pub overflow_add-result : goal.overflow_add-result
overflow_add-result c =
    let entry = (rw c.in-Behind.is at c.requires.gap.1) in
    let lt = place-lt c.args.items.now.next c.in-Behind.spot entry.0 in
    let same = c.place_of.ensures in
    let few = c.requires.few in
    omega arith
