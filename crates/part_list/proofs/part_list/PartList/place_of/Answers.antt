use Rattle.std.proofs.Common.{◌<◌, ◌^◌, length, arith}
use Rattle.part_list.specs.Parts.{flat}
use Rattle.part_list.specs.PartValues.{parts_next}
use Rattle.part_list.specs.SpotLaws.{place-lt}
use Rattle.part_list.proofs.part_list.PartList.place_of.Goals as goal

pub place_of-requires-clause-few : goal.place_of-requires-clause-few
place_of-requires-clause-few g c =
    let requires = rw (← c.self.view_is) at c.requires in
    let parts = parts_next c.self.inside.parts.items in
    let few : length (flat parts) < 2 ^ 64 = requires.few in
    let lt = place-lt parts c.args.spot requires.entry in
    rw c.deref.ensures.value (omega arith)
