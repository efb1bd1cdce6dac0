use Rattle.std.proofs.Common.{◌<◌, length, sym, ◌∙◌, arith}
use Rattle.std.proofs.lemmas.List.{length-map}
use Rattle.part_list.specs.PartValues.{parts_next}
use Rattle.part_list.proofs.FlatLemmas.{get_or-flat, part_next}
use Rattle.part_list.proofs.part_list.PartList.get.Goals as goal

-- the entry of the part is that of the list
pub returns : goal.returns
returns g c =
    let requires = rw (← c.self.view_is) at c.requires in
    let long = length-map c.self.inside.parts.items (λ part. part.next) in
    let slot : c.args.spot.slot < length c.self.inside.parts.items = omega (arith, requires.part) in
    let part = part_next c.self.inside.parts.items c.args.spot.slot c.index.result.now slot c.index.ensures in
    rw (← c.self.view_is)
    (c.index-next-spot.is ∙ rw (c.next.ensures, ← part) (sym (get_or-flat (parts_next c.self.inside.parts.items) c.args.spot.slot c.args.spot.at _ requires.part requires.within)))
