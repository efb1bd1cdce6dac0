use Rattle.std.proofs.Common.{◌∙◌}
use Rattle.std.proofs.lemmas.Result.{on_ok_weaker}
use Rattle.part_list.proofs.FlatLemmas.{replaced}
use Rattle.part_list.proofs.part_list.PartList.replace.Goals as goal

pub returns-clause-ok : goal.returns-clause-ok
returns-clause-ok g c =
    on_ok_weaker c.edit.result (λ is. is ∙ rw c.one.ensures (replaced c.args.self.now.next c.args.spot.slot c.args.spot.at c.args.entry c.requires.part c.requires.within))
    c.edit.ensures.ok
