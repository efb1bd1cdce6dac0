use Rattle.part_list.proofs.ReachLemmas.{none_first}
use Rattle.part_list.proofs.HintLemmas.{none_hinted}
use Rattle.part_list.proofs.part_list.PartList.first.Goals as goal

-- no entry has a tag that passes
pub returns-then-lacks : goal.returns-then-lacks
returns-then-lacks g c = rw (← c.self.view_is) (none_first _ _ (none_hinted (g.S.Seek.passing c.args.seek.now) c.self.inside.hints _ (c.lacks.ensures c.if-lacks.true) c.self.invariant.3))
