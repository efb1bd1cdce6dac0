use Rattle.part_list.proofs.ReachLemmas.{skipped, none_last}
use Rattle.part_list.proofs.part.Part.last.Goals as goal

-- no entry within the reach passes
pub returns-then-skips : goal.returns-then-skips
returns-then-skips g c = rw (← c.self.view_is) (none_last _ _ (skipped (g.S.Seek.passing c.args.seek.now) c.self.inside.reach _ (c.skips.ensures c.if-skips.true) c.self.invariant.0))
