use Rattle.std.proofs.Common.{subst, sym}
use Rattle.part_list.specs.Covers.{IsHeld}
use Rattle.part_list.specs.declared.cover.Known.{Known}
use Rattle.part_list.proofs.CoverLemmas.{held_in}
use Rattle.part_list.proofs.cover.Cover.put.Goals as goal

-- what was held stays so
pub returns-else-not-put-clause-grows : goal.returns-else-not-put-clause-grows
returns-else-not-put-clause-grows g c entry h =
    c.put.ensures.grows entry (subst (λ (known : Known g.row.T.Denot). IsHeld known entry) (sym c.deref_mut.ensures.value) (held_in c.args.self.now c.in-Some.known c.in-Some.is entry h))
