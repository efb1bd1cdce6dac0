use Rattle.std.proofs.Common.{◌∙◌, arith}
use Rattle.normalisation.specs.FormLemmas.{expansions_more}
use Rattle.normalisation.proofs.forms.expansions.Goals as goal

pub members-preserved : goal.members-preserved
members-preserved g c =
    expansions_more (g.W.FactView.facts_of c.args.view.now) c.args.compat c.args.s.now c.members.c-index c.c-item.result c.members.points c.put_expansion.new.points (omega arith) c.c-item.is c.in_ok-put_expansion.ensures ∙ c.members.invariant
