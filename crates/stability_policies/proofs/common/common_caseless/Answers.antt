use Rattle.std.proofs.Common.{sym, ◌∙◌}
use Rattle.stability_policies.proofs.CommonProofs.{old_folding, same_folding}
use Rattle.stability_policies.proofs.common.common_caseless.Goals as goal

pub folding_of_nfkc-requires : goal.folding_of_nfkc-requires
folding_of_nfkc-requires g c =
    old_folding (g.O.FactView.facts_of c.args.old.now) (g.N.FactView.facts_of c.args.new.now) c.args.old_rows.now c.args.new_rows.now c.requires.old.facts_are c.requires.new.facts_are c.requires.valid_old c.args.s.now c.requires.assigned

pub returns-clause-new : goal.returns-clause-new
returns-clause-new g c =
    sym (same_folding (g.O.FactView.facts_of c.args.old.now) (g.N.FactView.facts_of c.args.new.now) c.args.old_rows.now c.args.new_rows.now c.requires.old.facts_are c.requires.new.facts_are c.requires.valid_old c.args.s.now c.requires.assigned
    c.args.breaks.now c.requires.report c.requires.kept c.requires.folding)
    ∙ c.in_ok-points.ensures
