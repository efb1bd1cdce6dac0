use Rattle.std.proofs.Common.{ap, ◌∙◌}
use Rattle.ucd_points.specs.Limits.{point_count}
use Rattle.stability_policies.specs.BrokenStretches.{points_of}
use Rattle.stability_policies.specs.declared.policy.Policy.TheVariants.{P10}
use Rattle.stability_policies.proofs.QuietFoldings.{quiet_foldings}
use Rattle.stability_policies.proofs.StretchLemmas.{breaking_none}
use Rattle.stability_policies.proofs.sieving.broken_stretches.Goals as goal
use Rattle.stability_policies.proofs.sieving.broken_stretches.Goals.{then-found, else-found+in_ok-foldings}

pub returns : goal.returns
returns g c =
    let O = g.O.FactView.facts_of c.args.old.now in
    let N = g.N.FactView.facts_of c.args.new.now in
    elim c.if-found.branch [
      | then-found w ↦ record {
        foldings = ap (points_of P10) (w.foldings-is ∙ w.new-foldings.ensures) ∙ breaking_none O N P10 point_count (quiet_foldings O N (c.in_ok-found.ensures.forms.0 w.if-found.true) c.requires.rooted);
        others = c.in_ok-found.ensures.others;
      }
      | else-found+in_ok-foldings w ↦ record {
        foldings = ap (points_of P10) w.foldings-is ∙ w.in_ok-foldings.ensures;
        others = c.in_ok-found.ensures.others;
      }
    ]
