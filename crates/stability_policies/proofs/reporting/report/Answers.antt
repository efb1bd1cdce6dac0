use Rattle.std.proofs.Common.{◌≡◌, ◌≤◌, length, ap, arith}
use Rattle.stability_policies.specs.Policies.{policies}
use Rattle.stability_policies.specs.Reports.{breaks_of}
use Rattle.stability_policies.proofs.QuietFoldings.{rooted_views}
use Rattle.stability_policies.proofs.ReportLemmas.{flat_all, of_rows, whole_report}
use Rattle.stability_policies.proofs.reporting.report.Goals as goal

pub broken_stretches-requires-clause-rooted : goal.broken_stretches-requires-clause-rooted
broken_stretches-requires-clause-rooted g c =
    rooted_views (g.O.FactView.facts_of c.args.old.now) (g.N.FactView.facts_of c.args.new.now) c.args.old_rows.now c.args.new_rows.now c.requires.old.facts_are c.requires.new.facts_are c.requires.valid_old

pub put_breaks-requires : goal.put_breaks-requires
put_breaks-requires g c =
    of_rows (g.O.FactView.facts_of c.args.old.now) (g.N.FactView.facts_of c.args.new.now) c.args.old_rows.now c.args.new_rows.now c.in_ok-stretches.stretches c.requires.old.facts_are c.requires.new.facts_are c.in_ok-stretches.ensures

pub returns : goal.returns
returns g c =
    let whole : length c.all-policy-items.result.now ≡ length policies = ap length c.all-policy-items.ensures in
    let all : length policies ≤ c.policies.policy-index = omega (arith, c.policies-test.false, whole) in
    whole_report c.args.old_rows.now c.args.new_rows.now c.policies.breaks
    (flat_all (λ policy. breaks_of policy c.args.old_rows.now c.args.new_rows.now) c.policies.breaks policies c.policies.policy-index all c.policies.invariant)
