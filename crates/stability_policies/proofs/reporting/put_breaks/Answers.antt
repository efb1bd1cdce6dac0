use Rattle.std.proofs.Common.{◌≡◌, ◌++◌, OnOk, List, ap, subst, sym, ◌∙◌}
use Rattle.ucd_facts.specs.Facts.{facts}
use Rattle.ucd_points.specs.Limits.{point_count}
use Rattle.stability_policies.specs.BrokenStretches.{breaking, points_of}
use Rattle.release_rows.specs.Releases.{rows_now}
use Rattle.stability_policies.specs.declared.breaks.Break.{Break}
use Rattle.stability_policies.proofs.ReportLemmas.{of_broken}
use Rattle.stability_policies.proofs.reporting.put_breaks.Goals as goal

pub returns-in-P10 : goal.returns-in-P10
returns-in-P10 c =
    subst (λ (more : List Break). OnOk c.put_points.result (c.put_points.new.into ≡ c.args.into.now ++ more))
    (of_broken c.args.policy c.args.old.now c.args.new.now (points_of c.args.policy c.as_slice.result.now) (λ is. absurd cc) (λ is. absurd cc)
    (ap (points_of c.args.policy) c.as_slice.ensures
    ∙ subst (λ policy. points_of policy c.args.stretches.now.foldings ≡ breaking policy (facts (rows_now c.args.old.now)) (facts (rows_now c.args.new.now)) point_count) (sym c.in-P10.is) c.requires.foldings))
    c.put_points.ensures

pub returns-in_default : goal.returns-in_default
returns-in_default c =
    subst (λ (more : List Break). OnOk c.put_points-in_default.result (c.put_points-in_default.new.into ≡ c.args.into.now ++ more))
    (of_broken c.args.policy c.args.old.now c.args.new.now (points_of c.args.policy c.as_slice-in_default.result.now) c.in_default.not-P02 c.in_default.not-P17
    (ap (points_of c.args.policy) c.as_slice-in_default.ensures ∙ c.requires.others c.args.policy c.in_default.not-P10))
    c.put_points-in_default.ensures
