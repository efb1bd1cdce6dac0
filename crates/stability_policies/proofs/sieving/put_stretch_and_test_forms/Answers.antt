use Rattle.std.proofs.Common.{◌++◌, [], ◌+◌, ◌-◌, cond, ap, ◌∙◌}
use Rattle.std.specs.List.{range_with_len}
use Rattle.stability_policies.specs.BrokenStretches.{points_of}
use Rattle.stability_policies.proofs.StretchLemmas.{told_forms}
use Rattle.stability_policies.proofs.sieving.put_stretch_and_test_forms.Goals as goal

pub returns-clause-put : goal.returns-clause-put
returns-clause-put g c policy other =
    c.in_ok-put_stretch.ensures policy
    ∙ ap (λ b. points_of policy c.args.into.now ++ cond b (range_with_len c.args.c (c.args.last + 1 - c.args.c)) []) (c.in_ok-policies.ensures policy other)

pub returns-clause-keeps : goal.returns-clause-keeps
returns-clause-keeps g c =
    c.keeps_forms.ensures
    ∙ told_forms (g.O.FactView.facts_of c.args.old.now) (g.N.FactView.facts_of c.args.new.now) c.args.c c.facts-a.result c.facts-b.result c.in_ok-policies.policies c.facts-a.ensures c.facts-b.ensures c.in_ok-policies.ensures
