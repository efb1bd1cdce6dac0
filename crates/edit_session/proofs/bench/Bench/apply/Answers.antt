use Rattle.edit_session.specs.Groups.{after_ops, files_facts}
use Rattle.edit_session.proofs.CountLemmas.{counts_within}
use Rattle.edit_session.proofs.bench.Bench.apply.Goals as goal

pub returns-clause-steps : goal.returns-clause-steps
returns-clause-steps g c =
    counts_within (after_ops c.self.inside.release.current 0 c.args.group.now) (files_facts c.self.inside.release.current) c.args.steps.now c.apply_group.new.steps c.apply_group.ensures.counted
