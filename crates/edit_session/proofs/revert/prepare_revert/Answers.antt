use Rattle.std.proofs.Common.{subst}
use Rattle.record_turns.specs.Turned.{CountsWithin}
use Rattle.release_rows.specs.Releases.{ReleaseItems}
use Rattle.edit_session.specs.Groups.{files_facts}
use Rattle.edit_session.proofs.revert.prepare_revert.Goals as goal

pub returns-in-Ok-clause-steps : goal.returns-in-Ok-clause-steps
returns-in-Ok-clause-steps g c =
    subst (λ (r : ReleaseItems). CountsWithin (files_facts r.current) (files_facts r.prepared) c.args.steps.now c.turn_to.new.steps) c.in_ok-touched.ensures.answer.0 c.turn_to.ensures.steps
