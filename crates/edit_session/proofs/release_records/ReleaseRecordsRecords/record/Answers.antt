use Rattle.std.proofs.Common.{◌∙◌}
use Rattle.edit_session.proofs.FirstSteps.{is_point}
use Rattle.edit_session.proofs.release_records.ReleaseRecordsRecords.record.Goals as goal

pub returns : goal.returns
returns c =
    rw (← c.self.view_is) (c.record.ensures ∙ c.self.invariant c.args.c (is_point c.args.c c.number-number.result c.number-number.ensures.value c.number-number.ensures.bound))
