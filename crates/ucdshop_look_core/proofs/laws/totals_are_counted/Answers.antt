use Rattle.std.proofs.Common.{not}
use Rattle.ucd_model.specs.Records.{record_at}
use Rattle.ucd_model.specs.Sameness.{same_record}
use Rattle.edit_session.specs.Groups.{changed, files_facts}
use Rattle.ucdshop_look_core.proofs.OrderLemmas.{kept_are_in_order, members_in_order}
use Rattle.ucdshop_look_core.proofs.laws.totals_are_counted.Goals as goal

pub returns : goal.returns
returns c = λ old new.
    members_in_order (changed (files_facts old) (files_facts new)) (kept_are_in_order (λ c. not (same_record (record_at (files_facts old) c) (record_at (files_facts new) c))))
