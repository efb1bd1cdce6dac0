use Rattle.std.proofs.Common.{refl}
use Rattle.code_facts.specs.Locality.{gives_facts}
use Rattle.release_rows.specs.Operations.{op_file}
use Rattle.edit_session.proofs.TouchedLemmas.{touched_by}
use Rattle.edit_session.proofs.group.prepare_op.Goals as goal

pub returns-in_ok-put_touched-in-Ok-clause-touched : goal.returns-in_ok-put_touched-in-Ok-clause-touched
returns-in_ok-put_touched-in-Ok-clause-touched c =
    touched_by c.rows_stay.ensures c.facts_stay.ensures c.others_give_none.ensures c.args.op.now c.args.release.now.prepared c.prepare.new.self.prepared c.args.touched.now c.in-Ok.spans c.put_touched.new.touched
    (gives_facts (op_file c.args.op.now)) refl c.in-Ok.ensures.answer c.in_ok-put_touched-in-Ok.ensures
