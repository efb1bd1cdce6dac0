use Rattle.ucdshop_jobs.proofs.carrying.carry_group.Goals as goal

pub returns-in-Ok-clause-kept : goal.returns-in-Ok-clause-kept
returns-in-Ok-clause-kept g c = c.note.ensures c.args.bench.now c.apply.new.self (rw (c.as_slice.ensures) c.in-Ok.ensures.answer) c.requires.kept
