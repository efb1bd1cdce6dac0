use Rattle.std.proofs.Common.{refl, sym, ap, ◌∙◌}
use Rattle.ucd_points.specs.PlainProofs.{on_err_from}
use Rattle.script_lines.specs.declared.command.What.TheVariants.{Group, Question}
use Rattle.ucdshop_jobs.specs.Carrying.{session_of}
use Rattle.ucdshop_jobs.specs.CarryingLemmas.{first_counts, question_counts, ready_behind, session_counts_none}
use Rattle.ucdshop_jobs.proofs.carrying.carry_first_commands.Goals as goal

pub returns-in_err-carry_group-in-Group-clause-stopped : goal.returns-in_err-carry_group-in-Group-clause-stopped
returns-in_err-carry_group-in-Group-clause-stopped g c =
    on_err_from c.from_residual.result
    (first_counts c.args.commands.now c.first_command.result.0.now c.first_command.result.1.now (Group c.as_slice.result.now) (session_of c.args.bench.now c.args.carried.now) _
    c.args.steps.now c.carry_group.new.steps c.carry_group.new.steps c.first_command.ensures (c.in-Group.is ∙ ap Group (sym c.as_slice.ensures)) refl c.carry_group.ensures.counts (session_counts_none _ c.first_command.result.1.now c.carry_group.new.steps))

pub answer_adjacent_questions-requires-clause-ready : goal.answer_adjacent_questions-requires-clause-ready
answer_adjacent_questions-requires-clause-ready g c = ready_behind c.args.commands.now c.first_command.result.0.now c.first_command.result.1.now c.first_command.ensures c.requires.ready

pub returns-in_ok-carry_group-in-Group-clause-counts : goal.returns-in_ok-carry_group-in-Group-clause-counts
returns-in_ok-carry_group-in-Group-clause-counts g c = λ n more.
    first_counts c.args.commands.now c.first_command.result.0.now c.first_command.result.1.now (Group c.as_slice.result.now) (session_of c.args.bench.now c.args.carried.now) (session_of c.carry_group.new.bench c.carry_group.new.carried)
    c.args.steps.now c.carry_group.new.steps n c.first_command.ensures (c.in-Group.is ∙ ap Group (sym c.as_slice.ensures)) c.in_ok-carry_group-in-Group.ensures.session c.carry_group.ensures.counts more

pub returns-in_ok-carry_group-in-Group-clause-ready : goal.returns-in_ok-carry_group-in-Group-clause-ready
returns-in_ok-carry_group-in-Group-clause-ready g c = ready_behind c.args.commands.now c.first_command.result.0.now c.first_command.result.1.now c.first_command.ensures c.requires.ready

pub returns-in-Question-clause-counts : goal.returns-in-Question-clause-counts
returns-in-Question-clause-counts g c = λ n.
    question_counts c.answer_adjacent_questions.result c.args.bench.now.current c.answer_adjacent_questions.new.carried c.args.commands.now c.first_command.result.0.now c.first_command.result.1.now c.as_slice-in-Question.result.now (session_of c.args.bench.now c.args.carried.now) _
    c.args.steps.now n c.first_command.ensures (c.in-Question.is ∙ ap Question (sym c.as_slice-in-Question.ensures)) c.answer_adjacent_questions.ensures.answers

pub returns-in-Question-clause-stopped : goal.returns-in-Question-clause-stopped
returns-in-Question-clause-stopped g c =
    on_err_from c.answer_adjacent_questions.result (session_counts_none (session_of c.args.bench.now c.args.carried.now) c.args.commands.now c.args.steps.now)
