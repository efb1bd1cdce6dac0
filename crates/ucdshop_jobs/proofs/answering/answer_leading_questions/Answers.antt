use Rattle.std.proofs.Common.{length, refl, ap, ◌∙◌, arith}
use Rattle.script_lines.specs.declared.command.What.TheVariants.{Question}
use Rattle.ucdshop_jobs.specs.Carrying.{question_command, session_on}
use Rattle.ucdshop_jobs.specs.CarryingLemmas.{first_carried, first_counts, ready_behind}
use Rattle.ucdshop_jobs.proofs.answering.answer_leading_questions.Goals as goal

pub questions-preserved : goal.questions-preserved
questions-preserved c =
    let rest = c.questions.rest.now in
    let first = question_command c.in-Some.line c.in-Some.text.now in
    let behind = c.in-Some.behind.now in
    let here = c.in-Some.ensures in
    let asking = c.args.asking.now in
    record {
      session =
          first_carried rest first behind (Question c.in-Some.text.now) (session_on asking c.questions.carried) (session_on asking c.answer_one.new.carried) here refl c.in_ok-answer_one.ensures.session
          ∙ c.questions.invariant.session;
      counts = λ old new more.
          c.questions.invariant.counts old new
          (first_counts rest first behind (Question c.in-Some.text.now) (session_on asking c.questions.carried) (session_on asking c.answer_one.new.carried) old old new here refl c.in_ok-answer_one.ensures.session refl more);
      counted = omega (arith, ap length here, c.in_ok-answer_one.ensures.counted, c.questions.invariant.counted);
      left = omega (arith, ap length here, c.questions.invariant.left);
      ready = ready_behind rest first behind here c.questions.invariant.ready;
    }
