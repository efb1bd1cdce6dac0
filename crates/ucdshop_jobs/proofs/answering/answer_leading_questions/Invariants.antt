use Rattle.std.proofs.Common.{◌≡◌, ℕ, ◌+◌, ◌≤◌, fold, length, All}
use Rattle.script_lines.specs.Groups.{IsWellFormed}
use Rattle.ucdshop_jobs.specs.Carrying.{counted, session_on}
use Rattle.ucdshop_jobs.specs.Counting.{SessionCounts}
use Rattle.ucdshop_jobs.specs.Session.{step}
use Rattle.ucdshop_jobs.proofs.answering.answer_leading_questions.Given as goal

-- the session so far and the commands that are left give what the whole gives; each other command is counted
abbrev pub invariant-questions : goal.invariant-questions
invariant-questions l =
    record {
      session : fold step (session_on l.asking l.carried) l.rest ≡ fold step (session_on l.asking l.initial.carried) l.commands;
      counts : (old new : ℕ) → SessionCounts (session_on l.asking l.carried) l.rest old new → SessionCounts (session_on l.asking l.initial.carried) l.commands old new;
      counted : counted l.carried + length l.rest ≡ counted l.initial.carried + length l.commands;
      left : length l.rest ≤ length l.commands;
      ready : All IsWellFormed l.rest;
    }

abbrev pub decreases-questions : goal.decreases-questions
decreases-questions l = length l.rest
