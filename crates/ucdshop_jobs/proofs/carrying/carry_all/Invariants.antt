use Rattle.std.proofs.Common.{◌≡◌, ℕ, ◌+◌, [], fold, length, All}
use Rattle.script_lines.specs.Groups.{IsWellFormed}
use Rattle.ucdshop_jobs.specs.Carrying.{counted, session_of}
use Rattle.ucdshop_jobs.specs.Counting.{SessionCounts}
use Rattle.set_questions.specs.QuestionCache.{IsKept}
use Rattle.ucdshop_jobs.specs.Session.{session, started, step}
use Rattle.ucdshop_jobs.proofs.carrying.carry_all.Given as goal

-- the session so far and the commands that are left give what the whole gives; each other command is counted
abbrev pub invariant-commands : goal.invariant-commands
invariant-commands g l =
    record {
      kept : IsKept l.kept l.bench.current;
      session : fold step (session_of l.bench l.carried) l.rest ≡ session l.initial.bench.current l.commands;
      counts : (n : ℕ) → SessionCounts (session_of l.bench l.carried) l.rest l.steps n → SessionCounts (started l.initial.bench.current) l.commands l.initial.steps n;
      counted : counted l.carried + length l.rest ≡ length l.commands;
      ready : All IsWellFormed l.rest;
      steps : l.commands ≡ [] → l.steps ≡ l.initial.steps;
    }

abbrev pub decreases-commands : goal.decreases-commands
decreases-commands g l = length l.rest
