use Rattle.std.proofs.Common.{ℕ, List, Option, subst}
use Rattle.run_inputs.specs.Held.{held_at}
use Rattle.run_inputs.specs.Judging.{ToldAs}
use Rattle.ucdshop_more_core.proofs.BehindLemmas.{judged_behind}
use Rattle.ucdshop_more_core.specs.Sessions.{session_of, with_turns}
use Rattle.ucdshop_more_core.specs.Turns.{turns_in, turns_told}
use Rattle.ucdshop_more_core.proofs.sitting.judge_sitting.Goals as goal

pub returns-clause-session : goal.returns-clause-session
returns-clause-session g c =
    subst (ToldAs session_of c.judge_event_file.result)
    (judged_behind (turns_in c.args.events.now) with_turns c.args.input.now c.args.held.now.items c.open_folder.new.held.items c.in_ok-bench.bench c.in_ok-bench.ensures.files c.open_folder.ensures.others)
    (subst (λ (held : List (Option (List ℕ))). ToldAs session_of c.judge_event_file.result (with_turns c.in_ok-bench.bench.current (turns_told c.args.events.now (held_at held 9)))) c.as_slice.ensures.value
    c.judge_event_file.ensures.session)
