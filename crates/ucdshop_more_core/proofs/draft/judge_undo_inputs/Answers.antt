use Rattle.std.proofs.Common.{ℕ, List, Option, subst}
use Rattle.run_inputs.specs.Held.{held_at}
use Rattle.run_inputs.specs.Judging.{ToldAs}
use Rattle.ucdshop_more_core.proofs.BehindLemmas.{judged_behind}
use Rattle.ucdshop_more_core.specs.Drafts.{draft_of, with_moves}
use Rattle.ucdshop_more_core.specs.Moves.{moves_in, moves_told}
use Rattle.ucdshop_more_core.proofs.draft.judge_undo_inputs.Goals as goal

pub returns-clause-draft : goal.returns-clause-draft
returns-clause-draft g c =
    subst (ToldAs draft_of c.judge_script_file.result)
    (judged_behind (moves_in c.args.script.now) with_moves c.args.input.now c.args.held.now.items c.open_folder.new.held.items c.in_ok-bench.bench c.in_ok-bench.ensures.files c.open_folder.ensures.others)
    (subst (λ (held : List (Option (List ℕ))). ToldAs draft_of c.judge_script_file.result (with_moves c.in_ok-bench.bench.current (moves_told c.args.script.now (held_at held 9)))) c.as_slice.ensures.value
    c.judge_script_file.ensures.draft)
