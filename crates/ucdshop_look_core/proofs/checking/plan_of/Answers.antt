use Rattle.std.proofs.Common.{◌≡◌, ◌||◌, List, length, nat_lt, refl, sym, ap, subst, ◌∙◌, option_map}
use Rattle.run_endings.specs.Planning.{HaveLines}
use Rattle.run_endings.specs.Writing.{files_of}
use Rattle.stability_policies.specs.declared.breaks.Break.{Break}
use Rattle.ucdshop_jobs.specs.Carrying.{session_of}
use Rattle.ucdshop_jobs.specs.Run.{breaks_since}
use Rattle.ucdshop_look_core.specs.Checks.{check_text}
use Rattle.ucdshop_look_core.proofs.checking.plan_of.Goals as goal

pub returns : goal.returns
returns c =
    let none = c.new.ensures.items in
    let carried = c.args.carried.now in
    let bench = c.args.bench.now in
    let earlier = option_map (λ before. before.current) c.args.earlier.now in
    let broken : c.in_ok-breaks.breaks ≡ breaks_since earlier bench.current = c.in_ok-breaks.ensures in
    record {
      files = ap files_of none;
      lines = subst HaveLines (sym none) refl;
      summary = c.in_ok-text.ensures bench.current ∙ ap (check_text (session_of bench carried)) broken;
      done = c.has_refusal_or_break.ensures ∙ ap (λ (breaks : List Break). nat_lt 0 carried.refused || nat_lt 0 (length breaks)) broken;
    }
