use Rattle.std.proofs.Common.{◌≡◌, Bool, ◌||◌, sym, ap, ◌∙◌, arith}
use Rattle.ucdshop_look_core.proofs.ChangeLemmas.{all_refused, all_told, refused_on, told_on}
use Rattle.ucdshop_look_core.proofs.changing.tell_commands_or_refusals.Goals as goal
use Rattle.ucdshop_look_core.proofs.changing.tell_commands_or_refusals.Goals.{then-refused, else-refused}

pub commands-preserved : goal.commands-preserved
commands-preserved g c =
    let joined : c.if-refused.refused ≡ (c.commands.refused || c.in_ok-here.here) = elim c.if-refused.branch [
      | then-refused w ↦ w.refused-is ∙ w.if-refused.true ∙ sym (ap (λ (b : Bool). b || c.in_ok-here.here) w.if-refused.true)
      | else-refused w ↦ w.refused-is ∙ sym (ap (λ (b : Bool). b || c.in_ok-here.here) w.if-refused.false)
    ] in
    record {
      text = told_on c.commands.bench.current c.tell_command_or_refusal.new.bench.current c.args.commands.now c.commands.command-index c.command-item.result c.commands.text c.tell_command_or_refusal.new.text _ (omega arith) c.command-item.is
          c.in_ok-here.ensures.text c.in_ok-here.ensures.files c.commands.invariant.text;
      refused = refused_on c.commands.bench.current c.tell_command_or_refusal.new.bench.current c.args.commands.now c.commands.command-index c.command-item.result c.commands.refused c.in_ok-here.here c.if-refused.refused _ (omega arith) c.command-item.is
          c.in_ok-here.ensures.refused joined c.in_ok-here.ensures.files c.commands.invariant.refused;
      earlier = c.in_ok-here.ensures.earlier;
    }

pub returns : goal.returns
returns g c = record {
  text = all_told c.commands.bench.current c.args.commands.now c.commands.command-index c.commands.text _ (omega arith) c.commands.invariant.text;
  refused = all_refused c.commands.bench.current c.args.commands.now c.commands.command-index c.commands.refused _ (omega arith) c.commands.invariant.refused;
}
