use Rattle.std.proofs.Common.{◌≡◌, ◌||◌, ◌++◌, drop}
use Rattle.std.specs.List.{flat_map, list_any}
use Rattle.edit_session.specs.Benches.{bench_record}
use Rattle.range_table.specs.Values.{SameValues}
use Rattle.record_lines.specs.Earlier.{earlier_record}
use Rattle.ucdshop_look_core.specs.Changes.{stage_refused, stages, told}
use Rattle.ucdshop_look_core.proofs.changing.tell_commands_or_refusals.Given as goal

-- what is told so far, and what is told of the commands that are left, is the whole; the earlier records are those of the bench
abbrev pub invariant-commands : goal.invariant-commands
invariant-commands g l = record {
  text : l.text ++ flat_map told (stages l.bench.current (drop l.command-index l.commands)) ≡ l.initial.text ++ flat_map told (stages l.initial.bench.current l.commands);
  refused : (l.refused || list_any stage_refused (stages l.bench.current (drop l.command-index l.commands))) ≡ list_any stage_refused (stages l.initial.bench.current l.commands);
  earlier : SameValues (earlier_record l.earlier) (bench_record l.bench);
}
