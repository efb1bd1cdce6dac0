use Rattle.std.proofs.Common.{◌≡◌, ◌+◌, ◌≤◌, length}
use Rattle.script_lines.specs.Scripts.{closed, script_from, script_pieces, steps}
use Rattle.script_lines.proofs.reading.commands_from.Given as goal

-- the script so far and the pieces that are left give what the whole gives
abbrev pub invariant-pieces : goal.invariant-pieces
invariant-pieces l = record {
  whole : closed (steps l.line l.script (script_pieces l.lines)) ≡ script_from l.first_line l.bytes;
  fits : l.line + length l.lines ≤ l.first_line + length l.bytes;
}

abbrev pub decreases-pieces : goal.decreases-pieces
decreases-pieces l = length l.lines
