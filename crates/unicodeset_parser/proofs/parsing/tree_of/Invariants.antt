use Rattle.std.proofs.Common.{◌≡◌, ◌≤◌, length, ◌-◌}
use Rattle.unicodeset_parser.specs.Lexing.{tokens}
use Rattle.unicodeset_parser.specs.Machine.{before, run}
use Rattle.unicodeset_parser.specs.StateViews.{state_view}
use Rattle.unicodeset_parser.proofs.parsing.tree_of.Given as goal

-- what is left gives what all gives
abbrev pub invariant-tokens : goal.invariant-tokens
invariant-tokens l = record {
  shorter : length l.rest ≤ length l.text;
  same : run (length l.text) (state_view l.state) (tokens 0 (length l.text - length l.rest) l.rest) ≡ run (length l.text) before (tokens 0 0 l.text);
}

abbrev pub decreases-tokens : goal.decreases-tokens
decreases-tokens l = length l.rest
