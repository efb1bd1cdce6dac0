use Rattle.std.proofs.Common.{◌≡◌, ◌≤◌, length}
use Rattle.unicodeset_parser.specs.Blanks.{blank_size, closes}
use Rattle.unicodeset_parser.proofs.blank.begins_with_closing_bracket.Given as goal

-- what is left closes where all did
abbrev pub invariant-blanks : goal.invariant-blanks
invariant-blanks l = (blank_size l.rest ≡ l.blanks) × (l.blanks ≤ length l.rest) × (closes 0 l.text ≡ closes 0 l.rest)

abbrev pub decreases-blanks : goal.decreases-blanks
decreases-blanks l = length l.rest
