use Rattle.std.proofs.Common.{◌≡◌, ◌+◌, ◌≤◌, length}
use Rattle.ucd_facts.specs.Mappings.{words, all_points}
use Rattle.source_rows.proofs.Words.{is_spelled}
use Rattle.source_rows.proofs.mapping.mapping_of.Given as goal

-- the words so far are counted code points, so the others are where all are
abbrev pub invariant-words : goal.invariant-words
invariant-words l = (is_spelled (all_points (words l.rest)) ≡ is_spelled (all_points (words l.text))) × (l.count + length (words l.rest) ≡ length (words l.text)) × (l.count ≤ 64)

abbrev pub decreases-words : goal.decreases-words
decreases-words l = length l.rest
