use Rattle.std.proofs.Common.{◌≡◌, length}
use Rattle.ucd_facts.specs.Mappings.{words}
use Rattle.source_rows.proofs.mapping.next_word.Given as goal

-- what is left has all words
abbrev pub invariant-words : goal.invariant-words
invariant-words l = words l.rest ≡ words l.text

abbrev pub decreases-words : goal.decreases-words
decreases-words l = length l.rest
