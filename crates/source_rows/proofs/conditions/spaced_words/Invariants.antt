use Rattle.std.proofs.Common.{◌≡◌, [], length}
use Rattle.ucd_facts.specs.Mappings.{words}
use Rattle.source_rows.proofs.Spaced.{behind_words}
use Rattle.source_rows.proofs.conditions.spaced_words.Given as goal

-- the words so far, and behind them what is left, are what the whole gives
abbrev pub invariant-words : goal.invariant-words
invariant-words l = behind_words l.spaced (words l.rest) ≡ behind_words [] (words l.text)

abbrev pub decreases-words : goal.decreases-words
decreases-words l = length l.rest
