use Rattle.std.proofs.Common.{◌≡◌, length, nat_cmp}
use Rattle.std.specs.Cmp.Lexicographic.{slice_cmp}
use Rattle.ucd_facts.specs.Mappings.{spaced_words, words}
use Rattle.source_rows.proofs.NameOrder.{led_by}
use Rattle.source_rows.proofs.key_names.compare_spaced.Given as goal

-- what is left of the text against the words that are left is the whole against all words
abbrev pub invariant-words : goal.invariant-words
invariant-words l = slice_cmp nat_cmp l.left (led_by l.gap (words l.rest)) ≡ slice_cmp nat_cmp l.expected (spaced_words l.text)

abbrev pub decreases-words : goal.decreases-words
decreases-words l = length l.rest
