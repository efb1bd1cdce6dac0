-- What a list of mentions has, and what was put for one.
-- puts listing x c   the step from x to c was put
-- leads m x c        there is a step from x to c
-- is_walked m x      one went on from x
use Rattle.std.specs.Prelude.{ℕ, Bool}
use Rattle.number_sets.specs.Keys.{has, is_in}
use Rattle.number_sets.specs.Bits.{has_number}
use Rattle.mention_index.specs.Steps.{key}
use Rattle.mention_index.specs.declared.mentions.Mentions.{Mentions}
use Rattle.mention_index.specs.declared.mentions.MentionsBuilder.{MentionsBuilder}

abbrev pub puts : MentionsBuilder → ℕ → ℕ → Bool
puts listing x c = is_in listing.keys.items (key x c)

abbrev pub leads : Mentions → ℕ → ℕ → Bool
leads m x c = has m.steps (key x c)

abbrev pub is_walked : Mentions → ℕ → Bool
is_walked m x = has_number m.walked x
