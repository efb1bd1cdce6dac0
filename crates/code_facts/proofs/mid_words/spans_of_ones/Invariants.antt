use Rattle.std.proofs.Common.{◌≡◌, ℕ, take}
use Rattle.std.specs.List.{list_any}
use Rattle.layered_table.specs.Layers.{puts}
use Rattle.ucd_facts.specs.Facts.{within}
use Rattle.code_facts.proofs.mid_words.spans_of_ones.Given as goal

-- the spans of the layers before this one
abbrev pub invariant-layers : goal.invariant-layers
invariant-layers l = (c : ℕ) → list_any (within c) l.spans.items ≡ list_any (puts 1 c) (take l.layer-index l.layers)
