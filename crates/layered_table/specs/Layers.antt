-- Words for spans of code points, one layer over another.
-- covered c word layer      the word of a layer that covers c; else the word that is there
-- word_at layers base c     the word of the last layer that covers c; base where none does
-- puts word c layer         the layer has this word, and covers c
use Rattle.std.specs.Prelude.{ℕ, Bool, ◌&&◌, nat_eq, List, fold, if◌then◌else◌}
use Rattle.ucd_points.specs.Bounds.{within}
use Rattle.layered_table.specs.declared.painting.Layer.{Layer}

abbrev pub covered : ℕ → ℕ → Layer → ℕ
covered c word layer = if within c layer.span then layer.word else word

abbrev pub word_at : List Layer → ℕ → ℕ → ℕ
word_at layers base c = fold (covered c) base layers

abbrev pub puts : ℕ → ℕ → Layer → Bool
puts word c layer = nat_eq layer.word word && within c layer.span
