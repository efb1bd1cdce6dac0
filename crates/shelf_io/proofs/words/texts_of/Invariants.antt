use Rattle.std.proofs.Common.{◌≡◌, ◌++◌, map, string_bytes}
use Rattle.std.specs.Vec.Iter.{into_iter_items, into_iter_len}
use Rattle.shelf_io.proofs.words.texts_of.Given as goal

-- the words that were taken, and then those to come, are all of them
abbrev pub invariant-words : goal.invariant-words
invariant-words g l = record {
  taken : l.words ++ map string_bytes (into_iter_items l.args) ≡ map string_bytes (into_iter_items l.initial.args);
}

abbrev pub decreases-words : goal.decreases-words
decreases-words g l = into_iter_len l.args
