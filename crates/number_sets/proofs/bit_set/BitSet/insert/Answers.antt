use Rattle.std.proofs.Common.{◌≡◌, ◌/◌, ◌<◌, length, get_or, arith}
use Rattle.std.proofs.lemmas.List.{get_or_read}
use Rattle.number_sets.proofs.BitLemmas.{bit_put}
use Rattle.number_sets.proofs.bit_set.BitSet.insert.Goals as goal

pub returns-clause-ok : goal.returns-clause-ok
returns-clause-ok c =
    let n = c.args.number in
    let new = c.grow.new.words.items in
    let within : n / 64 < length new = omega (arith, c.in_ok-grow.ensures.ok) in
    let read : c.index_mut.result.now ≡ get_or new (n / 64) 0 = get_or_read new (n / 64) _ within c.index_mut.ensures.value 0 in
    bit_put c.args.self.now.words.items new n c.index_mut.result.now within read c.grow.ensures.same
