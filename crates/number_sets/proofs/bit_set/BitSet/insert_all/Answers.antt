use Rattle.std.proofs.Common.{◌≡◌, ◌<◌, length, get_or, arith, bit_or}
use Rattle.std.proofs.lemmas.List.{get_or_read, length-set}
use Rattle.number_sets.specs.Bits.{is_between}
use Rattle.number_sets.proofs.BitLemmas.{mask_done, mask_left}
use Rattle.number_sets.proofs.bit_set.BitSet.insert_all.Goals as goal

-- the numbers of one more word are in
pub places-preserved : goal.places-preserved
places-preserved c =
    let words = c.places.self.words.items in
    let place = c.places.place in
    let inside : place < length words = omega (arith, c.places.invariant.within, c.places-test.true) in
    let read : c.index_mut.result.now ≡ get_or words place 0 = get_or_read words place _ inside c.index_mut.ensures.value 0 in
    let old = c.args.self.now.words.items in
    record {
      within = omega (arith, c.places.invariant.within, length-set words place (bit_or c.index_mut.result.now c.mask.result));
      done = mask_done words place c.index_mut.result.now c.mask.result (is_between c.args.first c.args.last) read c.mask.ensures inside old c.places.invariant.left c.places.invariant.done;
      left = mask_left words place c.index_mut.result.now c.mask.result (is_between c.args.first c.args.last) read c.mask.ensures inside old c.places.invariant.left;
    }
