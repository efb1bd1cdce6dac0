use Rattle.std.proofs.Common.{◌<◌, length, arith}
use Rattle.part_list.specs.PartValues.{committed}
use Rattle.part_list.proofs.FlatLemmas.{more_done}
use Rattle.part_list.proofs.change.commit_all.Goals as goal

-- one more part is done
pub parts-preserved : goal.parts-preserved
parts-preserved g c =
    let ok = c.parts.parts.ok in
    let len = c.len.ensures in
    let test = c.parts-test.true in
    let within : c.parts.slot < length c.parts.parts.items = omega arith in
    let more = more_done committed _ c.parts.parts.items c.parts.slot c.index_mut.result.now c.commit.new.self c.parts.invariant.so_far c.parts.invariant.within within
    c.index_mut.ensures.value c.commit.ensures in
    record { within = omega (arith, more.0); so_far = more.1 }
