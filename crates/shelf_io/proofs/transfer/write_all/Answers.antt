use Rattle.std.proofs.Common.{ℕ, arith, subst, length-take, length-drop}
use Rattle.std.specs.Io.KnownBytes.{Appends}
use Rattle.std.proofs.KnownBytes.{Appends-trans}
use Rattle.shelf_io.proofs.TransferLemmas.{take-next}
use Rattle.shelf_io.proofs.transfer.write_all.Goals as goal

pub rests-preserved : goal.rests-preserved
rests-preserved g c =
    let taken = c.in-Ok.ensures in
    let joined = take-next c.rests.done c.in-Ok.taken c.args.bytes.now taken.bound in
    record {
      done = omega (arith, length-take {A = ℕ}, length-drop {A = ℕ}, taken.bound);
      written = subst (Appends _ _) joined (Appends-trans _ _ _ _ _ c.rests.invariant.written taken.bytes);
    }
