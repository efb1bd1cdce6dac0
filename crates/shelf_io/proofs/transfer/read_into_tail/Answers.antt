use Rattle.std.proofs.Common.{arith, rules, subst}
use Rattle.std.specs.Io.KnownBytes.{Consumes}
use Rattle.std.proofs.KnownBytes.{Consumes-trans}
use Rattle.shelf_io.proofs.TransferLemmas.{take-filled}
use Rattle.shelf_io.proofs.transfer.read_into_tail.Goals as goal

pub returns-in-Ok-clause-bytes : goal.returns-in-Ok-clause-bytes
returns-in-Ok-clause-bytes g c = λ start before.
    let lent = c.deref_mut.ensures.value in
    let joined = take-filled c.args.at c.args.into.now.items c.deref_mut.result.now c.read.new.buf _ _ c.args.into.now.len c.in-Ok.taken lent (omega (arith, c.args.into.now.ok.0)) c.in-Ok.ensures.bound.0 (search rules) in
    subst (Consumes _ _) joined (Consumes-trans _ _ _ _ _ before c.in-Ok.ensures.bytes.0)
