use Rattle.std.proofs.Common.{refl, arith}
use Rattle.release_rows.proofs.NamelessConflicts.{breaks_none}
use Rattle.release_rows.proofs.extents.Extents.checked_place.Goals as goal

pub returns-then-self-from : goal.returns-then-self-from
returns-then-self-from c = (refl, rw (← c.self.view_is) (breaks_none c.args.place c.args.last c.self.inside.end (omega (arith, c.from.ensures, c.if-self-from.true)) _ c.self.invariant))
