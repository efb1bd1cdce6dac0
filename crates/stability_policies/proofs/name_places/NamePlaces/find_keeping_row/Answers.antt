use Rattle.std.proofs.Common.{length, sym, ap, arith}
use Rattle.stability_policies.proofs.PlaceLemmas.{before_more, no_more, none_keeps}
use Rattle.stability_policies.proofs.name_places.NamePlaces.find_keeping_row.Goals as goal

pub returns-in-None : goal.returns-in-None
returns-in-None c = sym (no_more c.args.file c.args.self.now c.args.names.now c.rows.start c.rows.invariant c.in-None.ensures)

pub rows-preserved-then-place-start : goal.rows-preserved-then-place-start
rows-preserved-then-place-start c = before_more c.args.file c.args.self.now c.args.names.now c.rows.start c.in-Some.place c.rows.invariant c.in-Some.ensures.0

pub returns : goal.returns
returns c = sym (none_keeps c.args.file c.args.self.now c.args.names.now c.rows.start c.rows.invariant (let len = ap length c.self.view_is in omega (arith, len)))
