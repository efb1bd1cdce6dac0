use Rattle.std.proofs.Common.{subst}
use Rattle.part_list.specs.Finds.{FirstIn}
use Rattle.part_list.proofs.CoverLemmas.{none_found, none_held}
use Rattle.part_list.proofs.cover.Known.lacks.Goals as goal

-- no code point is in where an entry would have to be, and no wide entry passes
pub returns-then-are_few_and_absent : goal.returns-then-are_few_and_absent
returns-then-are_few_and_absent g c told =
    let p = g.S.Seek.passing c.args.seek.now in
    let none = c.are_few_and_absent.ensures.none c.if-are_few_and_absent.true in
    let wide = subst (FirstIn c.first_in.result p) c.deref.ensures.value c.first_in.ensures in
    none_held p c.args.self.now c.args.first c.args.last c.requires (c.are_few_and_absent.ensures.some c.if-are_few_and_absent.true) none (none_found c.first_in.result p _ c.is_none.result c.is_none.ensures told wide)
