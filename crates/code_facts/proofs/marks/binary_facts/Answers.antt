use Rattle.std.proofs.Common.{ap, arith}
use Rattle.code_facts.specs.RowLists.{sources_of}
use Rattle.code_facts.specs.Marks.{mark_bit}
use Rattle.code_facts.specs.declared.mark.Mark.TheVariants.{Excluded}
use Rattle.code_facts.proofs.MarkLemmas.{marks_small, marks_more}
use Rattle.code_facts.proofs.marks.binary_facts.Goals as goal

pub with_mark-requires : goal.with_mark-requires
with_mark-requires c k lt =
    let sum = c.marks.invariant k lt in
    omega (arith, marks_small c.marks.place (sources_of c.args.rows.now) k)

pub marks-preserved : goal.marks-preserved
marks-preserved c k lt = marks_more (sources_of c.args.rows.now) k c.marks.place Excluded _ _ _ (omega arith) (c.in_ok-table-2.ensures (sources_of c.args.rows.now) c.in_ok-spans.ensures k lt) (c.marks.invariant k lt) (ap (λ mark. mark_bit (sources_of c.args.rows.now) mark k) c.at.ensures)
