use Rattle.std.proofs.Common.{◌≡◌, ◌+◌, ◌∙◌, arith}
use Rattle.ucd_facts.specs.Facts.{hangul_mapping}
use Rattle.fact_tables.specs.PointLists.{lists_next}
use Rattle.fact_tables.specs.PaintLemmas.{one_more, all_painted}
use Rattle.code_facts.proofs.data_tables.add_syllables.Goals as goal

pub syllables-preserved : goal.syllables-preserved
syllables-preserved c k lt =
    let is = rw (c.one.ensures, c.hangul_mapping.ensures, c.point-syllable.ensures) at (c.in_ok-prepare.ensures.ok k lt) in
    one_more hangul_mapping c.args.part.lo c.syllables.number k (lists_next c.prepare.new.self k) (lists_next c.syllables.mappings k) (lists_next c.args.mappings.now k) (omega arith) is (c.syllables.invariant k lt)

pub returns : goal.returns
returns c k lt =
    let end : c.syllables.number ≡ c.args.part.hi + 1 = omega arith in
    c.syllables.invariant k lt ∙ all_painted (hangul_mapping k) (lists_next c.args.mappings.now k) c.args.part.lo c.args.part.hi c.syllables.number k end
