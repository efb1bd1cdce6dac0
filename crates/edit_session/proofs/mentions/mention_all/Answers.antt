use Rattle.std.proofs.Common.{◌≤◌, arith}
use Rattle.fact_tables.specs.FactTables.{tables_facts}
use Rattle.mention_index.specs.Mentions.{leads, puts}
use Rattle.paged_table.specs.Paged.{values_now}
use Rattle.range_table.specs.Values.{point_count-is}
use Rattle.edit_session.proofs.MentionLemmas.{steps_all}
use Rattle.edit_session.proofs.mentions.mention_all.Goals as goal

pub returns-clause-steps : goal.returns-clause-steps
returns-clause-steps c =
    let all : 1114112 ≤ c.runs.number = omega (arith, c.runs-test.false, c.point_count-count.ensures.value, point_count-is) in
    steps_all (puts c.runs.listing) (leads c.finish.result) (tables_facts values_now c.args.tables.now) c.runs.number all c.finish.ensures.steps c.runs.invariant.put
