use Rattle.fact_tables.specs.FactTables.{facts_at}
use Rattle.fact_tables.proofs.IndexLemmas.{members_pair, members_second}
use Rattle.fact_tables.proofs.fact_tables.FactTables.composite_members.Goals as goal

pub returns-clause-pair : goal.returns-clause-pair
returns-clause-pair g c s y =
    members_pair (facts_at c.args.version c.args.self.now) c.args.q s y c.mapping_in.result.now c.two_of-two.result c.composing_members.result c.mapping_in.ensures c.two_of-two.ensures c.composing_members.ensures

pub returns-clause-second : goal.returns-clause-second
returns-clause-second g c y =
    members_second (facts_at c.args.version c.args.self.now) c.args.q y c.mapping_in.result.now c.two_of-two.result c.composing_members.result c.mapping_in.ensures c.two_of-two.ensures c.composing_members.ensures
