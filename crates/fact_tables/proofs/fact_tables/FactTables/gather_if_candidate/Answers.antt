use Rattle.std.proofs.lemmas.Result.{on_ok_weaker}
use Rattle.fact_tables.specs.FactTables.{words_at, rests_at}
use Rattle.fact_tables.specs.declared.now_or_next.NowOrNext.TheVariants.{Now}
use Rattle.fact_tables.proofs.SweepLemmas.{past_kept, on_kept, none_kept}
use Rattle.fact_tables.proofs.fact_tables.FactTables.gather_if_candidate.Goals as goal

pub returns-in_default-clause-kept : goal.returns-in_default-clause-kept
returns-in_default-clause-kept g c =
    let t = c.args.self.now in
    past_kept (words_at Now t) (rests_at Now t) c.args.keys.now c.args.key c.in_default.ensures

pub returns-in-Some-candidate_members-clause-kept : goal.returns-in-Some-candidate_members-clause-kept
returns-in-Some-candidate_members-clause-kept g c =
    let t = c.args.self.now in
    on_ok_weaker c.gather_if_keyed.result
    (on_kept (words_at Now t) (rests_at Now t) c.gather_if_keyed.new.keys c.args.key c.in-Some.q c.in-Some-candidate_members.two c.in-Some.ensures c.in-Some-candidate_members.ensures)
    c.gather_if_keyed.ensures.kept

pub returns-in-None-clause-kept : goal.returns-in-None-clause-kept
returns-in-None-clause-kept g c =
    let t = c.args.self.now in
    none_kept (words_at Now t) (rests_at Now t) c.args.keys.now c.args.key c.in-Some.q c.in-Some.ensures c.in-None.ensures
