use Rattle.std.proofs.Common.{◌∙◌}
use Rattle.fact_tables.specs.RowTables.{word_in, rest_in}
use Rattle.fact_tables.proofs.TableLemmas.{with_all}
use Rattle.fact_tables.proofs.preparing.fill.Goals as goal

pub returns-clause-words_now : goal.returns-clause-words_now
returns-clause-words_now g c k lt =
    c.commit_and_shrink.ensures.words_now k lt ∙ c.in_ok-copy_spans.ensures.words k lt ∙ with_all c.span_of_all_points.result (g.T.Table.next c.make_room.new.words) (word_in c.args.from.now) k (c.span_of_all_points.ensures k lt)

pub returns-clause-words_next : goal.returns-clause-words_next
returns-clause-words_next g c k lt =
    c.commit_and_shrink.ensures.words_next k lt ∙ c.in_ok-copy_spans.ensures.words k lt ∙ with_all c.span_of_all_points.result (g.T.Table.next c.make_room.new.words) (word_in c.args.from.now) k (c.span_of_all_points.ensures k lt)

pub returns-clause-rests_now : goal.returns-clause-rests_now
returns-clause-rests_now g c k lt =
    c.commit_and_shrink.ensures.rests_now k lt ∙ c.in_ok-copy_spans.ensures.rests k lt ∙ with_all c.span_of_all_points.result (g.S.Store.next c.make_room.new.rests) (rest_in c.args.from.now) k (c.span_of_all_points.ensures k lt)

pub returns-clause-rests_next : goal.returns-clause-rests_next
returns-clause-rests_next g c k lt =
    c.commit_and_shrink.ensures.rests_next k lt ∙ c.in_ok-copy_spans.ensures.rests k lt ∙ with_all c.span_of_all_points.result (g.S.Store.next c.make_room.new.rests) (rest_in c.args.from.now) k (c.span_of_all_points.ensures k lt)

pub returns-clause-listed : goal.returns-clause-listed
returns-clause-listed g c q lt s y kind is = c.of.ensures s y q ∙ c.in_ok-copy_spans.ensures.listed q (c.span_of_all_points.ensures q lt) s y kind is
