use Rattle.std.proofs.Common.{ℕ, List, Option, subst}
use Rattle.fact_tables.specs.FactTables.{rests_at, tables_facts, words_at}
use Rattle.fact_tables.specs.declared.now_or_next.NowOrNext.TheVariants.{Now}
use Rattle.dependency_map.specs.Maps.{asked_at}
use Rattle.point_store.specs.SlotStore.{values}
use Rattle.mention_index.specs.declared.mentions.Mentions.{Mentions}
use Rattle.paged_table.specs.Paged.{values_now}
use Rattle.ucd_facts.specs.Facts.{Facts}
use Rattle.ucd_facts.specs.declared.query.Query.{Query}
use Rattle.edit_session.specs.Questions.{Keeps}
use Rattle.edit_session.proofs.QuestionLemmas.{begun, cut}
use Rattle.edit_session.proofs.questions.Questions.with_possible_askers.Goals as goal

pub with_reached_listed-requires-in-None-clause-kept : goal.with_reached_listed-requires-in-None-clause-kept
with_reached_listed-requires-in-None-clause-kept c =
    let F : ℕ → Facts = tables_facts values_now c.args.tables.now in
    let A : ℕ → List Query = asked_at (values values_now) c.args.self.map in
    begun c.in_ok-mentions-in-None.mentions A F (subst (λ (m : Option Mentions). Keeps m A F) c.in-None.is c.requires.kept) c.in_ok-mentions-in-None.ensures.steps
    (cut (words_at Now c.args.tables.now) (rests_at Now c.args.tables.now)) c.in_ok-mentions-in-None.ensures.walked
