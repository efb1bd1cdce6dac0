use Rattle.std.proofs.Common.{ℕ, ◌+◌, sym, subst}
use Rattle.fact_tables.specs.FactTables.{tables_facts}
use Rattle.mention_index.specs.Mentions.{puts}
use Rattle.paged_table.specs.Paged.{values_now}
use Rattle.ucd_facts.specs.Facts.{Facts}
use Rattle.edit_session.specs.Questions.{HasStepsBelow}
use Rattle.edit_session.proofs.MentionLemmas.{steps_more, steps_run}
use Rattle.edit_session.proofs.mentions.mention_run.Goals as goal

pub returns-in-Some-clause-steps : goal.returns-in-Some-clause-steps
returns-in-Some-clause-steps c =
    let F : ℕ → Facts = tables_facts values_now c.args.tables.now in
    subst (λ k. HasStepsBelow (puts c.args.listing.now) (k + 1) F) (sym c.number.ensures.value) (steps_run (puts c.args.listing.now) F c.args.c c.in-Some.last c.requires c.in-Some.ensures.stretch)

pub returns-in_ok-put-in-None-clause-steps : goal.returns-in_ok-put-in-None-clause-steps
returns-in_ok-put-in-None-clause-steps c =
    let F : ℕ → Facts = tables_facts values_now c.args.tables.now in
    subst (λ k. HasStepsBelow (puts c.put.new.self) (k + 1) F) (sym c.number-in-None.ensures.value)
    (steps_more (puts c.args.listing.now) (puts c.put.new.self) F c.args.c c.put.ensures.grows c.requires c.in_ok-put-in-None.ensures.put)
