use Rattle.std.proofs.Common.{ℕ, Bool, List, sym, subst}
use Rattle.fact_tables.specs.FactTables.{tables_facts}
use Rattle.dependency_map.specs.Maps.{asked_at}
use Rattle.point_store.specs.SlotStore.{values}
use Rattle.mention_index.specs.Mentions.{is_walked, leads}
use Rattle.paged_table.specs.Paged.{values_now, values_next}
use Rattle.ucd_facts.specs.Facts.{Facts}
use Rattle.ucd_facts.specs.declared.query.Query.{Query}
use Rattle.edit_session.specs.Questions.{AreListed, KeepsWalked}
use Rattle.edit_session.proofs.QuestionLemmas.{walked_more}
use Rattle.edit_session.proofs.questions.list_reached.Goals as goal

pub returns-clause-kept : goal.returns-clause-kept
returns-clause-kept c =
    let F : ℕ → Facts = tables_facts values_now c.args.tables.now in
    let A : ℕ → List Query = asked_at (values values_now) c.args.map.now in
    let N : ℕ → List Query = asked_at (values values_next) c.args.map.now in
    let B : ℕ → List Query = asked_at (values values_next) c.list_questions.new.map in
    let C : ℕ → List Query = asked_at (values values_now) c.commit.new.self in
    let W : ℕ → Bool = is_walked c.args.mentions.now in
    let more : ℕ → Bool = is_walked c.reach.new.self in
    let step : ℕ → ℕ → Bool = leads c.reach.new.self in
    let kept : KeepsWalked step W A F = subst (λ (s : ℕ → ℕ → Bool). KeepsWalked s W A F) (sym c.reach.ensures.steps) c.requires.kept in
    let listed : AreListed F c.in_ok-points.points N B = subst (λ (points : List ℕ). AreListed F points N B) c.as_slice.ensures c.in_ok-list_questions.ensures in
    walked_more step W more A N B C F c.in_ok-points.points kept c.requires.still listed c.commit.ensures.committed c.in_ok-points.ensures.walked c.in_ok-points.ensures.closed
