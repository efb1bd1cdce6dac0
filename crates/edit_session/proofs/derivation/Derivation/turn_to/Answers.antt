use Rattle.std.proofs.Common.{◌≡◌, ◌==◌, ℕ, Bool, true, List, length, refl, sym, ap, subst, ◌∙◌, IfOk, OnOk}
use Rattle.fact_tables.specs.FactTables.{tables_facts, tables_next}
use Rattle.dependency_map.specs.Maps.{asked_at}
use Rattle.point_store.specs.SlotStore.{values}
use Rattle.paged_table.specs.Paged.{values_now}
use Rattle.record_table.specs.Records.{record_now}
use Rattle.record_turns.specs.Turned.{CountsWithin}
use Rattle.ucd_facts.specs.Facts.{Facts}
use Rattle.ucd_model.specs.Records.{Record}
use Rattle.ucd_facts.specs.declared.query.Query.{Query}
use Rattle.ucd_points.specs.Bounds.{Bounds}
use Rattle.edit_session.specs.Derivations.{IsNext}
use Rattle.edit_session.specs.Groups.{changed, files_facts}
use Rattle.edit_session.proofs.DerivationLemmas.{answers_valid, itself, moved, none_within, same_facts, stays, unchanged, valid_over}
use Rattle.edit_session.proofs.derivation.Derivation.turn_to.Goals as goal

pub turn_prepared-requires-clause-now : goal.turn_prepared-requires-clause-now
turn_prepared-requires-clause-now g c =
    itself (files_facts c.args.release.now.current) (tables_facts values_now c.args.self.now.tables) (tables_facts values_now c.prepare.new.self) (record_now c.args.self.now.records) c.args.self.now.questions.mentions
    (asked_at (values values_now) c.args.self.now.questions.map) c.prepare.ensures.now c.requires.now

pub returns-clause-answer : goal.returns-clause-answer
returns-clause-answer g c = c.turn_prepared.ensures.answer c.args.release.now.prepared c.in_ok-prepare.ensures.ok

pub returns-clause-now : goal.returns-clause-now
returns-clause-now g c = λ F is.
    let R : ℕ → Record = record_now c.args.self.now.records in
    let A : ℕ → List Query = asked_at (values values_now) c.args.self.now.questions.map in
    c.turn_prepared.ensures.now F (moved F (tables_facts values_now c.args.self.now.tables) (tables_facts values_now c.prepare.new.self) R R c.args.self.now.questions.mentions c.args.self.now.questions.mentions A A
    c.prepare.ensures.now (λ k lt. refl) (λ kept. kept) is)

pub returns-clause-next : goal.returns-clause-next
returns-clause-next g c = subst (λ (H : ℕ → Facts). OnOk c.turn_prepared.result (IsNext H c.turn_prepared.new.self)) c.in_ok-prepare.ensures.ok c.turn_prepared.ensures.next

pub returns-clause-changed : goal.returns-clause-changed
returns-clause-changed g c =
    let F : ℕ → Facts = files_facts c.args.release.now.current in
    let T : ℕ → Facts = tables_facts values_now c.prepare.new.self in
    subst (λ (H : ℕ → Facts). IfOk c.turn_prepared.result (λ points. points ≡ changed F H)) c.in_ok-prepare.ensures.ok
    (subst (λ (H : ℕ → Facts). IfOk c.turn_prepared.result (λ points. points ≡ changed H (tables_next values_now c.prepare.new.self))) (c.prepare.ensures.now ∙ c.requires.now.same) c.turn_prepared.ensures.changed)

pub returns-clause-steps : goal.returns-clause-steps
returns-clause-steps g c =
    subst (λ (H : ℕ → Facts). CountsWithin (files_facts c.args.release.now.current) H c.args.steps.now c.turn_prepared.new.steps) c.in_ok-prepare.ensures.ok
    (subst (λ (H : ℕ → Facts). CountsWithin H (tables_next values_now c.prepare.new.self) c.args.steps.now c.turn_prepared.new.steps) (c.prepare.ensures.now ∙ c.requires.now.same) c.turn_prepared.ensures.steps)

-- whether no span is told
none_told : (spans slice : List Bounds) (told : Bool) → slice ≡ spans → told ≡ (length slice == 0) → told ≡ true → (length spans == 0) ≡ true
none_told spans slice told same is empty = ap (λ (xs : List Bounds). length xs == 0) (sym same) ∙ sym is ∙ empty

pub returns-then-is_empty-clause-answer : goal.returns-then-is_empty-clause-answer
returns-then-is_empty-clause-answer g c =
    let F : ℕ → Facts = files_facts c.args.release.now.current in
    let G : ℕ → Facts = files_facts c.args.release.now.prepared in
    let none = none_told c.args.touched.now c.as_slice.result.now c.is_empty.result c.as_slice.ensures c.is_empty.ensures c.if-is_empty.true in
    let same : (x : ℕ) → G x ≡ F x = λ x. c.requires.touched x (none_within c.args.touched.now none x) in
    answers_valid c.new.result c.args.release.now.prepared (valid_over F G (same_facts F G same) c.requires.now.valid)

pub returns-then-is_empty-clause-next : goal.returns-then-is_empty-clause-next
returns-then-is_empty-clause-next g c =
    let F : ℕ → Facts = files_facts c.args.release.now.current in
    let G : ℕ → Facts = files_facts c.args.release.now.prepared in
    let none = none_told c.args.touched.now c.as_slice.result.now c.is_empty.result c.as_slice.ensures c.is_empty.ensures c.if-is_empty.true in
    let same : (x : ℕ) → G x ≡ F x = λ x. c.requires.touched x (none_within c.args.touched.now none x) in
    stays F G c.args.self.now same c.requires.now c.requires.still

pub returns-then-is_empty-clause-changed : goal.returns-then-is_empty-clause-changed
returns-then-is_empty-clause-changed g c =
    let F : ℕ → Facts = files_facts c.args.release.now.current in
    let G : ℕ → Facts = files_facts c.args.release.now.prepared in
    let none = none_told c.args.touched.now c.as_slice.result.now c.is_empty.result c.as_slice.ensures c.is_empty.ensures c.if-is_empty.true in
    let same : (x : ℕ) → G x ≡ F x = λ x. c.requires.touched x (none_within c.args.touched.now none x) in
    c.new.ensures ∙ unchanged F G same
