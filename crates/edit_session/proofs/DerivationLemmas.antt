-- What is derived, over facts that are the same.
use Rattle.std.proofs.Common.{◌≡◌, ℕ, Bool, true, false, not, List, [], ◌∷◌, Option, Some, None, Ok, Err, length, cond, ◌==◌, filter, refl, sym, ap, subst, ◌∙◌, arith}
use Rattle.std.specs.List.{list_any, range_with_len}
use Rattle.std.proofs.lemmas.Bool.Decides.{nat_tests}
use Rattle.ucd_points.specs.Bounds.{Bounds}
use Rattle.range_table.specs.Values.{SameValues}
use Rattle.ucd_facts.specs.Facts.{Facts, within}
use Rattle.ucd_points.specs.Limits.{point_count}
use Rattle.ucd_model.specs.Records.{Record, record_at}
use Rattle.ucd_model.specs.Sameness.{same_record}
use Rattle.ucd_model.specs.SamenessProofs.{records_are_told}
use Rattle.ucd_model.specs.Validity.{first_broken}
use Rattle.ucd_model.specs.ValidityLaws.{IsValid}
use Rattle.ucd_model.specs.ValidityProofs.{valid_is_unbroken}
use Rattle.ucd_facts.specs.declared.form.Broken.{Broken}
use Rattle.ucd_facts.specs.Answers.{TellsChanges}
use Rattle.ucd_facts.specs.declared.query.Query.{Query}
use Rattle.record_table.specs.Records.{record_next, record_now}
use Rattle.record_turns.specs.Turned.{CountsWithin, IsReady, IsTurned, StopsTurn}
use Rattle.record_turns.specs.declared.again_stop.AgainStop.{AgainStop}
use Rattle.record_turns.specs.declared.again_stop.AgainStop.TheVariants.{Broken as Breaks, Memory as Lacking}
use Rattle.release_rows.specs.FileItems.{FileItem}
use Rattle.fact_tables.specs.FactTables.{tables_facts, tables_next}
use Rattle.dependency_map.specs.Maps.{asked_at}
use Rattle.point_store.specs.SlotStore.{values}
use Rattle.mention_index.specs.declared.mentions.Mentions.{Mentions}
use Rattle.paged_table.specs.Paged.{values_next, values_now}
use Rattle.edit_session.specs.Derivations.{AreOf, IsNext, IsNow, IsStill}
use Rattle.edit_session.specs.declared.derivation.Derivation.{Derivation}
use Rattle.edit_session.specs.Questions.{AreStill, HasWalked, Keeps, KeepsNow}
use Rattle.edit_session.specs.declared.questions.Questions.{Questions}
use Rattle.edit_session.proofs.QuestionLemmas.{alike, keeps_next, keeps_same}
use Rattle.edit_session.specs.Groups.{AnswersAs, changed, checked_files, files_facts, refused_by, valid_files}
use Rattle.edit_session.specs.declared.apply_stop.ApplyStop.{ApplyStop}
use Rattle.edit_session.specs.declared.apply_stop.ApplyStop.TheVariants.{Refused as Refuses}
use Rattle.edit_session.specs.declared.apply_stop.Refused.TheVariants.{Valid}

abbrev Files : Type 0
Files = List (List FileItem)

-- ---- facts that are the same

-- the same facts and records, kept elsewhere, and questions that are kept as well
pub moved : (F before after : ℕ → Facts) (old new : ℕ → Record) (then now : Option Mentions) (A B : ℕ → List Query) → after ≡ before → SameValues new old → (Keeps then A F → Keeps now B F) → AreOf F before old then A → AreOf F after new now B
unfolding point_count
moved F before after old new then now A B same records questions is = record {
  same = same ∙ is.same;
  valid = is.valid;
  records = λ c lt. records c lt ∙ is.records c lt;
  kept = questions is.kept;
}

-- the facts under another name
pub valid_over : (F G : ℕ → Facts) → F ≡ G → IsValid F → IsValid G
valid_over F G same valid = subst IsValid same valid

-- questions that are kept for these facts
pub kept_now : (F facts : ℕ → Facts) (R S : ℕ → Record) (then now : Option Mentions) (A B C : ℕ → List Query) → SameValues S R → Keeps now B facts → SameValues C B → AreOf F facts R then A → AreOf F facts S now C
unfolding point_count
kept_now F facts R S then now A B C records kept asked is = record {
  same = is.same;
  valid = is.valid;
  records = λ c lt. records c lt ∙ is.records c lt;
  kept = subst (λ (H : ℕ → Facts). Keeps now C H) is.same (keeps_same now B C facts asked kept);
}

-- what is derived is that of its own facts
pub itself : (F before after : ℕ → Facts) (R : ℕ → Record) (m : Option Mentions) (A : ℕ → List Query) → after ≡ before → AreOf F before R m A → AreOf after after R m A
itself F before after R m A same is =
    subst (λ (H : ℕ → Facts). AreOf H after R m A) (sym (same ∙ is.same)) (record { same = same ∙ is.same; valid = is.valid; records = is.records; kept = is.kept })

-- ---- a turn

module _ (d : Derivation) (asked : Questions) (view : ℕ → Facts) (Q : List Query) (kept : KeepsNow (tables_facts values_now d.tables) asked) (walked : HasWalked asked.mentions Q) (shown : view ≡ tables_next values_now d.tables) where
  abbrev F : ℕ → Facts
  F = tables_facts values_now d.tables

  abbrev G : ℕ → Facts
  G = tables_next values_now d.tables

  abbrev A : ℕ → List Query
  A = asked_at (values values_now) asked.map

  pub ready : IsNow F d → AreStill asked → TellsChanges F G Q → IsReady F view (record_now d.records) A (asked_at (values values_next) asked.map) Q
  ready is still tells = record {
    valid = is.valid;
    records = is.records;
    alike = alike asked.mentions A F Q kept walked;
    still = still;
    changes = subst (λ (H : ℕ → Facts). TellsChanges F H Q) (sym shown) tells;
  }

  over : (S : ℕ → Record) (B : ℕ → List Query) (points : List ℕ) → IsTurned F view S A B Q points → IsTurned F G S A B Q points
  over S B points turn = subst (λ (H : ℕ → Facts). IsTurned F H S A B Q points) shown turn

  pub turned : (S : ℕ → Record) (B : ℕ → List Query) (points : List ℕ) → IsTurned F view S A B Q points → AreOf G G S asked.mentions B
  turned S B points turn =
      let next = over S B points turn in
      record { same = refl; valid = next.valid; records = next.records; kept = keeps_next asked.mentions A B F G Q kept walked next.kept }

  pub turned_points : (S : ℕ → Record) (B : ℕ → List Query) (points : List ℕ) → IsTurned F view S A B Q points → points ≡ changed F G
  turned_points S B points turn = let next = over S B points turn in next.changed

pub counts_over : (F G view : ℕ → Facts) (old new : ℕ) → view ≡ G → CountsWithin F view old new → CountsWithin F G old new
counts_over F G view old new shown counts = subst (λ (H : ℕ → Facts). CountsWithin F H old new) shown counts

-- ---- what it is answered

pub answers_valid : {A : Type 0} (x : A) (files : Files) → IsValid (files_facts files) → AnswersAs (Ok x) (checked_files (Ok files)) files
answers_valid x files valid = by (first_broken (files_facts files)) ((valid_is_unbroken (files_facts files)).0 valid)
  where
    by : (b : Option Broken) → b ≡ None → AnswersAs (Ok x) (valid_files files b) files
    by None e = refl
    by (Some b) e = absurd cc

pub answers_broken : (A : Type 0) (view : ℕ → Facts) (stop : AgainStop) (told : ApplyStop) (files : Files) → view ≡ files_facts files → told ≡ refused_by stop → StopsTurn view stop
    → AnswersAs {A = A} (Err told) (checked_files (Ok files)) files
answers_broken A view stop told files shown is stops =
    subst (λ (s : ApplyStop). AnswersAs {A = A} (Err s) (checked_files (Ok files)) files) (sym is) (by stop (subst (λ (H : ℕ → Facts). StopsTurn H stop) shown stops))
  where
    by : (s : AgainStop) → StopsTurn (files_facts files) s → AnswersAs {A = A} (Err (refused_by s)) (checked_files (Ok files)) files
    by (Breaks rule point) h = subst (λ (b : Option Broken). AnswersAs {A = A} (Err (Refuses (Valid rule point))) (valid_files files b) files) (sym h) refl
    by Lacking h = tt

-- ---- no fact is another one

abbrev Untouched : (ℕ → Facts) → (ℕ → Facts) → Type 0
Untouched F G = (c : ℕ) → G c ≡ F c

pub same_facts : (F G : ℕ → Facts) → Untouched F G → F ≡ G
same_facts F G same = sym (λ i c. same c i)

none_pass : (p : ℕ → Bool) → ((c : ℕ) → p c ≡ false) → (xs : List ℕ) → [] ≡ filter p xs
none_pass p none [] = refl
none_pass p none (x ∷ xs) = none_pass p none xs ∙ sym (ap (λ (b : Bool). cond b (x ∷ filter p xs) (filter p xs)) (none x))

none_changed : (F : ℕ → Facts) → [] ≡ changed F F
none_changed F = none_pass (λ c. not (same_record (record_at F c) (record_at F c))) (λ c. ap not ((records_are_told (record_at F c) (record_at F c)).1 refl)) (range_with_len 0 point_count)

pub unchanged : (F G : ℕ → Facts) → Untouched F G → [] ≡ changed F G
unchanged F G same = subst (λ (H : ℕ → Facts). [] ≡ changed F H) (same_facts F G same) (none_changed F)

-- what the derivation has next is that of facts that are the same
pub stays : (F G : ℕ → Facts) (d : Derivation) → Untouched F G → IsNow F d → IsStill d → IsNext G d
stays F G d same now still =
    moved G (tables_facts values_now d.tables) (tables_next values_now d.tables) (record_now d.records) (record_next d.records) d.questions.mentions d.questions.mentions
    (asked_at (values values_now) d.questions.map) (asked_at (values values_next) d.questions.map) still.tables still.records
    (keeps_same d.questions.mentions (asked_at (values values_now) d.questions.map) (asked_at (values values_next) d.questions.map) G still.asked)
    (subst (λ (H : ℕ → Facts). IsNow H d) (same_facts F G same) now)

-- no span, no touched code point
pub none_within : (spans : List Bounds) → (length spans == 0) ≡ true → (c : ℕ) → list_any (within c) spans ≡ false
none_within [] e c = refl
none_within (s ∷ rest) e c = absurd (let no : length (s ∷ rest) ≡ 0 = grind (arith, nat_tests) in omega (arith, no))
