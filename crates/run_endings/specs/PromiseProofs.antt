-- What each status says, from what a run leaves.
use Rattle.std.proofs.Common.{◌≡◌, ◌≢◌, ◌⊎◌, ◌↔◌, ℕ, IsTrue, List, [], Option, Some, None, Result, refl, ap, sym, subst, ◌∙◌, inl, inr, slice_get}
use Rattle.std.proofs.lemmas.Option.{same_Some}
use Rattle.shelf_io.specs.Counts.{Rose}
use Rattle.shelf_io.specs.Contents.{SameContents}
use Rattle.shelf_io.specs.declared.shelf.Shelf.{Ghosts as ShelfGhosts}
use Rattle.run_endings.specs.Printed.{read_failed}
use Rattle.run_endings.specs.Endings.{Program, Ending, Expected, NoForm, Refuses, Finishes, Seen, WritesItsPaths, expected, expected_by, needed, seen_in, Replaced, Sees, EndsAs, IsFine}
use Rattle.run_endings.specs.Ends.{Ends, Plans}
use Rattle.run_endings.specs.Outcome.{ShelfSeen, SinkSeen, Told, IsFinished, Leaves, Outcome, IsNeeded, FinishesWell, MayWrite, PassesReads, WritesNothing, status_of}
use Rattle.run_endings.specs.OutcomeProofs.{outcome_reached, seen_held}
use Rattle.run_endings.specs.Promises.{NoFault, Promises, shelf_seen}
use Rattle.run_endings.specs.declared.plan.Plan.{Plan}
use Rattle.run_endings.specs.declared.status.Status.{Status}
use Rattle.run_endings.specs.declared.status.Status.TheVariants.{Clean, Done, BadWords, LoadRefused, ReadFault, WriteFault, Memory}
use Rattle.run_endings.specs.declared.stop.Stop.{Stop}

no_form_finishes : (e : Expected) (ending : Ending) → e ≡ NoForm → e ≡ Finishes ending → ⊥
no_form_finishes e ending p q = cc

no_form_refuses : (e : Expected) (line : List ℕ) → e ≡ NoForm → e ≡ Refuses line → ⊥
no_form_refuses e line p q = cc

pub refuses_finishes : (e : Expected) (line : List ℕ) (ending : Ending) → e ≡ Refuses line → e ≡ Finishes ending → ⊥
refuses_finishes e line ending p q = cc

pub same_ending : (e : Expected) (a b : Ending) → e ≡ Finishes a → e ≡ Finishes b → a ≡ b
same_ending e a b p q = cc

some_none : {A : Type 0} (o : Option A) (x : A) → o ≡ Some x → o ≡ None → ⊥
some_none o x p q = cc

module _ {Job : Type 0} (p : Program Job) (words : List (List ℕ)) (shelf : ShelfSeen) (sink : SinkSeen) where
  -- words without a form expect nothing
  no_form : (seen : Seen) → p.form words ≡ None → expected p words seen ≡ NoForm
  no_form seen unformed = ap (λ (form : Option Job). expected_by p form seen) unformed

  -- the ending by what is held, over a shelf that tells that
  ends_held : (P : Ending → Type 0) → Sees shelf.tells shelf.old (needed p words) (λ seen. EndsAs p words seen P) → IsTrue shelf.tells → EndsAs p words (seen_in p words shelf.old) P
  ends_held P sees tells = seen_held shelf.tells shelf.old (needed p words) (λ seen. EndsAs p words seen P) sees tells

  refused_held : (line : List ℕ) → Sees shelf.tells shelf.old (needed p words) (λ seen. expected p words seen ≡ Refuses line) → IsTrue shelf.tells
      → expected p words (seen_in p words shelf.old) ≡ Refuses line
  refused_held line sees tells = seen_held shelf.tells shelf.old (needed p words) (λ seen. expected p words seen ≡ Refuses line) sees tells

  -- an ending that was seen is the one by what is held
  leaves_this : (status : Status) → IsFinished p words shelf sink status → IsTrue shelf.tells → (ending : Ending) → expected p words (seen_in p words shelf.old) ≡ Finishes ending
      → Leaves ending shelf sink status
  leaves_this status o tells ending e =
      let held = ends_held (λ it. Leaves it shelf sink status) o.ends tells in
      subst (λ (it : Ending). Leaves it shelf sink status) (same_ending (expected p words (seen_in p words shelf.old)) held.0 ending held.1 e) held.2

  -- a run that is not refused and meets no fault is finished, or wants memory
  finished_or_memory : (status : Status) → Outcome p words shelf sink status → IsTrue shelf.tells → (ending : Ending) → expected p words (seen_in p words shelf.old) ≡ Finishes ending
      → NoFault shelf sink → Leaves ending shelf sink status ⊎ (status ≡ Memory)
  finished_or_memory Clean o tells ending e none = inl (leaves_this Clean o tells ending e)
  finished_or_memory Done o tells ending e none = inl (leaves_this Done o tells ending e)
  finished_or_memory BadWords o tells ending e none = absurd (no_form_finishes _ ending (no_form (seen_in p words shelf.old) o.unformed) e)
  finished_or_memory LoadRefused o tells ending e none = absurd (refuses_finishes _ o.line ending (refused_held o.line o.refused tells) e)
  finished_or_memory ReadFault o tells ending e none = absurd (none.reads o.rose)
  finished_or_memory WriteFault o tells ending e none = elim o.ends.2.2 [ inl stopped ↦ absurd (none.writes stopped.rose) | inr untold ↦ absurd (none.puts untold.told.0) ]
  finished_or_memory Memory o tells ending e none = inr refl

  complete : (status : Status) → Outcome p words shelf sink status → IsTrue shelf.tells → (ending : Ending) → expected p words (seen_in p words shelf.old) ≡ Finishes ending
      → NoFault shelf sink → (status ≡ status_of ending) ⊎ (status ≡ Memory)
  complete status o tells ending e none = elim (finished_or_memory status o tells ending e none) [
    | inl leaves ↦ inl leaves.as_it_says
    | inr memory ↦ inr memory
  ]

  headline : (status : Status) → Outcome p words shelf sink status → IsTrue shelf.tells → (ending : Ending) → expected p words (seen_in p words shelf.old) ≡ Finishes ending
      → NoFault shelf sink → status ≢ Memory → (status ≡ status_of ending) × Replaced ending.files shelf.old shelf.new
  headline status o tells ending e none m = elim (finished_or_memory status o tells ending e none) [
    | inl leaves ↦ (leaves.as_it_says, leaves.written tells)
    | inr memory ↦ absurd (m memory)
  ]

  finished : (status : Status) → Outcome p words shelf sink status → FinishesWell status
      → Sees shelf.tells shelf.old (needed p words) (λ seen. EndsAs p words seen (λ ending. Leaves ending shelf sink status))
  finished Clean o well = o.ends
  finished Done o well = o.ends
  finished BadWords o well = absurd well
  finished LoadRefused o well = absurd well
  finished ReadFault o well = absurd well
  finished WriteFault o well = absurd well
  finished Memory o well = absurd well

  fine_only : (status : Status) → Outcome p words shelf sink status → MayWrite status → Sees shelf.tells shelf.old (needed p words) (IsFine p words)
  fine_only Clean o may = (o.ends.0, o.ends.1, (o.ends.2.0, o.ends.2.1))
  fine_only Done o may = (o.ends.0, o.ends.1, (o.ends.2.0, o.ends.2.1))
  fine_only WriteFault o may = (o.ends.0, o.ends.1, (o.ends.2.0, o.ends.2.1))
  fine_only _ o may = absurd may

  bad_words : (status : Status) → Outcome p words shelf sink status → (status ≡ BadWords) ↔ (p.form words ≡ None)
  bad_words BadWords o = (λ e. o.unformed, λ n. refl)
  bad_words _ o = (λ e. absurd cc, λ n. absurd (some_none (p.form words) o.job o.formed n))

  refused : (status : Status) → Outcome p words shelf sink status → IsTrue shelf.tells → (line : List ℕ) → expected p words (seen_in p words shelf.old) ≡ Refuses line
      → ¬ Rose shelf.reads_old shelf.reads_new → (status ≡ LoadRefused) ⊎ (status ≡ Memory)
  refused BadWords o tells line e r = absurd (no_form_refuses _ line (no_form (seen_in p words shelf.old) o.unformed) e)
  refused LoadRefused o tells line e r = inl refl
  refused ReadFault o tells line e r = absurd (r o.rose)
  refused Memory o tells line e r = inr refl
  refused _ o tells line e r = let held = ends_held _ o.ends tells in absurd (refuses_finishes _ line held.0 e held.1)

  no_failed_read : (status : Status) → Outcome p words shelf sink status → IsTrue shelf.tells_failed → PassesReads status → shelf.failed ≡ shelf.failed_old
  no_failed_read ReadFault o tells passes = absurd passes
  no_failed_read Memory o tells passes = absurd passes
  no_failed_read _ o tells passes = o.read tells

  unchanged : (status : Status) → Outcome p words shelf sink status → IsTrue shelf.tells → WritesNothing status → SameContents shelf.old shelf.new
  unchanged Clean o tells w = absurd w
  unchanged Done o tells w = absurd w
  unchanged WriteFault o tells w = absurd w
  unchanged _ o tells w = o.unchanged tells

  no_write_fault : (status : Status) → Outcome p words shelf sink status → WritesNothing status → shelf.writes_new ≡ shelf.writes_old
  no_write_fault Clean o w = absurd w
  no_write_fault Done o w = absurd w
  no_write_fault WriteFault o w = absurd w
  no_write_fault _ o w = o.writes

  -- ---- what one status says

  module _ (status : Status) (o : Outcome p words shelf sink status) where
    outcome_at : (it : Status) → status ≡ it → Outcome p words shelf sink it
    outcome_at it e = subst (Outcome p words shelf sink) e o

    refused_only : status ≡ LoadRefused → Sees shelf.tells shelf.old (needed p words) (λ seen. (line : List ℕ) × (expected p words seen ≡ Refuses line) × Told line sink)
    refused_only e = let c = outcome_at LoadRefused e in (c.refused.0, c.refused.1, (c.line, c.refused.2, c.told))

    read_fault_told : status ≡ ReadFault → (path : List ℕ) × IsNeeded p words path × (IsTrue shelf.tells_failed → path ≡ shelf.failed) × Told (read_failed path) sink
    read_fault_told e = let c = outcome_at ReadFault e in (c.path, (c.job, c.formed, c.place, c.needed), c.last, c.told)

    no_read_fault : (job : Job) → p.form words ≡ Some job → p.needed job ≡ [] → status ≢ ReadFault
    no_read_fault job formed none e =
        let c = outcome_at ReadFault e in
        let unneeded : p.needed c.job ≡ [] = ap p.needed (same_Some c.job job (sym c.formed ∙ formed)) ∙ none in
        some_none (slice_get [] c.place) c.path (subst (λ (paths : List (List ℕ)). slice_get paths c.place ≡ Some c.path) unneeded c.needed) refl

    -- a run that leaves what its status says keeps all promises
    pub promises : Promises p words shelf sink status
    promises = record {
      headline = headline status o;
      complete = complete status o;
      finished = finished status o;
      fine_only = fine_only status o;
      bad_words = bad_words status o;
      bad_words_unread = λ e. (outcome_at BadWords e).unread;
      bad_words_told = λ e. (outcome_at BadWords e).told;
      refused_only = refused_only;
      refused = refused status o;
      no_failed_read = no_failed_read status o;
      read_fault_only = λ e. (outcome_at ReadFault e).rose;
      read_fault_told = read_fault_told;
      no_read_fault = no_read_fault;
      write_fault = λ e. (outcome_at WriteFault e).ends;
      memory_told = λ e. (outcome_at Memory e).told;
      unchanged = unchanged status o;
      no_write_fault = no_write_fault status o;
    }

-- a run that ends by what was planned keeps all promises
pub promises_are_kept : {Job S : Type 0} (p : Program Job) (words : List (List ℕ)) (g : ShelfGhosts S) (start middle end : S) (sink : SinkSeen) (status : Status)
    (planned : Option (Result Plan Stop)) → WritesItsPaths p → Plans p words planned (shelf_seen g start middle) → Ends p.usage planned g middle end sink status
    → Promises p words (shelf_seen g start end) sink status
promises_are_kept p words g start middle end sink status planned writes plans ends =
    promises p words (shelf_seen g start end) sink status (outcome_reached p words g start middle end sink status planned writes plans ends)
