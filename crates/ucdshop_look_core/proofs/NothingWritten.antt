-- No ending of this program has a file, so that every path holds what it held, whatever the status.
use Rattle.std.proofs.Common.{◌≡◌, ℕ, IsTrue, List, [], map, Option, Some, None, Result, Ok, Err, refl, ap, subst, ◌∙◌, inl, inr, slice_get}
use Rattle.shelf_io.specs.Contents.{SameContents}
use Rattle.run_endings.specs.Endings.{Contents, Ending, EndsAs, Finishes, NewFile, Refuses, Replaced, Seen, Sees, WritesItsPaths, after, expected_by, needed}
use Rattle.run_endings.specs.Outcome.{Leaves, ShelfSeen, SinkSeen}
use Rattle.run_endings.specs.PromiseProofs.{refuses_finishes, same_ending}
use Rattle.run_endings.specs.Promises.{Promises}
use Rattle.run_endings.specs.declared.status.Status.{Status}
use Rattle.run_endings.specs.declared.status.Status.TheVariants.{Clean, Done, BadWords, LoadRefused, ReadFault, WriteFault, Memory}
use Rattle.run_inputs.specs.Held.{source_held}
use Rattle.run_inputs.specs.Refusals.{folder_verdict}
use Rattle.ucdshop_jobs.specs.Run.{inputs_verdict}
use Rattle.ucdshop_look_core.specs.Answers.{ask_ending}
use Rattle.ucdshop_look_core.specs.Changes.{changes_ending}
use Rattle.ucdshop_look_core.specs.Checks.{check_ending}
use Rattle.ucdshop_look_core.specs.Jobs.{Job, Ask, Changes, Check, Show, form}
use Rattle.ucdshop_look_core.specs.Run.{expected_of, finished, ucdshop_look}
use Rattle.ucdshop_look_core.specs.Shown.{show_ending}

ended_without : {A : Type 0} (ending : A → Ending) → ((value : A) → (ending value).files ≡ []) → (verdict : Result A (List ℕ)) (end : Ending) → finished ending verdict ≡ Finishes end → end.files ≡ []
ended_without ending none (Ok value) end e = subst (λ (it : Ending). it.files ≡ []) (same_ending (finished ending (Ok value)) (ending value) end refl e) (none value)
ended_without ending none (Err line) end e = absurd (refuses_finishes (Refuses line) line end refl e)

pub ends_without_files : (job : Job) (seen : Seen) (ending : Ending) → expected_of job seen ≡ Finishes ending → ending.files ≡ []
ends_without_files (Ask folder questions) seen ending e = ended_without (ask_ending questions) (λ files. refl) (folder_verdict folder (source_held seen 0)) ending e
ends_without_files (Show folder points) seen ending e = ended_without (show_ending points) (λ files. refl) (folder_verdict folder (source_held seen 0)) ending e
ends_without_files (Check run) seen ending e = ended_without check_ending (λ inputs. refl) (inputs_verdict run seen) ending e
ends_without_files (Changes run) seen ending e = ended_without changes_ending (λ inputs. refl) (inputs_verdict run seen) ending e

pub writes_its_paths : WritesItsPaths ucdshop_look
writes_its_paths job seen ending e = ap (λ (files : List NewFile). map (λ (file : NewFile). file.path) files) (ends_without_files job seen ending e)

-- ---- what a run leaves on the shelf

words_without : (asked : Option Job) (seen : Seen) (ending : Ending) → expected_by ucdshop_look asked seen ≡ Finishes ending → ending.files ≡ []
words_without None seen ending e = absurd cc
words_without (Some job) seen ending e = ends_without_files job seen ending e

replaced_none : (files : List NewFile) (old new : Contents) → files ≡ [] → Replaced files old new → SameContents old new
replaced_none files old new none is = λ path. is path ∙ ap (λ (fs : List NewFile). after fs old path) none

no_output : (path : List ℕ) (place : ℕ) → slice_get [] place ≡ Some path → ⊥
no_output path place e = absurd cc

module _ (words : List (List ℕ)) (shelf : ShelfSeen) (sink : SinkSeen) where
  left : (status : Status) → IsTrue shelf.tells → Sees shelf.tells shelf.old (needed ucdshop_look words) (λ seen. EndsAs ucdshop_look words seen (λ ending. Leaves ending shelf sink status)) → SameContents shelf.old shelf.new
  left status tells (seen, is, (ending, e, leaves)) = replaced_none ending.files shelf.old shelf.new (words_without (form words) seen ending e) (leaves.written tells)

  pub stays : (status : Status) → Promises ucdshop_look words shelf sink status → IsTrue shelf.tells → SameContents shelf.old shelf.new
  stays Clean p tells = left Clean tells (p.finished tt)
  stays Done p tells = left Done tells (p.finished tt)
  stays BadWords p tells = p.unchanged tells tt
  stays LoadRefused p tells = p.unchanged tells tt
  stays ReadFault p tells = p.unchanged tells tt
  stays Memory p tells = p.unchanged tells tt
  stays WriteFault p tells =
      let at = p.write_fault refl in
      elim at.2.2 [
        | inl stopped ↦ absurd (no_output stopped.path stopped.place stopped.output.2)
        | inr untold ↦ replaced_none at.2.0.files shelf.old shelf.new (words_without (form words) at.0 at.2.0 at.2.1) (untold.written tells)
      ]
