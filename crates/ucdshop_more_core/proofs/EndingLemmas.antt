-- How a run ends by what was planned: the paths of its files, and the order of its reads.
use Rattle.std.proofs.Common.{◌≡◌, Bool, true, false, List, ℕ, map, Option, Some, None, Result, Ok, Err, refl, sym, subst, ◌∙◌, inl, inr}
use Rattle.shelf_io.specs.declared.shelf.Shelf.{Ghosts as ShelfGhosts}
use Rattle.run_endings.specs.Endings.{Ending, Finishes, NewFile, Refuses, WritesItsPaths}
use Rattle.run_endings.specs.Ends.{Ends}
use Rattle.run_endings.specs.Outcome.{SinkSeen, status_if}
use Rattle.run_endings.specs.PromiseProofs.{refuses_finishes, same_ending}
use Rattle.run_endings.specs.Promises.{shelf_seen}
use Rattle.run_endings.specs.declared.plan.Plan.{Plan}
use Rattle.run_endings.specs.declared.status.Status.{Status}
use Rattle.run_endings.specs.declared.status.Status.TheVariants.{ReadFault}
use Rattle.run_endings.specs.declared.stop.Stop.{Stop}
use Rattle.run_endings.specs.declared.stop.Stop.TheVariants as stops
use Rattle.ucdshop_more_core.specs.Order.{PlansInOrder, ReadsInOrder}
use Rattle.ucdshop_more_core.specs.Drafts.{draft_verdict}
use Rattle.ucdshop_more_core.specs.Run.{Ages, Conform, Desk, Undo, ages_ending, conform_ending, desk_ending, finished, folders_verdict, output_paths, ucdshop_more, undo_ending}
use Rattle.ucdshop_more_core.specs.Sessions.{session_verdict}
use Rattle.ucdshop_more_core.specs.Trials.{trial_verdict}

-- ---- the paths of the files

abbrev paths_of : Ending → List (List ℕ)
paths_of ending = map (λ (file : NewFile). file.path) ending.files

ended_paths : {A : Type 0} (ending : A → Ending) (paths : List (List ℕ)) → ((value : A) → paths_of (ending value) ≡ paths) → (verdict : Result A (List ℕ)) (end : Ending)
    → finished ending verdict ≡ Finishes end → paths_of end ≡ paths
ended_paths ending paths each (Ok value) end e =
    subst (λ (it : Ending). paths_of it ≡ paths) (same_ending (finished ending (Ok value)) (ending value) end refl e) (each value)
ended_paths ending paths each (Err line) end e = absurd (refuses_finishes (Refuses line) line end refl e)

pub writes_its_paths : WritesItsPaths ucdshop_more
writes_its_paths (Desk input events output) seen end e =
    ended_paths (desk_ending output) (output_paths (Desk input events output)) (λ session. refl) (session_verdict input events seen) end e
writes_its_paths (Undo input script output depth) seen end e =
    ended_paths (undo_ending output depth) (output_paths (Undo input script output depth)) (λ draft. refl) (draft_verdict input script seen) end e
writes_its_paths (Conform input tests output) seen end e =
    ended_paths (conform_ending output) (output_paths (Conform input tests output)) (λ trial. refl) (trial_verdict input tests seen) end e
writes_its_paths (Ages output folders) seen end e =
    ended_paths (ages_ending output) (output_paths (Ages output folders)) (λ releases. refl) (folders_verdict folders seen) end e

-- ---- the order of the reads

no_read_fault : (done : Bool) → status_if done ≡ ReadFault → ⊥
no_read_fault true e = cc
no_read_fault false e = cc

-- a run ends by a read that failed only where that was planned
pub reads_in_order : {S : Type 0} (words : List (List ℕ)) (usage : List ℕ) (g : ShelfGhosts S) (start middle end : S) (sink : SinkSeen) (status : Status) (planned : Option (Result Plan Stop))
    → Ends usage planned g middle end sink status → PlansInOrder words planned (shelf_seen g start middle) → status ≡ ReadFault → ReadsInOrder words (shelf_seen g start end) sink
reads_in_order words usage g start middle end sink status None ends order fault = let is = ends.0 in absurd cc
reads_in_order words usage g start middle end sink status (Some (Ok plan)) ends order fault = elim ends.0 [
  | inl all ↦ absurd (no_read_fault plan.done (sym all.0 ∙ fault))
  | inr stopped ↦ let is = stopped.0 in absurd cc
]
reads_in_order words usage g start middle end sink status (Some (Err (stops.Refused line))) ends order fault = let is = ends.0.0 in absurd cc
reads_in_order words usage g start middle end sink status (Some (Err (stops.ReadFailed line))) ends order fault =
    subst (λ (last : _). ReadsInOrder words (shelf_seen g start last) sink) (sym ends.1)
    (record { job = order.0; formed = order.1; line = line; names = order.2; told = ends.0.1 })
reads_in_order words usage g start middle end sink status (Some (Err stops.Memory)) ends order fault = let is = ends.0.0 in absurd cc
