-- What a run leaves, from what its parts leave.
use Rattle.std.proofs.Common.{◌≡◌, ◌⊎◌, ℕ, Bool, true, false, IsTrue, List, ◌++◌, take, map, Option, Some, None, Result, Ok, Err, sym, ap, subst, ◌∙◌, inl, inr, slice_get, option_map}
use mathlib.Core.Path.{fun_ext}
use Rattle.std.proofs.lemmas.Option.{slice_get-map}
use Rattle.shelf_io.specs.Counts.{Rose}
use Rattle.shelf_io.specs.Contents.{SameContents}
use Rattle.shelf_io.specs.declared.shelf.Shelf.{Ghosts as ShelfGhosts}
use Rattle.run_endings.specs.Printed.{write_failed}
use Rattle.run_endings.specs.Endings.{Contents, Program, NewFile, Ending, Refuses, WritesItsPaths, expected, expected_by, needed, paths_read, after, Replaced, Seen, Sees, EndsAs}
use Rattle.run_endings.specs.Planning.{HasPlan, HaveLines, IsPlanOf}
use Rattle.run_endings.specs.Promises.{shelf_seen}
use Rattle.run_endings.specs.Ends.{Ends, Plans, Prepares, Untouched}
use Rattle.run_endings.specs.Writing.{file_of, files_of}
use Rattle.run_endings.specs.Outcome.{ShelfSeen, SinkSeen, LastFailedStays, Grew, GrewInPart, Told, IsFinished, Leaves, IsWriteStopped, IsUntold, Outcome, StoppedWith, StopsWriting, WritesAll, Finished, Unchanged, status_if}
use Rattle.run_endings.specs.declared.plan.Plan.{Plan}
use Rattle.run_endings.specs.declared.output.Output.{Output}
use Rattle.run_endings.specs.declared.stop.Stop.{Stop}
use Rattle.run_endings.specs.declared.stop.Stop.TheVariants as stops
use Rattle.run_endings.specs.declared.status.Status.{Status}
use Rattle.run_endings.specs.declared.status.Status.TheVariants.{BadWords}

some_is : {A : Type 0} (x y : A) (o : Option A) → o ≡ Some x → o ≡ Some y → x ≡ y
some_is x y o p q = cc

-- what was seen is what is held
pub seen_held : (tells : Bool) (holds : Contents) (paths : List (List ℕ)) (P : Seen → Type 0) → Sees tells holds paths P → IsTrue tells → P (map holds paths)
seen_held tells holds paths P sees told = subst P (sees.1.held told) sees.2

slice_get_of_map : {A B : Type 0} (f : A → B) (xs : List A) (i : ℕ) (x : A) → slice_get xs i ≡ Some x → slice_get (map f xs) i ≡ Some (f x)
slice_get_of_map f xs i x e = slice_get-map f xs i ∙ ap (option_map f) e

output_path : (written : List (List ℕ)) (ending : Ending) (plan : Plan) (place : ℕ) (output : Output) → map (λ (file : NewFile). file.path) ending.files ≡ written
    → HasPlan ending plan → slice_get plan.outputs.items place ≡ Some output → slice_get written place ≡ Some output.path
output_path written ending plan place output paths has here =
    let file : slice_get ending.files place ≡ Some (file_of output) = subst (λ (files : List NewFile). slice_get files place ≡ Some (file_of output)) has.files (slice_get_of_map file_of plan.outputs.items place output here) in
    subst (λ (ps : List (List ℕ)). slice_get ps place ≡ Some output.path) paths (slice_get_of_map (λ (file : NewFile). file.path) ending.files place (file_of output) file)

output_line : (outputs : List Output) (place : ℕ) (output : Output) → HaveLines outputs → slice_get outputs place ≡ Some output → output.fault_line ≡ write_failed output.path
output_line outputs place output lines here =
    some_is output.fault_line (write_failed output.path) (slice_get (map (λ (o : Output). o.fault_line) outputs) place)
    (slice_get_of_map (λ (o : Output). o.fault_line) outputs place output here)
    (ap (λ (texts : List (List ℕ)). slice_get texts place) lines ∙ slice_get_of_map (λ (o : Output). write_failed o.path) outputs place output here)

-- contents that are the same before a write
replaced_from : (files others : List NewFile) (old mid new : Contents) → others ≡ files → SameContents old mid → Replaced others mid new → Replaced files old new
replaced_from files others old mid new e same replaced path =
    replaced path ∙ ap (λ (fs : List NewFile). after fs mid path) e ∙ ap (λ (h : Contents). after files h path) (fun_ext same)

-- ---- a run of words that have a form

-- the status of an ending is Done or Clean
by_done : {Job : Type 0} (p : Program Job) (words : List (List ℕ)) (shelf : ShelfSeen) (sink : SinkSeen) (done : Bool) → IsFinished p words shelf sink (status_if done) → Outcome p words shelf sink (status_if done)
by_done p words shelf sink true finished = finished
by_done p words shelf sink false finished = finished

module _ {Job : Type 0} (p : Program Job) (words : List (List ℕ)) (job : Job) (formed : p.form words ≡ Some job) where
  expected_form : (seen : Seen) → expected p words seen ≡ p.expected job seen
  expected_form seen = ap (λ (form : Option Job). expected_by p form seen) formed

  -- what was seen at the paths of the job was seen at those that the words need
  sees_words : (tells : Bool) (holds : Contents) (P : Seen → Type 0) → Sees tells holds (p.needed job) P → Sees tells holds (needed p words) P
  sees_words tells holds P = subst (λ (paths : List (List ℕ)). Sees tells holds paths P) (sym (ap (paths_read p) formed))

  -- the ending of a plan
  ends_as : (plan : Plan) (tells : Bool) (old : Contents) (P : Ending → Type 0) → WritesItsPaths p → Sees tells old (p.needed job) (λ seen. IsPlanOf plan (p.expected job seen))
      → ((ending : Ending) → map (λ (file : NewFile). file.path) ending.files ≡ p.written job → HasPlan ending plan → P ending)
      → Sees tells old (needed p words) (λ seen. EndsAs p words seen P)
  ends_as plan tells old P writes planned each =
      let seen = planned.0 in
      let ending = planned.2.0 in
      let finishes = planned.2.1 in
      sees_words tells old (λ seen. EndsAs p words seen P)
      (seen, planned.1, (ending, expected_form seen ∙ finishes, each ending (writes job seen ending finishes) planned.2.2))

  module _ {S : Type 0} (g : ShelfGhosts S) (start middle end : S) (sink : SinkSeen) (same : Unchanged (shelf_seen g start middle)) where
    -- what the shelf held before the first write is what it held at the start
    written_all : (plan : Plan) (ending : Ending) → HasPlan ending plan → WritesAll plan (shelf_seen g middle end) → IsTrue g.tells → Replaced ending.files (g.holds start) (g.holds end)
    written_all plan ending has all told = replaced_from ending.files (files_of plan.outputs.items) (g.holds start) (g.holds middle) (g.holds end) has.files (same told) (all.written told)

    leaves_all : (plan : Plan) (ending : Ending) → HasPlan ending plan → WritesAll plan (shelf_seen g middle end) → Grew plan.summary sink
        → Leaves ending (shelf_seen g start end) sink (status_if plan.done)
    leaves_all plan ending has all grew = record {
      as_it_says = ap status_if has.done;
      written = written_all plan ending has all;
      told = λ told. grew told ∙ ap (λ (line : List ℕ). sink.old ++ line) has.summary;
    }

    stopped_so : (plan : Plan) (ending : Ending) → map (λ (file : NewFile). file.path) ending.files ≡ p.written job → HasPlan ending plan
        → g.write_faults middle ≡ g.write_faults start → StopsWriting plan (shelf_seen g middle end) sink → IsWriteStopped p words ending (shelf_seen g start end) sink
    stopped_so plan ending paths has writes stopped =
        let place = stopped.written.0 in
        let output = stopped.written.1 in
        let at = stopped.written.2 in
        record {
          rose = subst (λ (n : ℕ). Rose n (g.write_faults end)) writes stopped.rose;
          path = output.path;
          place = place;
          output = (job, formed, output_path (p.written job) ending plan place output paths has at.here);
          written = λ told other differs.
              at.others told other differs ∙ ap (λ (fs : List NewFile). after (take place fs) (g.holds middle) other) has.files
              ∙ ap (λ (h : Contents). after (take place ending.files) h other) (fun_ext (same told));
          told = subst (λ (line : List ℕ). Told line sink) (at.told ∙ output_line plan.outputs.items place output has.lines at.here) stopped.told;
        }

    untold_so : (plan : Plan) (ending : Ending) → HasPlan ending plan → WritesAll plan (shelf_seen g middle end) → GrewInPart plan.summary sink → IsUntold ending (shelf_seen g start end) sink
    untold_so plan ending has all grew = record { written = written_all plan ending has all; told = subst (λ (line : List ℕ). GrewInPart line sink) has.summary grew }

    outcome_finished : (plan : Plan) (status : Status) → WritesItsPaths p → Prepares p job (Ok plan) (shelf_seen g start middle)
        → Finished plan (shelf_seen g middle end) sink status → LastFailedStays (shelf_seen g middle end) → Outcome p words (shelf_seen g start end) sink status
    outcome_finished plan status writes prepared (inl (e, all, grew)) stays =
        subst (Outcome p words (shelf_seen g start end) sink) (sym e) (by_done p words (shelf_seen g start end) sink plan.done (record {
          job = job;
          formed = formed;
          read = λ tells. stays tells ∙ prepared.unread tells;
          ends = ends_as plan g.tells (g.holds start) (λ ending. Leaves ending (shelf_seen g start end) sink (status_if plan.done)) writes prepared.planned
              (λ ending paths has. leaves_all plan ending has all grew);
        }))
    outcome_finished plan status writes prepared (inr (e, faulty)) stays =
        subst (Outcome p words (shelf_seen g start end) sink) (sym e) (record {
          job = job;
          formed = formed;
          read = λ tells. stays tells ∙ prepared.unread tells;
          ends = ends_as plan g.tells (g.holds start) (λ ending. IsWriteStopped p words ending (shelf_seen g start end) sink ⊎ IsUntold ending (shelf_seen g start end) sink) writes prepared.planned
              (λ ending paths has. elim faulty [
                | inl stopped ↦ inl (stopped_so plan ending paths has prepared.only_read.write_faults_stay stopped)
                | inr untold ↦ inr (untold_so plan ending has untold.0 untold.1)
              ]);
        })

  outcome_stopped : (stop : Stop) (shelf : ShelfSeen) (sink : SinkSeen) (status : Status) → Prepares p job (Err stop) shelf → StoppedWith stop sink status → Outcome p words shelf sink status
  outcome_stopped (stops.Refused line) shelf sink status prepared told =
      let refused : Sees shelf.tells shelf.old (p.needed job) (λ seen. p.expected job seen ≡ Refuses line) = prepared.planned in
      subst (Outcome p words shelf sink) (sym told.0) (record {
        job = job;
        formed = formed;
        line = line;
        refused = sees_words shelf.tells shelf.old (λ seen. expected p words seen ≡ Refuses line) (refused.0, refused.1, expected_form refused.0 ∙ refused.2);
        read = prepared.unread;
        writes = prepared.only_read.write_faults_stay;
        unchanged = prepared.only_read.held_stays;
        told = told.1;
      })
  outcome_stopped (stops.ReadFailed line) shelf sink status prepared told =
      let names = prepared.unread.1 in
      subst (Outcome p words shelf sink) (sym told.0) (record {
        job = job;
        formed = formed;
        rose = prepared.unread.0;
        path = names.path;
        place = names.place;
        needed = names.needed;
        last = names.last;
        writes = prepared.only_read.write_faults_stay;
        unchanged = prepared.only_read.held_stays;
        told = subst (λ (l : List ℕ). Told l sink) names.told told.1;
      })
  outcome_stopped stops.Memory shelf sink status prepared told =
      subst (Outcome p words shelf sink) (sym told.0) (record {
        job = job;
        formed = formed;
        writes = prepared.only_read.write_faults_stay;
        unchanged = prepared.only_read.held_stays;
        told = told.1;
      })

-- ---- any run

outcome_unformed : {Job : Type 0} (p : Program Job) (words : List (List ℕ)) (shelf : ShelfSeen) (sink : SinkSeen) (status : Status) → p.form words ≡ None → Untouched shelf
    → status ≡ BadWords → Told p.usage sink → Outcome p words shelf sink status
outcome_unformed p words shelf sink status unformed untouched e told =
    subst (Outcome p words shelf sink) (sym e) (record {
      unformed = unformed;
      unread = untouched.reads;
      read = untouched.failed;
      writes = untouched.writes;
      unchanged = untouched.unchanged;
      told = told;
    })

-- a run that ends by what was planned leaves what its status says
pub outcome_reached : {Job S : Type 0} (p : Program Job) (words : List (List ℕ)) (g : ShelfGhosts S) (start middle end : S) (sink : SinkSeen) (status : Status) (planned : Option (Result Plan Stop))
    → WritesItsPaths p → Plans p words planned (shelf_seen g start middle) → Ends p.usage planned g middle end sink status → Outcome p words (shelf_seen g start end) sink status
outcome_reached p words g start middle end sink status None writes (unformed, untouched) (e, told, stays) =
    subst (λ (last : _). Outcome p words (shelf_seen g start last) sink status) (sym stays) (outcome_unformed p words (shelf_seen g start middle) sink status unformed untouched e told)
outcome_reached p words g start middle end sink status (Some (Ok plan)) writes (job, formed, prepared) (finished, stays) =
    outcome_finished p words job formed g start middle end sink prepared.only_read.held_stays plan status writes prepared finished stays
outcome_reached p words g start middle end sink status (Some (Err stop)) writes (job, formed, prepared) (told, stays) =
    subst (λ (last : _). Outcome p words (shelf_seen g start last) sink status) (sym stays) (outcome_stopped p words job formed stop (shelf_seen g start middle) sink status prepared told)
