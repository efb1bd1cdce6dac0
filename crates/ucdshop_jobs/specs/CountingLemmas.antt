-- How far a run raises its counter, from what is judged to what was seen.
use Rattle.std.proofs.Common.{◌≡◌, ◌≤◌, ℕ, ◌+◌, ◌*◌, Bool, true, false, List, [], map, Option, Some, None, Result, Ok, Err, refl, sym, subst, arith, inl, inr}
use Rattle.ucd_points.specs.Limits.{point_count}
use Rattle.ucdshop_jobs.specs.Counting.{FormCounts, PlannedCounts, StatusCounts, StopCounts, VerdictCounts, opened_limit, releases_of}
use Rattle.ucdshop_jobs.specs.Judging.{inputs_of}
use Rattle.ucdshop_jobs.specs.declared.inputs.Inputs.{Inputs as InputsMade}
use Rattle.run_endings.specs.Ends.{Ends}
use Rattle.run_endings.specs.Outcome.{Finished, ShelfSeen, SinkSeen, StoppedWith, status_if}
use Rattle.run_endings.specs.Promises.{shelf_seen}
use Rattle.run_endings.specs.declared.plan.Plan.{Plan}
use Rattle.run_endings.specs.declared.status.Status.{Status}
use Rattle.run_endings.specs.declared.status.Status.TheVariants.{BadWords, LoadRefused, ReadFault, WriteFault, Memory as OutOfMemory}
use Rattle.run_endings.specs.declared.stop.Stop.{Stop}
use Rattle.run_endings.specs.declared.stop.Stop.TheVariants.{Refused, ReadFailed, Memory}
use Rattle.shelf_io.specs.declared.shelf.Shelf.{Ghosts as ShelfGhosts}
use Rattle.run_inputs.specs.Judging.{ToldAs}
use Rattle.run_endings.specs.Endings.{Contents, Seen, Sees, paths_read}
use Rattle.ucdshop_jobs.specs.Jobs.{Job, needed}
use Rattle.ucdshop_jobs.specs.Run.{Inputs, job_verdict, ucdshop}
use Rattle.ucdshop_jobs.specs.Session.{started}
use Rattle.std.proofs.lemmas.List.{length-map}
use Rattle.ucdshop_jobs.specs.CarryingLemmas.{session_counts_none}

-- at least one release is opened
one_of : (previous : Option (List ℕ)) → point_count ≤ releases_of previous * point_count
one_of None = omega arith
one_of (Some previous) = omega arith

pub one_release : (job : Job) → point_count ≤ opened_limit job
one_release job = one_of job.previous

-- nothing is carried out
pub verdict_opened : (job : Job) (v : Result Inputs (List ℕ)) (old new : ℕ) → new ≤ old + opened_limit job → VerdictCounts job v old new
verdict_opened job (Ok inputs) old new le = (new, le, session_counts_none (started inputs.files) inputs.commands new)
verdict_opened job (Err line) old new le = le

-- ---- what was seen

pub unread_counts : (tells : Bool) (holds : Contents) (job : Job) (n : ℕ) → Sees tells holds (needed job) (λ seen. FormCounts (Some job) seen n n)
unread_counts tells holds job n =
    let held : Seen = map holds (needed job) in
    (held, record { each = length-map (needed job) holds; held = λ _. refl }, verdict_opened job (job_verdict job held) n n (omega arith))

-- the counter, by what the words ask for
abbrev pub FormSees : Bool → Contents → ℕ → ℕ → Option Job → Type 0
FormSees tells holds old new form = Sees tells holds (paths_read ucdshop form) (λ seen. FormCounts form seen old new)

pub form_counts : (tells : Bool) (holds : Contents) (form other : Option Job) (old new : ℕ) → form ≡ other → FormSees tells holds old new other → FormSees tells holds old new form
form_counts tells holds form other old new is = subst (FormSees tells holds old new) (sym is)

pub formless_counts : (tells : Bool) (holds : Contents) (form : Option Job) (n : ℕ) → form ≡ None → FormSees tells holds n n form
formless_counts tells holds form n is = subst (FormSees tells holds n n) (sym is) ([], record { each = refl; held = λ _. refl }, refl)

-- ---- why a run stops before it writes

pub stop_opens : (stop : Stop) (v : Result Inputs (List ℕ)) (job : Job) (old new : ℕ) → ToldAs {A = InputsMade} inputs_of (Err stop) v → new ≤ old + opened_limit job
    → StopCounts (Err stop) (Some job) old new
stop_opens (Refused line) v job old new told le = le
stop_opens (ReadFailed line) v job old new told le = absurd told
stop_opens Memory v job old new told le = tt

pub unread_stops : (stop : Stop) (job : Job) (n : ℕ) → StopCounts (Err stop) (Some job) n n
unread_stops (Refused line) job n = omega arith
unread_stops (ReadFailed line) job n = refl
unread_stops Memory job n = tt

pub form_stops : (answer : Result Plan Stop) (form : Option Job) (job : Job) (old new : ℕ) → form ≡ Some job → StopCounts answer (Some job) old new → StopCounts answer form old new
form_stops answer form job old new is = subst (λ (it : Option Job). StopCounts answer it old new) (sym is)

-- ---- what a status says

by_done : (done : Bool) (form : Option Job) (old new : ℕ) → StatusCounts (status_if done) form old new
by_done true form old new = tt
by_done false form old new = tt

module _ (form : Option Job) (old new : ℕ) where
  as_status : (a b : Status) → a ≡ b → StatusCounts b form old new → StatusCounts a form old new
  as_status a b e h = subst (λ (s : Status). StatusCounts s form old new) (sym e) h

  finished_counts : (plan : Plan) (shelf : ShelfSeen) (sink : SinkSeen) (status : Status) → Finished plan shelf sink status → StatusCounts status form old new
  finished_counts plan shelf sink status f = elim f [
    | inl well ↦ as_status status (status_if plan.done) well.0 (by_done plan.done form old new)
    | inr fault ↦ as_status status WriteFault fault.0 tt
  ]

  stopped_counts : (stop : Stop) (sink : SinkSeen) (status : Status) → StoppedWith stop sink status → StopCounts (Err stop) form old new → StatusCounts status form old new
  stopped_counts (Refused line) sink status told h = as_status status LoadRefused told.0 h
  stopped_counts (ReadFailed line) sink status told h = as_status status ReadFault told.0 h
  stopped_counts Memory sink status told h = as_status status OutOfMemory told.0 tt

  pub ends_count : {S : Type 0} (usage : List ℕ) (planned : Option (Result Plan Stop)) (g : ShelfGhosts S) (a b : S) (sink : SinkSeen) (status : Status)
      → Ends usage planned g a b sink status → PlannedCounts planned form old new → StatusCounts status form old new
  ends_count usage None g a b sink status ends h = as_status status BadWords ends.0 tt
  ends_count usage (Some (Err stop)) g a b sink status ends h = stopped_counts stop sink status ends.0 h
  ends_count usage (Some (Ok plan)) g a b sink status ends h = finished_counts plan (shelf_seen g a b) sink status ends.0
