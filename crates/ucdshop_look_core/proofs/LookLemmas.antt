-- What is judged is what was seen, and what is then to be told.
use Rattle.std.proofs.Common.{◌≡◌, ◌≤◌, ℕ, Bool, List, length, map, Result, Ok, Err, sym, ap, subst, ◌∙◌, arith, IfOk}
use Rattle.std.proofs.lemmas.List.{length-map}
use Rattle.run_endings.specs.Endings.{Contents, NewFile, Refuses, Seen, Sees}
use Rattle.run_endings.specs.Outcome.{LastFailedStays, ShelfSeen}
use Rattle.run_endings.specs.Planning.{IsPlanOf, OnRefused, PlansAs, UnreadAs}
use Rattle.run_endings.specs.Reading.{IsRead, cut}
use Rattle.run_endings.specs.Writing.{file_of}
use Rattle.run_endings.specs.declared.plan.Plan.{Plan}
use Rattle.run_endings.specs.declared.stop.Stop.{Stop}
use Rattle.run_endings.specs.declared.stop.Stop.TheVariants.{Refused, ReadFailed, Memory}
use Rattle.run_inputs.specs.CutProofs.{cut_folder}
use Rattle.ucdshop_jobs.specs.CutProofs.{cut_verdict}
use Rattle.ucdshop_look_core.proofs.NothingWritten.{ends_without_files}
use Rattle.ucdshop_look_core.specs.Answers.{ask_ending}
use Rattle.ucdshop_look_core.specs.Changes.{changes_ending}
use Rattle.ucdshop_look_core.specs.Checks.{check_ending}
use Rattle.ucdshop_look_core.specs.Jobs.{Job, Ask, Changes, Check, Show, needed}
use Rattle.ucdshop_look_core.specs.Run.{expected_of, finished}
use Rattle.ucdshop_look_core.specs.Shown.{show_ending}

-- of what is seen no more is read than decides
cut_seen : (job : Job) (seen : Seen) → expected_of job (map cut seen) ≡ expected_of job seen
cut_seen (Ask folder questions) seen = ap (finished (ask_ending questions)) (cut_folder folder seen 0)
cut_seen (Show folder points) seen = ap (finished (show_ending points)) (cut_folder folder seen 0)
cut_seen (Check run) seen = ap (finished check_ending) (cut_verdict run seen)
cut_seen (Changes run) seen = ap (finished changes_ending) (cut_verdict run seen)

module _ (tells : Bool) (holds : Contents) (job : Job) (items : Seen) (read : IsRead tells holds (needed job) items) where
  same : expected_of job items ≡ expected_of job read.0
  same = ap (expected_of job) read.2 ∙ cut_seen job read.0

  pub planned : (result : Result Plan Stop) → PlansAs result (expected_of job items) → IfOk result (λ plan. Sees tells holds (needed job) (λ seen. IsPlanOf plan (expected_of job seen)))
  planned (Ok plan) is = (read.0, read.1, subst (IsPlanOf plan) same is)
  planned (Err stop) is = tt

  pub refused : (result : Result Plan Stop) → PlansAs result (expected_of job items) → OnRefused result (λ line. Sees tells holds (needed job) (λ seen. expected_of job seen ≡ Refuses line))
  refused (Ok plan) is = tt
  refused (Err (Refused line)) is = (read.0, read.1, sym same ∙ is)
  refused (Err (ReadFailed line)) is = tt
  refused (Err Memory) is = tt

-- there is room for no file
pub has_room : (job : Job) (items : Seen) (spare : ℕ) (result : Result Plan Stop) → PlansAs result (expected_of job items) → IfOk result (λ plan. length plan.outputs.items ≤ spare)
has_room job items spare (Ok plan) (ending, is, has) =
    let none : length plan.outputs.items ≡ 0 = sym (length-map plan.outputs.items file_of) ∙ ap (λ (files : List NewFile). length files) (has.files ∙ ends_without_files job items ending is) in
    omega (arith, none)
has_room job items spare (Err stop) is = tt

-- no read fails once all files are read
pub judged_unread : (job : Job) (items : Seen) (paths : List (List ℕ)) (shelf : ShelfSeen) (result : Result Plan Stop) → PlansAs result (expected_of job items) → LastFailedStays shelf → UnreadAs result paths shelf
judged_unread job items paths shelf (Ok plan) is stays = stays
judged_unread job items paths shelf (Err (Refused line)) is stays = stays
judged_unread job items paths shelf (Err (ReadFailed line)) is stays = absurd is
judged_unread job items paths shelf (Err Memory) is stays = tt

-- what is refused has no ending
