-- A job that was prepared, from what is said of a plan, of a refusal, and of a read that failed.
use Rattle.std.proofs.Common.{◌≡◌, Result, Ok, Err, IfOk}
use Rattle.run_endings.specs.Endings.{Program, Refuses, Sees}
use Rattle.run_endings.specs.Ends.{Prepares}
use Rattle.run_endings.specs.Outcome.{ShelfSeen}
use Rattle.run_endings.specs.Planning.{IsPlanOf, OnRefused, OnlyRead, UnreadAs}
use Rattle.run_endings.specs.declared.plan.Plan.{Plan}
use Rattle.run_endings.specs.declared.stop.Stop.{Stop}
use Rattle.run_endings.specs.declared.stop.Stop.TheVariants.{Refused}

pub prepares : {Job : Type 0} (p : Program Job) (job : Job) (answer : Result Plan Stop) (shelf : ShelfSeen)
    → IfOk answer (λ plan. Sees shelf.tells shelf.old (p.needed job) (λ seen. IsPlanOf plan (p.expected job seen)))
    → OnRefused answer (λ line. Sees shelf.tells shelf.old (p.needed job) (λ seen. p.expected job seen ≡ Refuses line))
    → UnreadAs answer (p.needed job) shelf → OnlyRead shelf → Prepares p job answer shelf
prepares p job (Ok plan) shelf planned refused unread only = record { planned = planned; unread = unread; only_read = only }
prepares p job (Err (Refused line)) shelf planned refused unread only = record { planned = refused; unread = unread; only_read = only }
prepares p job _ shelf planned refused unread only = record { planned = tt; unread = unread; only_read = only }
