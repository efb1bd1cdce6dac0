-- Reading and judging the release in one folder.
use Rattle.std.proofs.Common.{◌≡◌, ℕ, Bool, List, Result, Ok, Err, sym, ap, subst, ◌∙◌, IfOk}
use Rattle.release_rows.specs.Releases.{ReleaseItems, FileItem}
use Rattle.run_endings.specs.Endings.{Contents, IsSeen, Seen}
use Rattle.run_endings.specs.Outcome.{LastFailedStays, ShelfSeen}
use Rattle.run_endings.specs.Planning.{OnRefused, UnreadAs}
use Rattle.run_endings.specs.Reading.{IsRead}
use Rattle.run_endings.specs.declared.stop.Stop.{Stop}
use Rattle.run_endings.specs.declared.stop.Stop.TheVariants.{Refused, ReadFailed, Memory}
use Rattle.run_inputs.specs.CutProofs.{cut_folder}
use Rattle.run_inputs.specs.Held.{source_held}
use Rattle.run_inputs.specs.Judging.{ToldAs}
use Rattle.run_inputs.specs.Paths.{sources_in}
use Rattle.run_inputs.specs.Refusals.{folder_verdict}
use Rattle.ucdshop_more_core.specs.Chaining.{IsRefused, OpensAs}

abbrev pub OpenedAs : Result ReleaseItems Stop → Result (List (List FileItem)) (List ℕ) → Type 0
OpenedAs result verdict = ToldAs (λ (bench : ReleaseItems). bench.current) result verdict

-- of a folder no more was read than decides
module _ (tells : Bool) (holds : Contents) (folder : List ℕ) (paths : List (List ℕ)) (read : Seen) (are : paths ≡ sources_in folder) (held : IsRead tells holds paths read) where
  seen_verdict : folder_verdict folder (source_held held.0 0) ≡ folder_verdict folder (source_held read 0)
  seen_verdict = sym (cut_folder folder held.0 0) ∙ ap (λ (seen : Seen). folder_verdict folder (source_held seen 0)) (sym held.2)

  seen_files : IsSeen tells holds (sources_in folder) held.0
  seen_files = subst (λ (ps : List (List ℕ)). IsSeen tells holds ps held.0) are held.1

  pub opens_as : (result : Result ReleaseItems Stop) → OpenedAs result (folder_verdict folder (source_held read 0)) → IfOk result (λ bench. OpensAs folder bench tells holds)
  opens_as (Ok bench) told = (held.0, seen_files, seen_verdict ∙ told)
  opens_as (Err stop) told = tt

  pub refused_as : (result : Result ReleaseItems Stop) → OpenedAs result (folder_verdict folder (source_held read 0)) → OnRefused result (λ line. IsRefused folder line tells holds)
  refused_as (Err (Refused line)) told = (held.0, seen_files, seen_verdict ∙ told)
  refused_as _ told = tt

-- no read fails once all files are read
pub judged_unread : (result : Result ReleaseItems Stop) (verdict : Result (List (List FileItem)) (List ℕ)) (paths : List (List ℕ)) (shelf : ShelfSeen) → OpenedAs result verdict
    → LastFailedStays shelf → UnreadAs result paths shelf
judged_unread (Ok bench) verdict paths shelf told stays = stays
judged_unread (Err (Refused line)) verdict paths shelf told stays = stays
judged_unread (Err (ReadFailed line)) verdict paths shelf told stays = absurd told
judged_unread (Err Memory) verdict paths shelf told stays = tt
