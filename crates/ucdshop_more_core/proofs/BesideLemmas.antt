-- What is judged of a folder and of the file beside it, by what was read of both.
use Rattle.std.proofs.Common.{◌≡◌, Bool, List, ℕ, [], ◌∷◌, ◌++◌, map, Result, Ok, Err, sym, ap, subst, ◌∙◌, IfOk}
use Rattle.run_endings.specs.Endings.{Contents, IsSeen, Seen, Sees}
use Rattle.run_endings.specs.Outcome.{LastFailedStays, ShelfSeen}
use Rattle.run_endings.specs.Planning.{OnRefused, UnreadAs}
use Rattle.run_endings.specs.Reading.{IsRead, cut}
use Rattle.run_endings.specs.declared.stop.Stop.{Stop}
use Rattle.run_endings.specs.declared.stop.Stop.TheVariants.{Refused, ReadFailed, Memory}
use Rattle.run_inputs.specs.Judging.{ToldAs}
use Rattle.run_inputs.specs.Paths.{sources_in}

module _ {A B : Type 0} (view : A → B) (verdict : Seen → Result B (List ℕ)) (no_more : (seen : Seen) → verdict (map cut seen) ≡ verdict seen) (tells : Bool) (holds : Contents) (input second : List ℕ)
    (paths : List (List ℕ)) (read : Seen) (are : paths ≡ sources_in input ++ second ∷ []) (held : IsRead tells holds paths read) where
  seen_verdict : verdict held.0 ≡ verdict read
  seen_verdict = sym (no_more held.0) ∙ ap verdict (sym held.2)

  seen_files : IsSeen tells holds (sources_in input ++ second ∷ []) held.0
  seen_files = subst (λ (ps : List (List ℕ)). IsSeen tells holds ps held.0) are held.1

  pub given_as : (result : Result A Stop) → ToldAs view result (verdict read)
      → IfOk result (λ value. Sees tells holds (sources_in input ++ second ∷ []) (λ seen. verdict seen ≡ Ok (view value)))
  given_as (Ok value) told = (held.0, seen_files, seen_verdict ∙ told)
  given_as (Err stop) told = tt

  pub refused_as : (result : Result A Stop) → ToldAs view result (verdict read)
      → OnRefused result (λ line. Sees tells holds (sources_in input ++ second ∷ []) (λ seen. verdict seen ≡ Err line))
  refused_as (Err (Refused line)) told = (held.0, seen_files, seen_verdict ∙ told)
  refused_as _ told = tt

-- no read fails once all files are read
pub judged_unread : {A B : Type 0} (view : A → B) (result : Result A Stop) (verdict : Result B (List ℕ)) (paths : List (List ℕ)) (shelf : ShelfSeen) → ToldAs view result verdict
    → LastFailedStays shelf → UnreadAs result paths shelf
judged_unread view (Ok value) verdict paths shelf told stays = stays
judged_unread view (Err (Refused line)) verdict paths shelf told stays = stays
judged_unread view (Err (ReadFailed line)) verdict paths shelf told stays = absurd told
judged_unread view (Err Memory) verdict paths shelf told stays = tt
