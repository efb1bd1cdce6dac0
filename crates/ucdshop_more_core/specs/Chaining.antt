-- The releases of folders, put into a chain one after the other.
-- Follows chained releases        it is the chain of these releases, the text of their steps, and how many breaks these have
-- folders_paths folders           the paths of the source files of the folders, folder after folder
-- AreFine tells holds folders     by what was seen none of the folders is refused
-- AreChained tells holds folders chained   so it is, and their releases are chained
-- AreRefused tells holds folders line      by what was seen the first folder that is refused has this line
-- OpensAs folder bench tells holds         by what was seen the folder is not refused, and the bench is over its release
-- IsRefused folder line tells holds        by what was seen the folder is refused by this line
use Rattle.std.specs.Prelude.{◌≡◌, ℕ, Bool, List, Ok, Err, flat_map}
use Rattle.release_rows.specs.Releases.{ReleaseItems}
use Rattle.age_chain.specs.Ages.{StandsFor}
use Rattle.run_endings.specs.Endings.{Contents, Sees}
use Rattle.run_inputs.specs.Held.{source_held}
use Rattle.run_inputs.specs.Paths.{sources_in}
use Rattle.run_inputs.specs.Refusals.{folder_verdict}
use Rattle.ucdshop_more_core.specs.Run.{folders_verdict}
use Rattle.ucdshop_more_core.specs.Steps.{breaks_in, steps_of, steps_text}
use Rattle.ucdshop_more_core.specs.declared.chaining.Chained.{Chained}

pub record Follows (chained : Chained) (releases : List ReleaseItems) : Type 0 where
  pub chain : StandsFor chained.chain releases
  pub steps : chained.steps ≡ steps_text (steps_of releases)
  pub breaks : chained.breaks ≡ breaks_in (steps_of releases)

abbrev pub folders_paths : List (List ℕ) → List (List ℕ)
folders_paths folders = flat_map sources_in folders

abbrev pub AreFine : Bool → Contents → List (List ℕ) → Type 0
AreFine tells holds folders = Sees tells holds (folders_paths folders) (λ seen. (releases : List ReleaseItems) × (folders_verdict folders seen ≡ Ok releases))

abbrev pub AreChained : Bool → Contents → List (List ℕ) → Chained → Type 0
AreChained tells holds folders chained =
    Sees tells holds (folders_paths folders) (λ seen. (releases : List ReleaseItems) × (folders_verdict folders seen ≡ Ok releases) × Follows chained releases)

abbrev pub AreRefused : Bool → Contents → List (List ℕ) → List ℕ → Type 0
AreRefused tells holds folders line = Sees tells holds (folders_paths folders) (λ seen. folders_verdict folders seen ≡ Err line)

abbrev pub OpensAs : List ℕ → ReleaseItems → Bool → Contents → Type 0
OpensAs folder bench tells holds = Sees tells holds (sources_in folder) (λ seen. folder_verdict folder (source_held seen 0) ≡ Ok bench.current)

abbrev pub IsRefused : List ℕ → List ℕ → Bool → Contents → Type 0
IsRefused folder line tells holds = Sees tells holds (sources_in folder) (λ seen. folder_verdict folder (source_held seen 0) ≡ Err line)
