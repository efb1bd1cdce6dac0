-- The files that a run writes lie at paths of their own.
--
-- DeskFilesHoldTheirBytes once the files of `desk` are put, the path of each holds its bytes: none takes the place of another
-- UndoFilesHoldTheirBytes the same of the files of `undo`
-- AgesHoldTheirBytes      once both files of `ages` are put, the path of each holds its bytes: neither takes the place of the other
use Rattle.std.specs.Prelude.{◌≡◌, ℕ, List, All, Some}
use Rattle.release_rows.specs.Releases.{ReleaseItems}
use Rattle.run_endings.specs.Endings.{Contents, NewFile, after}
use Rattle.ucdshop_more_core.specs.Drafts.{Draft}
use Rattle.ucdshop_more_core.specs.Run.{ages_ending, desk_ending, undo_ending}
use Rattle.ucdshop_more_core.specs.Sessions.{Session}

abbrev pub DeskFilesHoldTheirBytes : Type 0
DeskFilesHoldTheirBytes = (output : List ℕ) (session : Session) (holds : Contents)
    → All (λ (file : NewFile). after (desk_ending output session).files holds file.path ≡ Some file.bytes) (desk_ending output session).files

abbrev pub UndoFilesHoldTheirBytes : Type 0
UndoFilesHoldTheirBytes = (output : List ℕ) (depth : ℕ) (draft : Draft) (holds : Contents)
    → All (λ (file : NewFile). after (undo_ending output depth draft).files holds file.path ≡ Some file.bytes) (undo_ending output depth draft).files

abbrev pub AgesHoldTheirBytes : Type 0
AgesHoldTheirBytes = (output : List ℕ) (releases : List ReleaseItems) (holds : Contents)
    → All (λ (file : NewFile). after (ages_ending output releases).files holds file.path ≡ Some file.bytes) (ages_ending output releases).files
