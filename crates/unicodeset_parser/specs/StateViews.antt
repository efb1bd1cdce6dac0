-- The states that the code holds, as the definitions name them.
-- frame_view f      an open bracket set
-- frames_view fs    those around the innermost one, which the code keeps from the outside in
-- mode_view m       what may follow
-- state_view s      how far a text is read
use Rattle.std.specs.Prelude.{List, ◌++◌, map, reverse}
use Rattle.unicodeset_parser.specs.Machine as machine
use Rattle.unicodeset_parser.specs.Views.{tree_view, parts_view, united}
use Rattle.unicodeset_parser.specs.declared.state.Frame.{Frame}
use Rattle.unicodeset_parser.specs.declared.state.Mode.{Mode}
use Rattle.unicodeset_parser.specs.declared.state.Mode.TheVariants.{First, BehindSet, Elsewhere, Pending, Lacking, Due}
use Rattle.unicodeset_parser.specs.declared.state.State.{State}
use Rattle.unicodeset_parser.specs.declared.state.State.TheVariants.{Before, Within, After}

abbrev pub frame_view : Frame → machine.Frame
frame_view f = record { negated = f.negated; join = f.join; steps = parts_view f.parts ++ map united f.letters.items }

-- the innermost last in the code, and first in the definitions
abbrev pub frames_view : List Frame → List machine.Frame
frames_view fs = reverse (map frame_view fs)

abbrev pub mode_view : Mode → machine.Mode
mode_view First = machine.first
mode_view BehindSet = machine.behind_set
mode_view Elsewhere = machine.elsewhere
mode_view (Pending c) = machine.pending c
mode_view (Lacking c) = machine.lacking c
mode_view (Due join) = machine.due join

abbrev pub state_view : State → machine.State
state_view Before = machine.before
state_view (Within mode nest) = machine.within (mode_view mode) (frame_view nest.frame) (frames_view nest.around.items)
state_view (After expr) = machine.after (tree_view expr)
