-- Marks of a file of events: what an editor does at a desk.
-- is_space b              the byte is a space
-- proposal editor base    the mark of a proposal with these numbers; None where either is none
-- proposal_of text        the mark of a proposal, by the two numbers around the first space
-- read_or read text other what is read of the text, where there is one, else the other
-- mark_of content         the mark of a line `@ open E`, `@ leave E` or `@ propose E B`: E is the number of an editor, and B the
--                         revision that the editor has seen. One space stands between two words, and nothing behind them. None of
--                         all other lines
-- is_group what           it is a group, and no question
-- are_none commands       there is no command
-- are_a_group commands    there is one command, which is a group
-- fits mark commands      the commands behind the mark are those that it asks for: none where an editor comes or leaves, a group where
--                         one proposes
-- ops_in what             the operations of a group; none of a question
-- ops_of commands         the operations of the first command
-- event_of mark commands  the event of the mark, with these commands behind it
use Rattle.std.specs.Prelude.{ℕ, Bool, true, false, List, [], ◌∷◌, Option, Some, None, ◌==◌, codes, option_map}
use Rattle.std.specs.List.{after_first, before_first}
use Rattle.bench_editors.specs.declared.event.Event.{Event}
use Rattle.bench_editors.specs.declared.event.Event.TheVariants as event
use Rattle.release_rows.specs.declared.operation.Op.{Op}
use Rattle.script_lines.specs.Lines.{behind}
use Rattle.script_lines.specs.declared.command.Command.{Command}
use Rattle.script_lines.specs.declared.command.What.{What}
use Rattle.script_lines.specs.declared.command.What.TheVariants.{Group, Question}
use Rattle.script_pieces.specs.Decimals.{number_of}
use Rattle.ucdshop_more_core.specs.declared.desk_mark.DeskMark.{DeskMark}
use Rattle.ucdshop_more_core.specs.declared.desk_mark.DeskMark.TheVariants.{Open, Leave, Propose}

-- ---- the line

abbrev pub is_space : ℕ → Bool
is_space b = b == 32

abbrev pub proposal : Option ℕ → Option ℕ → Option DeskMark
proposal (Some editor) (Some base) = Some (Propose editor base)
proposal _ _ = None

abbrev pub proposal_of : List ℕ → Option DeskMark
proposal_of text = proposal (number_of (before_first is_space text)) (number_of (after_first is_space text))

abbrev pub read_or : (List ℕ → Option DeskMark) → Option (List ℕ) → Option DeskMark → Option DeskMark
read_or read (Some text) other = read text
read_or read None other = other

abbrev pub mark_of : List ℕ → Option DeskMark
mark_of content =
    read_or (λ text. option_map Open (number_of text)) (behind (codes "@ open ") content)
    (read_or (λ text. option_map Leave (number_of text)) (behind (codes "@ leave ") content)
    (read_or proposal_of (behind (codes "@ propose ") content) None))

-- ---- the commands behind it

abbrev pub is_group : What → Bool
is_group (Group ops) = true
is_group (Question text) = false

abbrev pub are_none : List Command → Bool
are_none [] = true
are_none (command ∷ later) = false

abbrev pub are_a_group : List Command → Bool
are_a_group (command ∷ []) = is_group command.what
are_a_group _ = false

abbrev pub fits : DeskMark → List Command → Bool
fits (Open editor) commands = are_none commands
fits (Leave editor) commands = are_none commands
fits (Propose editor base) commands = are_a_group commands

-- ---- the event

abbrev pub ops_in : What → List Op
ops_in (Group ops) = ops
ops_in (Question text) = []

abbrev pub ops_of : List Command → List Op
ops_of [] = []
ops_of (command ∷ later) = ops_in command.what

abbrev pub event_of : DeskMark → List Command → Event
event_of (Open editor) commands = event.Enter editor
event_of (Leave editor) commands = event.Leave editor
event_of (Propose editor base) commands = event.Propose editor base (ops_of commands)
