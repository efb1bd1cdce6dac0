-- The groups of a script can be carried out: each operation is one, and a group has at most 4,096.
-- AreWellFormed ops         each of the operations has a row that its file can have, and bytes that are read as it; and there are at
--                           most 4,096
-- IsWellFormed command      so are those of its group, if it is one; nothing is said of a question
-- GroupsAreWellFormed       so are those of each command of a script without a fault
use Rattle.std.specs.Prelude.{◌≤◌, List, length, ℕ, IfOk, ⊤, All}
use Rattle.release_rows.specs.Operations.{IsOp}
use Rattle.release_rows.specs.declared.operation.Op.{Op}
use Rattle.script_lines.specs.Scripts.{script_from}
use Rattle.script_lines.specs.declared.command.Command.{Command}
use Rattle.script_lines.specs.declared.command.What.{What}
use Rattle.script_lines.specs.declared.command.What.TheVariants.{Group, Question}

abbrev pub AreWellFormed : List Op → Type 0
AreWellFormed ops = All IsOp ops × (length ops ≤ 4096)

abbrev WellFormedWhat : What → Type 0
WellFormedWhat (Group ops) = AreWellFormed ops
WellFormedWhat (Question text) = ⊤

abbrev pub IsWellFormed : Command → Type 0
IsWellFormed command = WellFormedWhat command.what

abbrev pub GroupsAreWellFormed : Type 0
GroupsAreWellFormed = (n : ℕ) (bytes : List ℕ) → IfOk (script_from n bytes) (All IsWellFormed)
