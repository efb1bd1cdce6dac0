-- Each step keeps that the groups so far can be carried out.
use Rattle.std.proofs.Common.{◌≡◌, ℕ, ◌+◌, ◌≤◌, Bool, true, false, List, [], ◌∷◌, ◌++◌, length, Option, Some, None, Result, Ok, Err, refl, arith, All}
use Rattle.std.specs.Prelude.{IfOk, ⊤}
use Rattle.std.proofs.lemmas.List.Elements.{All-nil, All-push}
use Rattle.std.proofs.lemmas.Bool.{eqb-false}
use Rattle.std.proofs.lemmas.List.{length_push}
use Rattle.ucd_points.specs.Lines.{items_of}
use Rattle.source_rows.specs.Faults.{row_or_fault, SourceFile, Row}
use Rattle.source_rows.specs.KeyGrammar.{key_or_fault}
use Rattle.source_rows.specs.Laws.{PossibleRowsAreReadable, RowsAreRead}
use Rattle.source_rows.specs.declared.fault.RowFault.{RowFault}
use Rattle.source_rows.specs.declared.key.Key.{Key}
use Rattle.release_rows.specs.Operations.{IsOp}
use Rattle.release_rows.specs.declared.operation.Op.{Op}
use Rattle.script_lines.specs.Groups.{AreWellFormed, GroupsAreWellFormed, IsWellFormed}
use Rattle.script_lines.specs.Lines.{Said, nothing, begins, ends, asks, puts, withdraws, no_command, said}
use Rattle.script_lines.specs.Scripts.{ScriptFault, ScriptPiece, row_text, row_op, row_op_by, key_op, key_op_by, begun_by, ended_by, asked_by, with_op_by, is_full, with_found, operated, step, step_by, steps, then_steps, closed, closed_by, empty_script, piece_lines, script_from, script_pieces}
use Rattle.script_lines.specs.declared.command.Command.{Command}
use Rattle.script_lines.specs.declared.group.OpenGroup.{OpenGroup}
use Rattle.script_lines.specs.declared.line.Put.{Put}
use Rattle.script_lines.specs.declared.line.Put.TheVariants.{Add, Change}
use Rattle.script_lines.specs.declared.script.Script.{Script}

-- ---- operations

row_ready : RowsAreRead → PossibleRowsAreReadable → (n : ℕ) (put : Put) (file : SourceFile) (text : List ℕ) (next : Option (List ℕ)) (r : Result Row RowFault) → row_or_fault file (row_text text next) ≡ r → IfOk (row_op_by n put file text next r) IsOp
row_ready read ok n Add file text next (Ok row) e = ((ok file row).1 (row_text text next, (read file (row_text text next) row).0 e), e)
row_ready read ok n Change file text next (Ok row) e = ((ok file row).1 (row_text text next, (read file (row_text text next) row).0 e), e)
row_ready read ok n put file text next (Err fault) e = tt

key_ready : (n : ℕ) (file : SourceFile) (r : Result Key RowFault) → IfOk (key_op_by n file r) IsOp
key_ready n file (Ok key) = tt
key_ready n file (Err fault) = tt

-- ---- the script so far

abbrev ReadyGroup : Option OpenGroup → Type 0
ReadyGroup None = ⊤
ReadyGroup (Some group) = AreWellFormed group.ops

record ReadyScript (script : Script) : Type 0 where
  commands : All IsWellFormed script.commands
  group : ReadyGroup script.group

none_ready : AreWellFormed []
none_ready = (All-nil IsOp, omega arith)

begun_ready : (n : ℕ) (script : Script) (group : Option OpenGroup) → All IsWellFormed script.commands → IfOk (begun_by n script group) ReadyScript
begun_ready n script (Some group) ready = tt
begun_ready n script None ready = record { commands = ready; group = none_ready }

ended_ready : (n : ℕ) (script : Script) (group : Option OpenGroup) → All IsWellFormed script.commands → ReadyGroup group → IfOk (ended_by n script group) ReadyScript
ended_ready n script (Some group) ready held = record { commands = All-push IsWellFormed script.commands _ ready held; group = tt }
ended_ready n script None ready held = tt

asked_ready : (n : ℕ) (text : List ℕ) (script : Script) (group : Option OpenGroup) → All IsWellFormed script.commands → IfOk (asked_by n text script group) ReadyScript
asked_ready n text script (Some group) ready = tt
asked_ready n text script None ready = record { commands = All-push IsWellFormed script.commands _ ready tt; group = tt }

one_ready : (op : Op) → IsOp op → AreWellFormed (op ∷ [])
one_ready op ready = (All-push IsOp [] op (All-nil IsOp) ready, omega arith)

pub few_more : (ops : List Op) (op : Op) → length ops ≤ 4096 → (length ops ≡ 4096 → ⊥) → length (ops ++ op ∷ []) ≤ 4096
few_more ops op few other = let one = length_push ops op in omega (arith, one, few, other)

put_ready : (n : ℕ) (op : Op) (script : Script) (group : Option OpenGroup) → All IsWellFormed script.commands → ReadyGroup group → is_full group ≡ false → IsOp op → ReadyScript (with_op_by n op script group)
put_ready n op script (Some group) ready held room is_op =
    record { commands = ready; group = (All-push IsOp group.ops op held.0 is_op, few_more group.ops op held.1 (eqb-false (length group.ops) 4096 room)) }
put_ready n op script None ready held room is_op = record { commands = All-push IsWellFormed script.commands _ ready (one_ready op is_op); group = tt }

-- ---- a step

found_ready : (n : ℕ) (script : Script) (found : Result Op ScriptFault) → ReadyScript script → is_full script.group ≡ false → IfOk found IsOp → IfOk (with_found n script found) ReadyScript
found_ready n script (Ok op) ready room is_op = put_ready n op script script.group ready.commands ready.group room is_op
found_ready n script (Err fault) ready room is_op = tt

operated_ready : (n : ℕ) (script : Script) (found : Result Op ScriptFault) (full : Bool) → is_full script.group ≡ full → ReadyScript script → IfOk found IsOp → IfOk (operated n script found) ReadyScript
operated_ready n script found true e ready is_op = rw e tt
operated_ready n script found false e ready is_op = rw e (found_ready n script found ready e is_op)

step_ready : RowsAreRead → PossibleRowsAreReadable → (n : ℕ) (script : Script) (next : Option (List ℕ)) (what : Said) → ReadyScript script → IfOk (step_by n script next what) ReadyScript
step_ready read ok n script next nothing ready = ready
step_ready read ok n script next begins ready = begun_ready n script script.group ready.commands
step_ready read ok n script next ends ready = ended_ready n script script.group ready.commands ready.group
step_ready read ok n script next (asks text) ready = asked_ready n text script script.group ready.commands
step_ready read ok n script next (puts put file text) ready =
    operated_ready n script (row_op n put file text next) (is_full script.group) refl ready (row_ready read ok n put file text next (row_or_fault file (row_text text next)) refl)
step_ready read ok n script next (withdraws file text) ready =
    operated_ready n script (key_op n file text) (is_full script.group) refl ready (key_ready n file (key_or_fault file text))
step_ready read ok n script next no_command ready = tt

-- ---- the script

then_ready : (found : Result Script ScriptFault) (more : Script → Result Script ScriptFault) → IfOk found ReadyScript → ((script : Script) → ReadyScript script → IfOk (more script) ReadyScript) → IfOk (then_steps found more) ReadyScript
then_ready (Ok script) more ready go = go script ready
then_ready (Err fault) more ready go = tt

steps_ready : RowsAreRead → PossibleRowsAreReadable → (n : ℕ) (script : Script) (pieces : List ScriptPiece) → ReadyScript script → IfOk (steps n script pieces) ReadyScript
steps_ready read ok n script [] ready = ready
steps_ready read ok n script (piece ∷ pieces) ready =
    then_ready (step n script piece) (λ next. steps (n + piece_lines piece) next pieces) (step_ready read ok n script piece.next (said piece.line) ready)
    (λ next more. steps_ready read ok (n + piece_lines piece) next pieces more)

commands_ready : (commands : List Command) (group : Option OpenGroup) → All IsWellFormed commands → IfOk (closed_by commands group) (All IsWellFormed)
commands_ready commands (Some group) ready = tt
commands_ready commands None ready = ready

closed_ready : (found : Result Script ScriptFault) → IfOk found ReadyScript → IfOk (closed found) (All IsWellFormed)
closed_ready (Ok script) ready = commands_ready script.commands script.group ready.commands
closed_ready (Err fault) ready = tt

pub groups_are_ready : RowsAreRead → PossibleRowsAreReadable → GroupsAreWellFormed
unfolding script_from
groups_are_ready read ok n bytes = closed_ready (steps n empty_script (script_pieces (items_of bytes))) (steps_ready read ok n empty_script (script_pieces (items_of bytes)) (record { commands = All-nil IsWellFormed; group = tt }))
