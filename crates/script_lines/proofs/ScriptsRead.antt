-- The commands of a script are those of its grammar.
use Rattle.std.proofs.Common.{◌≡◌, ℕ, ◌+◌, ◌≤◌, Bool, true, false, List, [], ◌∷◌, ◌++◌, length, Option, Some, None, Result, Ok, Err, refl, sym, ap, subst, ◌∙◌, arith, append_assoc, append-nil, IfOk, if◌then◌else◌}
use Rattle.std.proofs.lemmas.Bool.{eqb-false}
use Rattle.std.proofs.lemmas.Bool.Decides.{nat_tests}
use Rattle.std.proofs.lemmas.List.{length_push}
use Rattle.ucd_points.specs.Lines.{items_of}
use Rattle.source_rows.specs.Faults.{row_or_fault, SourceFile, Row}
use Rattle.source_rows.specs.KeyGrammar.{KeysAreRead, key_or_fault}
use Rattle.source_rows.specs.Laws.{RowsAreRead}
use Rattle.source_rows.specs.declared.fault.RowFault.{RowFault}
use Rattle.source_rows.specs.declared.key.Key.{Key}
use Rattle.release_rows.specs.declared.operation.Op.{Op}
use Rattle.script_lines.proofs.Ready.{few_more}
use Rattle.script_lines.proofs.Runs.{run, run_is, run_after}
use Rattle.script_lines.specs.Grammar.{NumberedPiece, numbered_pieces, SaysOpBy, AreOps, nothing_inside, passed_inside, one_inside, IsScript, nothing_left, passed, alone, asking, grouped, ScriptsAreRead}
use Rattle.script_lines.specs.Lines.{Said, nothing, begins, ends, asks, puts, withdraws, no_command, said}
use Rattle.script_lines.specs.Scripts.{ScriptFault, row_text, row_op, row_op_by, key_op, key_op_by, one_group, question, at_line, begun_by, ended_by, asked_by, with_op_by, is_full, with_found, operated, step_by, steps, then_steps, closed, closed_by, empty_script, script_from, script_pieces}
use Rattle.script_lines.specs.declared.command.Command.{Command}
use Rattle.script_lines.specs.declared.group.OpenGroup.{OpenGroup}
use Rattle.script_lines.specs.declared.line.Put.{Put}
use Rattle.script_lines.specs.declared.script.Script.{Script}
use Rattle.script_lines.specs.declared.stop.ScriptRule.TheVariants.{E5}

abbrev whole : List Command → Result Script ScriptFault
whole commands = Ok (record { commands = commands; group = None })

-- ---- operations

row_read : RowsAreRead → (n : ℕ) (put : Put) (file : SourceFile) (text : List ℕ) (next : Option (List ℕ)) (r : Result Row RowFault) → row_or_fault file (row_text text next) ≡ r → IfOk (row_op_by n put file text next r) (λ op. SaysOpBy next (puts put file text) op)
row_read rows n put file text next (Ok row) e = (row, (rows file (row_text text next) row).0 e, refl)
row_read rows n put file text next (Err fault) e = tt

key_read : KeysAreRead → (n : ℕ) (file : SourceFile) (text : List ℕ) (next : Option (List ℕ)) (r : Result Key RowFault) → key_or_fault file text ≡ r → IfOk (key_op_by n file r) (λ op. SaysOpBy next (withdraws file text) op)
key_read keys n file text next (Ok key) e = (key, (keys file text key).0 e, refl)
key_read keys n file text next (Err fault) e = tt

op_step : RowsAreRead → KeysAreRead → (n : ℕ) (script : Script) (next : Option (List ℕ)) (what : Said) (op : Op) → SaysOpBy next what op → step_by n script next what ≡ operated n script (Ok op)
op_step rows keys n script next nothing op is = absurd is
op_step rows keys n script next begins op is = absurd is
op_step rows keys n script next ends op is = absurd is
op_step rows keys n script next (asks text) op is = absurd is
op_step rows keys n script next no_command op is = absurd is
op_step rows keys n script next (puts put file text) op is =
    let read : row_or_fault file (row_text text next) ≡ Ok (is.0) = (rows file (row_text text next) is.0).1 is.1 in
    let found : row_op n put file text next ≡ Ok op = ap (row_op_by n put file text next) read ∙ ap (λ (o : Op). Ok o) (sym is.2) in
    ap (operated n script) found
op_step rows keys n script next (withdraws file text) op is =
    let read : key_or_fault file text ≡ Ok (is.0) = (keys file text is.0).1 is.1 in
    let found : key_op n file text ≡ Ok op = ap (key_op_by n file) read ∙ ap (λ (o : Op). Ok o) (sym is.2) in
    ap (operated n script) found

-- ---- a script of the grammar gives its commands

abbrev within : List Command → OpenGroup → Script
within done group = record { commands = done; group = Some group }

abbrev outside : List Command → Script
outside done = record { commands = done; group = None }

abbrev grown : OpenGroup → List Op → OpenGroup
grown group ops = record { line = group.line; ops = group.ops ++ ops }

room_step : (n : ℕ) (done : List Command) (group : OpenGroup) (op : Op) (count : ℕ) → length group.ops + (1 + count) ≤ 4096 → operated n (within done group) (Ok op) ≡ Ok (within done (grown group (op ∷ [])))
room_step n done group op count room = let free : is_full (Some group) ≡ false = grind (arith, nat_tests) in rw free refl

ops_run : RowsAreRead → KeysAreRead → {inside : List NumberedPiece} {ops : List Op} → AreOps inside ops → (done : List Command) (group : OpenGroup) (rest : List NumberedPiece) → length group.ops + length ops ≤ 4096 → run (within done group) (inside ++ rest) ≡ run (within done (grown group ops)) rest
ops_run rows keys nothing_inside done group rest room = ap (λ (ops : List Op). run (within done (record { line = group.line; ops = ops })) rest) (sym (append-nil group.ops))
ops_run rows keys (passed_inside {p} {ps} {ops} e more) done group rest room =
    run_after (within done group) (within done group) p (ps ++ rest) (ap (step_by p.number (within done group) p.piece.next) e) ∙ ops_run rows keys more done group rest room
ops_run rows keys (one_inside {p} {ps} {op} {ops} is more) done group rest room =
    let count : length (op ∷ ops) ≡ 1 + length ops = omega arith in
    let fits : length group.ops + (1 + length ops) ≤ 4096 = omega (arith, count, room) in
    let one = length_push group.ops op in
    let left : length (group.ops ++ op ∷ []) + length ops ≤ 4096 = omega (arith, one, fits) in
    run_after (within done group) (within done (grown group (op ∷ []))) p (ps ++ rest) (op_step rows keys p.number (within done group) p.piece.next (said p.piece.line) op is ∙ room_step p.number done group op (length ops) fits)
    ∙ ops_run rows keys more done (grown group (op ∷ [])) rest left
    ∙ ap (λ (all : List Op). run (within done (record { line = group.line; ops = all })) rest) (append_assoc group.ops (op ∷ []) ops)

script_runs : RowsAreRead → KeysAreRead → {ps : List NumberedPiece} {commands : List Command} → IsScript ps commands → (done : List Command) → run (outside done) ps ≡ whole (done ++ commands)
script_runs rows keys nothing_left done = ap whole (sym (append-nil done))
script_runs rows keys (passed {p} {ps} {commands} e more) done =
    run_after (outside done) (outside done) p ps (ap (step_by p.number (outside done) p.piece.next) e) ∙ script_runs rows keys more done
script_runs rows keys (alone {p} {ps} {op} {commands} is more) done =
    run_after (outside done) (outside (done ++ one_group p.number (op ∷ []) ∷ [])) p ps (op_step rows keys p.number (outside done) p.piece.next (said p.piece.line) op is)
    ∙ script_runs rows keys more (done ++ one_group p.number (op ∷ []) ∷ [])
    ∙ ap whole (append_assoc done (one_group p.number (op ∷ []) ∷ []) commands)
script_runs rows keys (asking {p} {ps} {commands} text e more) done =
    run_after (outside done) (outside (done ++ question p.number text ∷ [])) p ps (ap (step_by p.number (outside done) p.piece.next) e)
    ∙ script_runs rows keys more (done ++ question p.number text ∷ [])
    ∙ ap whole (append_assoc done (question p.number text ∷ []) commands)
script_runs rows keys (grouped opening closing inside rest ops commands starts are few stops more) done =
    let group : OpenGroup = record { line = opening.number; ops = [] } in
    run_after (outside done) (within done group) opening (inside ++ closing ∷ rest) (ap (step_by opening.number (outside done) opening.piece.next) starts)
    ∙ ops_run rows keys are done group (closing ∷ rest) (omega (arith, few))
    ∙ run_after (within done (grown group ops)) (outside (done ++ one_group opening.number ops ∷ [])) closing rest (ap (step_by closing.number (within done (grown group ops)) closing.piece.next) stops)
    ∙ script_runs rows keys more (done ++ one_group opening.number ops ∷ [])
    ∙ ap whole (append_assoc done (one_group opening.number ops ∷ []) commands)

-- ---- commands that are given are those of the grammar

-- what is left of a script inside a group
record Inside (group : OpenGroup) (done : List Command) (ps : List NumberedPiece) (commands : List Command) : Type 0 where
  inside : List NumberedPiece
  closing : NumberedPiece
  rest : List NumberedPiece
  ops : List Op
  later : List Command
  cut : ps ≡ inside ++ closing ∷ rest
  are : AreOps inside ops
  few : length group.ops + length ops ≤ 4096
  stops : said closing.piece.line ≡ ends
  more : IsScript rest later
  all : commands ≡ done ++ one_group group.line (group.ops ++ ops) ∷ later

abbrev Ahead : List Command → Option OpenGroup → List NumberedPiece → List Command → Type 0
Ahead done None ps commands = (later : List Command) × IsScript ps later × (commands ≡ done ++ later)
Ahead done (Some group) ps commands = length group.ops ≤ 4096 → Inside group done ps commands

abbrev Goes : List NumberedPiece → List Command → Type 0
Goes ps commands = (next : Script) → run next ps ≡ whole commands → Ahead next.commands next.group ps commands

end_ahead : (script : Script) (group : Option OpenGroup) (commands : List Command) → script.group ≡ group → Ok script ≡ whole commands → Ahead script.commands group [] commands
end_ahead script None commands e h = ([], nothing_left, let same : script.commands ≡ commands = cc in sym same ∙ sym (append-nil script.commands))
end_ahead script (Some group) commands e h = absurd cc

pass_ahead : (p : NumberedPiece) (ps : List NumberedPiece) (done : List Command) (group : Option OpenGroup) (commands : List Command) → said p.piece.line ≡ nothing → Ahead done group ps commands → Ahead done group (p ∷ ps) commands
pass_ahead p ps done None commands e ahead = (ahead.0, passed e ahead.1, ahead.2)
pass_ahead p ps done (Some group) commands e ahead = λ room. let i = ahead room in
    record { inside = p ∷ i.inside; closing = i.closing; rest = i.rest; ops = i.ops; later = i.later; cut = ap (λ (qs : List NumberedPiece). p ∷ qs) i.cut; are = passed_inside e i.are; few = i.few; stops = i.stops; more = i.more; all = i.all }

begin_ahead : (p : NumberedPiece) (ps : List NumberedPiece) (script : Script) (group : Option OpenGroup) (commands : List Command) → said p.piece.line ≡ begins → Goes ps commands → then_steps (begun_by p.number script group) (λ next. run next ps) ≡ whole commands → Ahead script.commands group (p ∷ ps) commands
begin_ahead p ps script (Some group) commands e go h = absurd cc
begin_ahead p ps script None commands e go h =
    let i = go (within script.commands (record { line = p.number; ops = [] })) h (omega arith) in
    (one_group p.number i.ops ∷ i.later, subst (λ (qs : List NumberedPiece). IsScript (p ∷ qs) (one_group p.number i.ops ∷ i.later)) (sym i.cut) (grouped p i.closing i.inside i.rest i.ops i.later e i.are (let few = i.few in omega (arith, few)) i.stops i.more), i.all)

close_ahead : (p : NumberedPiece) (ps : List NumberedPiece) (script : Script) (group : Option OpenGroup) (commands : List Command) → said p.piece.line ≡ ends → Goes ps commands → then_steps (ended_by p.number script group) (λ next. run next ps) ≡ whole commands → Ahead script.commands group (p ∷ ps) commands
close_ahead p ps script None commands e go h = absurd cc
close_ahead p ps script (Some group) commands e go h = λ room.
    let a = go (outside (script.commands ++ one_group group.line group.ops ∷ [])) h in
    record {
      inside = [];
      closing = p;
      rest = ps;
      ops = [];
      later = a.0;
      cut = refl;
      are = nothing_inside;
      few = omega (arith, room);
      stops = e;
      more = a.1;
      all = a.2 ∙ append_assoc script.commands (one_group group.line group.ops ∷ []) a.0 ∙ ap (λ (ops : List Op). script.commands ++ one_group group.line ops ∷ a.0) (sym (append-nil group.ops));
    }

ask_ahead : (p : NumberedPiece) (ps : List NumberedPiece) (text : List ℕ) (script : Script) (group : Option OpenGroup) (commands : List Command) → said p.piece.line ≡ asks text → Goes ps commands → then_steps (asked_by p.number text script group) (λ next. run next ps) ≡ whole commands → Ahead script.commands group (p ∷ ps) commands
ask_ahead p ps text script (Some group) commands e go h = absurd cc
ask_ahead p ps text script None commands e go h =
    let a = go (outside (script.commands ++ question p.number text ∷ [])) h in
    (question p.number text ∷ a.0, asking text e a.1, a.2 ∙ append_assoc script.commands (question p.number text ∷ []) a.0)

op_ahead : (p : NumberedPiece) (ps : List NumberedPiece) (script : Script) (group : Option OpenGroup) (op : Op) (commands : List Command) → SaysOpBy p.piece.next (said p.piece.line) op → is_full group ≡ false → Goes ps commands → run (with_op_by p.number op script group) ps ≡ whole commands → Ahead script.commands group (p ∷ ps) commands
op_ahead p ps script None op commands is free go h =
    let a = go (outside (script.commands ++ one_group p.number (op ∷ []) ∷ [])) h in
    (one_group p.number (op ∷ []) ∷ a.0, alone is a.1, a.2 ∙ append_assoc script.commands (one_group p.number (op ∷ []) ∷ []) a.0)
op_ahead p ps script (Some group) op commands is free go h = λ room.
    let i = go (within script.commands (grown group (op ∷ []))) h (few_more group.ops op room (eqb-false (length group.ops) 4096 free)) in
    let one = length_push group.ops op in
    record {
      inside = p ∷ i.inside;
      closing = i.closing;
      rest = i.rest;
      ops = op ∷ i.ops;
      later = i.later;
      cut = ap (λ (qs : List NumberedPiece). p ∷ qs) i.cut;
      are = one_inside is i.are;
      few = let fits = i.few in omega (arith, one, fits);
      stops = i.stops;
      more = i.more;
      all = i.all ∙ ap (λ (ops : List Op). script.commands ++ one_group group.line ops ∷ i.later) (append_assoc group.ops (op ∷ []) i.ops);
    }

found_ahead : (p : NumberedPiece) (ps : List NumberedPiece) (script : Script) (found : Result Op ScriptFault) (full : Bool) (commands : List Command) → is_full script.group ≡ full → IfOk found (λ op. SaysOpBy p.piece.next (said p.piece.line) op) → Goes ps commands → then_steps (if full then at_line p.number E5 else with_found p.number script found) (λ next. run next ps) ≡ whole commands → Ahead script.commands script.group (p ∷ ps) commands
found_ahead p ps script found true commands e is go h = absurd cc
found_ahead p ps script (Err fault) false commands e is go h = absurd cc
found_ahead p ps script (Ok op) false commands e is go h = op_ahead p ps script script.group op commands is e go h

step_ahead : RowsAreRead → KeysAreRead → (p : NumberedPiece) (ps : List NumberedPiece) (script : Script) (what : Said) (commands : List Command) → said p.piece.line ≡ what → Goes ps commands → then_steps (step_by p.number script p.piece.next what) (λ next. run next ps) ≡ whole commands → Ahead script.commands script.group (p ∷ ps) commands
step_ahead rows keys p ps script nothing commands e go h = pass_ahead p ps script.commands script.group commands e (go script h)
step_ahead rows keys p ps script begins commands e go h = begin_ahead p ps script script.group commands e go h
step_ahead rows keys p ps script ends commands e go h = close_ahead p ps script script.group commands e go h
step_ahead rows keys p ps script (asks text) commands e go h = ask_ahead p ps text script script.group commands e go h
step_ahead rows keys p ps script (puts put file text) commands e go h =
    let is : IfOk (row_op p.number put file text p.piece.next) (λ op. SaysOpBy p.piece.next (puts put file text) op) = row_read rows p.number put file text p.piece.next (row_or_fault file (row_text text p.piece.next)) refl in
    found_ahead p ps script (row_op p.number put file text p.piece.next) (is_full script.group) commands refl (rw e is) go h
step_ahead rows keys p ps script (withdraws file text) commands e go h =
    let is : IfOk (key_op p.number file text) (λ op. SaysOpBy p.piece.next (withdraws file text) op) = key_read keys p.number file text p.piece.next (key_or_fault file text) refl in
    found_ahead p ps script (key_op p.number file text) (is_full script.group) commands refl (rw e is) go h
step_ahead rows keys p ps script no_command commands e go h = absurd cc

script_read : RowsAreRead → KeysAreRead → (ps : List NumberedPiece) (commands : List Command) → Goes ps commands
script_read rows keys [] commands script h = end_ahead script script.group commands refl h
script_read rows keys (p ∷ ps) commands script h = step_ahead rows keys p ps script (said p.piece.line) commands refl (script_read rows keys ps commands) h

-- ---- the law

closed_whole : (found : Result Script ScriptFault) (commands : List Command) → closed found ≡ Ok commands → found ≡ whole commands
closed_whole (Err fault) commands h = absurd cc
closed_whole (Ok script) commands h = all_closed script script.group commands refl h
  where
    all_closed : (script : Script) (group : Option OpenGroup) (commands : List Command) → script.group ≡ group → closed_by script.commands group ≡ Ok commands → Ok script ≡ whole commands
    all_closed script None commands e h = let same : script.commands ≡ commands = cc in ap (λ (done : List Command). Ok (record { commands = done; group = script.group })) same ∙ ap (λ (group : Option OpenGroup). Ok (record { commands = commands; group = group })) e
    all_closed script (Some group) commands e h = absurd cc

pub scripts_are_read : RowsAreRead → KeysAreRead → ScriptsAreRead
unfolding script_from
scripts_are_read rows keys n bytes commands =
    let ps = script_pieces (items_of bytes) in
    let same : run empty_script (numbered_pieces n bytes) ≡ steps n empty_script ps = run_is n empty_script ps in (
      λ h. let a = script_read rows keys (numbered_pieces n bytes) commands empty_script (same ∙ closed_whole (steps n empty_script ps) commands h) in subst (λ (all : List Command). IsScript (numbered_pieces n bytes) all) (sym a.2) a.1,
      λ is. ap closed (sym same ∙ script_runs rows keys is []),
    )
