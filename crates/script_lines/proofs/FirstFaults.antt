-- The fault of a script is its first one.
use Rattle.std.proofs.Common.{◌≡◌, ◌⊎◌, inl, inr, ℕ, ◌+◌, ◌-◌, Bool, true, false, List, [], ◌∷◌, ◌++◌, length, reverse, find, filter, Option, Some, None, Result, Ok, Err, refl, sym, ap, subst, ◌∙◌, arith, append_assoc, append-nil, drop_of_length-le, cond, if◌then◌else◌, not}
use Rattle.std.specs.List.{after_last, suffix_len}
use Rattle.std.proofs.lemmas.List.{length_push, reverse-append, drop-append-le}
use Rattle.std.proofs.lemmas.List.Elements.{filter-append}
use Rattle.ucd_points.specs.Lines.{items_of}
use Rattle.release_rows.specs.declared.operation.Op.{Op}
use Rattle.script_lines.proofs.Runs.{run, run_is, run_append}
use Rattle.script_lines.specs.Faults.{fault_of, says_group_line, says_operation, is_group_line, is_operation, begin_in, open_begin, operations, is_full, found_fault, fault_by, fault_at, NoFault, FirstFault, Unclosed, FaultsAreFirst}
use Rattle.script_lines.specs.Grammar.{NumberedPiece, numbered_pieces}
use Rattle.script_lines.specs.Lines.{Said, nothing, begins, ends, asks, puts, withdraws, no_command, said}
use Rattle.script_lines.specs.Scripts.{ScriptFault, row_op, key_op, at_line, begun_by, ended_by, asked_by, with_op_by, is_full as is_full_group, with_found, step, step_by, steps, then_steps, closed, closed_by, empty_script, script_from, script_pieces}
use Rattle.script_lines.specs.declared.command.Command.{Command}
use Rattle.script_lines.specs.declared.group.OpenGroup.{OpenGroup}
use Rattle.script_lines.specs.declared.script.Script.{Script}
use Rattle.script_lines.specs.declared.stop.ScriptRule.TheVariants.{E2, E5}

-- ---- one more piece

last_on : {X : Type 0} (p : X → Bool) (xs : List X) (x : X) → p x ≡ true → after_last p (xs ++ x ∷ []) ≡ []
last_on p xs x e =
    let none : suffix_len (λ y. not (p y)) (xs ++ x ∷ []) ≡ 0 = rw (reverse-append xs (x ∷ []), e) refl in
    rw none (drop_of_length-le (xs ++ x ∷ []) (omega arith))

last_off : {X : Type 0} (p : X → Bool) (xs : List X) (x : X) → p x ≡ false → after_last p (xs ++ x ∷ []) ≡ after_last p xs ++ x ∷ []
last_off p xs x e =
    let one : suffix_len (λ y. not (p y)) (xs ++ x ∷ []) ≡ 1 + suffix_len (λ y. not (p y)) xs = rw (reverse-append xs (x ∷ []), e) refl in
    let long = length_push xs x in
    let place : length (xs ++ x ∷ []) - suffix_len (λ y. not (p y)) (xs ++ x ∷ []) ≡ length xs - suffix_len (λ y. not (p y)) xs = omega (arith, one, long) in
    rw place (drop-append-le (length xs - suffix_len (λ y. not (p y)) xs) xs (x ∷ []) (omega arith))

met_last : (before : List NumberedPiece) (p : NumberedPiece) → is_group_line p ≡ true → find is_group_line (reverse (before ++ p ∷ [])) ≡ Some p
met_last before p e = rw (reverse-append before (p ∷ []), e) refl

met_before : (before : List NumberedPiece) (p : NumberedPiece) → is_group_line p ≡ false → find is_group_line (reverse (before ++ p ∷ [])) ≡ find is_group_line (reverse before)
met_before before p e = rw (reverse-append before (p ∷ []), e) refl

begin_more : (before : List NumberedPiece) (p : NumberedPiece) → said p.piece.line ≡ begins → open_begin (before ++ p ∷ []) ≡ Some p
begin_more before p e = ap begin_in (met_last before p (ap says_group_line e)) ∙ rw e refl

end_more : (before : List NumberedPiece) (p : NumberedPiece) → said p.piece.line ≡ ends → open_begin (before ++ p ∷ []) ≡ None
end_more before p e = ap begin_in (met_last before p (ap says_group_line e)) ∙ rw e refl

inner_more : (before : List NumberedPiece) (p : NumberedPiece) → is_group_line p ≡ false → open_begin (before ++ p ∷ []) ≡ open_begin before
inner_more before p e = ap begin_in (met_before before p e)

none_since : (before : List NumberedPiece) (p : NumberedPiece) → is_group_line p ≡ true → operations (before ++ p ∷ []) ≡ []
none_since before p e = ap (filter is_operation) (last_on is_group_line before p e)

since_more : (before : List NumberedPiece) (p : NumberedPiece) → is_group_line p ≡ false → operations (before ++ p ∷ []) ≡ operations before ++ cond (is_operation p) (p ∷ []) []
since_more before p e = ap (filter is_operation) (last_off is_group_line before p e) ∙ filter-append is_operation (after_last is_group_line before) (p ∷ [])

-- ---- what is open, and the open group of the steps

abbrev Follows : List NumberedPiece → Option OpenGroup → Type 0
Follows before None = open_begin before ≡ None
Follows before (Some group) = (opening : NumberedPiece) × (open_begin before ≡ Some opening) × (opening.number ≡ group.line) × (length (operations before) ≡ length group.ops)

full_same : (before : List NumberedPiece) (group : Option OpenGroup) → Follows before group → is_full before ≡ is_full_group group
full_same before None f = rw f refl
full_same before (Some group) f = rw (f.1, f.3) refl

still_follows : (before : List NumberedPiece) (p : NumberedPiece) (group : Option OpenGroup) → is_group_line p ≡ false → is_operation p ≡ false → Follows before group → Follows (before ++ p ∷ []) group
still_follows before p None inner none f = inner_more before p inner ∙ f
still_follows before p (Some group) inner none f =
    let same : operations (before ++ p ∷ []) ≡ operations before = since_more before p inner ∙ ap (λ b. operations before ++ cond b (p ∷ []) []) none ∙ append-nil (operations before) in
    (f.0, inner_more before p inner ∙ f.1, f.2, ap length same ∙ f.3)

op_follows : (before : List NumberedPiece) (p : NumberedPiece) (op : Op) (script : Script) (group : Option OpenGroup) → is_group_line p ≡ false → is_operation p ≡ true → Follows before group → Follows (before ++ p ∷ []) (with_op_by p.number op script group).group
op_follows before p op script None inner is f = inner_more before p inner ∙ f
op_follows before p op script (Some group) inner is f =
    let more : operations (before ++ p ∷ []) ≡ operations before ++ p ∷ [] = since_more before p inner ∙ ap (λ b. operations before ++ cond b (p ∷ []) []) is in
    let long = length_push (operations before) p in
    let longer = length_push group.ops op in
    let as_long = f.3 in
    (f.0, inner_more before p inner ∙ f.1, f.2, ap length more ∙ omega (arith, long, longer, as_long))

-- ---- a step

-- a step has the fault of its piece, or what is open still agrees
abbrev StepTold : List NumberedPiece → NumberedPiece → Result Script ScriptFault → Type 0
StepTold before p (Ok next) = (fault_at before p ≡ None) × Follows (before ++ p ∷ []) next.group
StepTold before p (Err fault) = fault_at before p ≡ Some fault

begin_told : (before : List NumberedPiece) (p : NumberedPiece) (script : Script) (group : Option OpenGroup) → said p.piece.line ≡ begins → Follows before group → StepTold before p (begun_by p.number script group)
begin_told before p script None e f = (ap (fault_by before p) e ∙ rw f refl, (p, begin_more before p e, refl, ap length (none_since before p (ap says_group_line e))))
begin_told before p script (Some group) e f = ap (fault_by before p) e ∙ rw f.1 refl

end_told : (before : List NumberedPiece) (p : NumberedPiece) (script : Script) (group : Option OpenGroup) → said p.piece.line ≡ ends → Follows before group → StepTold before p (ended_by p.number script group)
end_told before p script None e f = ap (fault_by before p) e ∙ rw f refl
end_told before p script (Some group) e f = (ap (fault_by before p) e ∙ rw f.1 refl, end_more before p e)

ask_told : (before : List NumberedPiece) (p : NumberedPiece) (text : List ℕ) (script : Script) (group : Option OpenGroup) → said p.piece.line ≡ asks text → Follows before group → StepTold before p (asked_by p.number text script group)
ask_told before p text script None e f = (ap (fault_by before p) e ∙ rw f refl, still_follows before p None (ap says_group_line e) (ap says_operation e) f)
ask_told before p text script (Some group) e f = ap (fault_by before p) e ∙ rw f.1 refl

found_told : (before : List NumberedPiece) (p : NumberedPiece) (script : Script) (found : Result Op ScriptFault) (full : Bool) → is_full_group script.group ≡ full → is_group_line p ≡ false → is_operation p ≡ true
    → fault_at before p ≡ (if is_full before then Some (fault_of p E5) else found_fault found) → Follows before script.group → StepTold before p (if full then at_line p.number E5 else with_found p.number script found)
found_told before p script found true e inner is told f = told ∙ rw (full_same before script.group f, e) refl
found_told before p script (Err fault) false e inner is told f = told ∙ rw (full_same before script.group f, e) refl
found_told before p script (Ok op) false e inner is told f = (told ∙ rw (full_same before script.group f, e) refl, op_follows before p op script script.group inner is f)

step_told : (before : List NumberedPiece) (p : NumberedPiece) (script : Script) (what : Said) → said p.piece.line ≡ what → Follows before script.group → StepTold before p (step_by p.number script p.piece.next what)
step_told before p script nothing e f = (ap (fault_by before p) e, still_follows before p script.group (ap says_group_line e) (ap says_operation e) f)
step_told before p script begins e f = begin_told before p script script.group e f
step_told before p script ends e f = end_told before p script script.group e f
step_told before p script (asks text) e f = ask_told before p text script script.group e f
step_told before p script (puts put file text) e f =
    found_told before p script (row_op p.number put file text p.piece.next) (is_full_group script.group) refl (ap says_group_line e) (ap says_operation e) (ap (fault_by before p) e) f
step_told before p script (withdraws file text) e f =
    found_told before p script (key_op p.number file text) (is_full_group script.group) refl (ap says_group_line e) (ap says_operation e) (ap (fault_by before p) e) f
step_told before p script no_command e f = ap (fault_by before p) e

-- ---- the steps

abbrev NoFaultBelow : List NumberedPiece → List NumberedPiece → Type 0
NoFaultBelow above ps = (before : List NumberedPiece) (p : NumberedPiece) (rest : List NumberedPiece) → ps ≡ before ++ p ∷ rest → fault_at (above ++ before) p ≡ None

record FaultBelow (above ps : List NumberedPiece) (fault : ScriptFault) : Type 0 where
  before : List NumberedPiece
  piece : NumberedPiece
  rest : List NumberedPiece
  cut : ps ≡ before ++ piece ∷ rest
  none_before : NoFaultBelow above before
  is : fault_at (above ++ before) piece ≡ Some fault

-- the steps have the first fault of the pieces, or no piece has one and what is open still agrees
abbrev RunTold : List NumberedPiece → List NumberedPiece → Result Script ScriptFault → Type 0
RunTold above ps (Ok next) = NoFaultBelow above ps × Follows (above ++ ps) next.group
RunTold above ps (Err fault) = FaultBelow above ps fault

nothing_below : (above : List NumberedPiece) → NoFaultBelow above []
nothing_below above [] p rest cut = absurd cc
nothing_below above (x ∷ before) p rest cut = absurd cc

onto_none : (above : List NumberedPiece) (x : NumberedPiece) (ps : List NumberedPiece) → fault_at above x ≡ None → NoFaultBelow (above ++ x ∷ []) ps → NoFaultBelow above (x ∷ ps)
onto_none above x ps one none [] p rest cut =
    let same : x ≡ p = cc in
    ap (λ (qs : List NumberedPiece). fault_at qs p) (append-nil above) ∙ ap (fault_at above) (sym same) ∙ one
onto_none above x ps one none (y ∷ before) p rest cut =
    let same : x ≡ y = cc in
    let later : ps ≡ before ++ p ∷ rest = cc in
    ap (λ (qs : List NumberedPiece). fault_at qs p) (ap (λ (z : NumberedPiece). above ++ z ∷ before) (sym same) ∙ sym (append_assoc above (x ∷ []) before)) ∙ none before p rest later

more_told : (above : List NumberedPiece) (p : NumberedPiece) (ps : List NumberedPiece) (found : Result Script ScriptFault) → fault_at above p ≡ None → RunTold (above ++ p ∷ []) ps found → RunTold above (p ∷ ps) found
more_told above p ps (Ok next) one told = (onto_none above p ps one told.0, subst (λ (qs : List NumberedPiece). Follows qs next.group) (append_assoc above (p ∷ []) ps) told.1)
more_told above p ps (Err fault) one told =
    record {
      before = p ∷ told.before;
      piece = told.piece;
      rest = told.rest;
      cut = ap (λ (qs : List NumberedPiece). p ∷ qs) told.cut;
      none_before = onto_none above p told.before one told.none_before;
      is = ap (λ (qs : List NumberedPiece). fault_at qs told.piece) (sym (append_assoc above (p ∷ []) told.before)) ∙ told.is;
    }

then_told : (above : List NumberedPiece) (p : NumberedPiece) (ps : List NumberedPiece) (found : Result Script ScriptFault) → StepTold above p found → ((next : Script) → Follows (above ++ p ∷ []) next.group → RunTold (above ++ p ∷ []) ps (run next ps)) → RunTold above (p ∷ ps) (then_steps found (λ next. run next ps))
then_told above p ps (Ok next) told go = more_told above p ps (run next ps) told.0 (go next told.1)
then_told above p ps (Err fault) told go =
    record { before = []; piece = p; rest = ps; cut = refl; none_before = nothing_below above; is = ap (λ (qs : List NumberedPiece). fault_at qs p) (append-nil above) ∙ told }

run_told : (ps above : List NumberedPiece) (script : Script) → Follows above script.group → RunTold above ps (run script ps)
run_told [] above script f = (nothing_below above, subst (λ (qs : List NumberedPiece). Follows qs script.group) (sym (append-nil above)) f)
run_told (p ∷ ps) above script f = then_told above p ps (step p.number script p.piece) (step_told above p script (said p.piece.line) refl f) (λ next more. run_told ps (above ++ p ∷ []) next more)

-- ---- the law

abbrev IsTold : List NumberedPiece → ScriptFault → Type 0
IsTold ps fault = FirstFault ps fault ⊎ Unclosed ps fault

open_is_told : (ps : List NumberedPiece) (commands : List Command) (group : Option OpenGroup) (fault : ScriptFault) → NoFault ps → Follows ps group → closed_by commands group ≡ Err fault → IsTold ps fault
open_is_told ps commands None fault none f h = absurd cc
open_is_told ps commands (Some group) fault none f h =
    let same : record { line = group.line; rule = E2 } ≡ fault = cc in
    inr (record { none = none; opening = f.0; begin = f.1; is = sym same ∙ ap (λ (n : ℕ). record { line = n; rule = E2 }) (sym f.2) })

fault_is_told : (ps : List NumberedPiece) (found : Result Script ScriptFault) (fault : ScriptFault) → RunTold [] ps found → closed found ≡ Err fault → IsTold ps fault
fault_is_told ps (Ok next) fault told h = open_is_told ps next.commands next.group fault told.0 told.1 h
fault_is_told ps (Err other) fault told h =
    let same : other ≡ fault = cc in
    inl (record { before = told.before; piece = told.piece; rest = told.rest; cut = told.cut; none_before = told.none_before; is = told.is ∙ ap (λ (f : ScriptFault). Some f) same })

step_fails : (before : List NumberedPiece) (p : NumberedPiece) (made : Result Script ScriptFault) (more : Script → Result Script ScriptFault) (fault : ScriptFault) → StepTold before p made → fault_at before p ≡ Some fault → then_steps made more ≡ Err fault
step_fails before p (Ok next) more fault told is = let none = told.0 in absurd cc
step_fails before p (Err other) more fault told is = let same : Some other ≡ Some fault = sym told ∙ is in cc

first_fails : (f : ScriptFault) (before : List NumberedPiece) (p : NumberedPiece) (rest : List NumberedPiece) (found : Result Script ScriptFault) → RunTold [] before found → NoFault before → fault_at before p ≡ Some f → then_steps found (λ next. run next (p ∷ rest)) ≡ Err f
first_fails f before p rest (Ok next) told none is = step_fails before p (step p.number next p.piece) (λ later. run later rest) f (step_told before p next (said p.piece.line) refl told.1) is
first_fails f before p rest (Err other) told none is = let clean : fault_at told.before told.piece ≡ None = none told.before told.piece told.rest told.cut in let found : fault_at told.before told.piece ≡ Some other = told.is in absurd cc

unclosed_by : (ps : List NumberedPiece) (commands : List Command) (group : Option OpenGroup) (fault : ScriptFault) → Follows ps group → Unclosed ps fault → closed_by commands group ≡ Err fault
unclosed_by ps commands None fault f u = let begin = u.begin in absurd cc
unclosed_by ps commands (Some group) fault f u =
    let one = f.1 in
    let other = u.begin in
    let same : Some (f.0) ≡ Some (u.opening) = sym one ∙ other in
    let number : u.opening.number ≡ group.line = let is : u.opening ≡ f.0 = cc in ap (λ (p : NumberedPiece). p.number) is ∙ f.2 in
    ap (λ (n : ℕ). Err (record { line = n; rule = E2 })) (sym number) ∙ ap (λ (g : ScriptFault). Err g) (sym u.is)

unclosed_fails : (ps : List NumberedPiece) (found : Result Script ScriptFault) (fault : ScriptFault) → RunTold [] ps found → Unclosed ps fault → closed found ≡ Err fault
unclosed_fails ps (Ok next) fault told u = unclosed_by ps next.commands next.group fault told.1 u
unclosed_fails ps (Err other) fault told u = let clean : fault_at told.before told.piece ≡ None = u.none told.before told.piece told.rest told.cut in let found : fault_at told.before told.piece ≡ Some other = told.is in absurd cc

told_fails : (ps : List NumberedPiece) (fault : ScriptFault) → IsTold ps fault → closed (run empty_script ps) ≡ Err fault
told_fails ps fault (inl first) =
    ap closed (ap (run empty_script) first.cut ∙ run_append empty_script first.before (first.piece ∷ first.rest)
    ∙ first_fails fault first.before first.piece first.rest (run empty_script first.before) (run_told first.before [] empty_script refl) first.none_before first.is)
told_fails ps fault (inr unclosed) = unclosed_fails ps (run empty_script ps) fault (run_told ps [] empty_script refl) unclosed

pub faults_are_first : FaultsAreFirst
unfolding script_from
faults_are_first n bytes fault =
    let ps = script_pieces (items_of bytes) in
    let same : run empty_script (numbered_pieces n bytes) ≡ steps n empty_script ps = run_is n empty_script ps in (
      λ h. fault_is_told (numbered_pieces n bytes) (run empty_script (numbered_pieces n bytes)) fault (run_told (numbered_pieces n bytes) [] empty_script refl) (ap closed same ∙ h),
      λ told. ap closed (sym same) ∙ told_fails (numbered_pieces n bytes) fault told,
    )
