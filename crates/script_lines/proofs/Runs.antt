-- The steps of a script over its numbered pieces.
use Rattle.std.proofs.Common.{◌≡◌, ℕ, ◌+◌, List, [], ◌∷◌, ◌++◌, Result, Ok, Err, refl, ap, ◌∙◌}
use Rattle.script_lines.specs.Grammar.{NumberedPiece, numbered}
use Rattle.script_lines.specs.Scripts.{ScriptFault, ScriptPiece, piece_lines, step, steps, then_steps}
use Rattle.script_lines.specs.declared.script.Script.{Script}

abbrev pub run : Script → List NumberedPiece → Result Script ScriptFault
run script [] = Ok script
run script (p ∷ ps) = then_steps (step p.number script p.piece) (λ next. run next ps)

then_same : (found : Result Script ScriptFault) (f g : Script → Result Script ScriptFault) → ((next : Script) → f next ≡ g next) → then_steps found f ≡ then_steps found g
then_same (Ok script) f g same = same script
then_same (Err fault) f g same = refl

then_twice : (found : Result Script ScriptFault) (f g : Script → Result Script ScriptFault) → then_steps found (λ next. then_steps (f next) g) ≡ then_steps (then_steps found f) g
then_twice (Ok script) f g = refl
then_twice (Err fault) f g = refl

pub run_is : (n : ℕ) (script : Script) (pieces : List ScriptPiece) → run script (numbered n pieces) ≡ steps n script pieces
run_is n script [] = refl
run_is n script (piece ∷ pieces) =
    then_same (step n script piece) (λ next. run next (numbered (n + piece_lines piece) pieces)) (λ next. steps (n + piece_lines piece) next pieces) (λ next. run_is (n + piece_lines piece) next pieces)

pub run_append : (script : Script) (front rest : List NumberedPiece) → run script (front ++ rest) ≡ then_steps (run script front) (λ next. run next rest)
run_append script [] rest = refl
run_append script (p ∷ front) rest =
    then_same (step p.number script p.piece) (λ next. run next (front ++ rest)) (λ next. then_steps (run next front) (λ later. run later rest)) (λ next. run_append next front rest)
    ∙ then_twice (step p.number script p.piece) (λ next. run next front) (λ next. run next rest)

-- a step that is made, and then the others
pub run_after : (script next : Script) (p : NumberedPiece) (ps : List NumberedPiece) → step p.number script p.piece ≡ Ok next → run script (p ∷ ps) ≡ run next ps
run_after script next p ps made = ap (λ (found : Result Script ScriptFault). then_steps found (λ later. run later ps)) made
