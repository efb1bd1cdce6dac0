-- What makes copies of values.
-- Copies gives   what a call gives for a value, if it gives one, is that value
use Rattle.std.specs.Prelude.{◌≡◌, Result, IfOk}
use Rattle.std.specs.Borrow.{Bor}
use Rattle.ucd_points.specs.declared.memory.Memory.{Memory}

abbrev pub Copies : {V : Type 0} → (Bor V → Result V Memory → Type 0) → Type 0
Copies {V} gives = (value : Bor V) (made : Result V Memory) → gives value made → IfOk made (λ it. it ≡ value.now)
