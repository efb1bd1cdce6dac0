-- A list matched with images.
-- matches rest mapped   the points are exactly what is left; nothing is matched where no rest is left
use Rattle.std.specs.Prelude.{ℕ, Bool, false, List, Option, Some, None, bytes_eq}
use Rattle.std.specs.Borrow.{Bor}

abbrev pub matches : Option (Bor (List ℕ)) → List ℕ → Bool
matches None mapped = false
matches (Some rest) mapped = bytes_eq mapped rest.now
