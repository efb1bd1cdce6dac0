-- The names of a row of names, put together.
-- first_names count ns     the first names, as many as there are up to the count, with `;` between them
use Rattle.std.specs.Prelude.{ℕ, List, take}
use Rattle.std.specs.List.{join_with_byte}

abbrev pub first_names : ℕ → List (List ℕ) → List ℕ
first_names count ns = join_with_byte 59 (take count ns)
