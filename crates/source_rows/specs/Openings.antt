-- How the text of a name begins.
-- may_open_name text      the first byte is white space or `<`, as it is of the text of a name that begins with `<`
use Rattle.std.specs.Prelude.{ℕ, Bool, false, ◌||◌, List, [], ◌∷◌, ◌==◌}
use Rattle.ucd_points.specs.Lines.{is_blank}

abbrev pub may_open_name : List ℕ → Bool
may_open_name [] = false
may_open_name (b ∷ bs) = (b == 60) || is_blank b
