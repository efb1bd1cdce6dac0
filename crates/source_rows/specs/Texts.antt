-- Parts of the text of a row.
-- ended fs    the fields, each with a `;` behind it
-- named ns    names, each with ` ; ` before it
use Rattle.std.specs.Prelude.{ℕ, List, [], ◌∷◌, ◌++◌, codes, flat_map}

abbrev pub ended : List (List ℕ) → List ℕ
ended fs = flat_map (λ f. f ++ 59 ∷ []) fs

abbrev pub named : List (List ℕ) → List ℕ
named ns = flat_map (λ n. codes " ; " ++ n) ns
