-- Lists folded under NFKC, as they are answered.
-- where_list r      the list; None where a rule stands in its place
-- same_where r s    both are there, and the same ones, or neither is
-- folding_of c F    the full folding of the code point c, which has the facts F
use Rattle.std.specs.Prelude.{ℕ, Bool, true, false, List, Option, Some, None, Result, Ok, Err, bytes_eq}
use Rattle.ucd_facts.specs.Facts.{Facts, image_points}
use Rattle.ucd_facts.specs.declared.form.Bad.{Bad as Rule}

abbrev pub where_list : Result (List ℕ) Rule → Option (List ℕ)
where_list (Ok s) = Some s
where_list (Err rule) = None

abbrev pub same_where : Option (List ℕ) → Option (List ℕ) → Bool
same_where (Some s) (Some t) = bytes_eq s t
same_where None None = true
same_where _ _ = false

abbrev pub folding_of : ℕ → Facts → List ℕ
folding_of c F = image_points c F.fold
