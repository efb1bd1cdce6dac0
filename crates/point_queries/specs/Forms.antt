-- Forms that may not be there.
-- list_in r            the list r; None where r is a rule
-- composing_at F form   what the composition of the decomposed list asks; of None nothing
-- composed_at F form    the decomposed list composed; None where there is none
use Rattle.std.proofs.Common.{ℕ, List, [], Option, Some, None, Result, Ok, Err}
use Rattle.ucd_model.specs.CanonicalOrder.{class_of}
use Rattle.ucd_facts.specs.Composites.{pair_of}
use Rattle.ucd_model.specs.Composition.{compose}
use Rattle.ucd_facts.specs.Facts.{Facts}
use Rattle.ucd_facts.specs.declared.form.Bad.{Bad as Rule}
use Rattle.ucd_facts.specs.declared.query.Query.{Query}
use Rattle.query_laws.specs.Questions.{composing_asks}

abbrev pub list_in : Result (List ℕ) Rule → Option (List ℕ)
list_in (Ok s) = Some s
list_in (Err rule) = None

abbrev pub composing_at : (ℕ → Facts) → Option (List ℕ) → List Query
composing_at F (Some s) = composing_asks F (Ok s)
composing_at F None = []

abbrev pub composed_at : (ℕ → Facts) → Option (List ℕ) → Option (List ℕ)
composed_at F (Some s) = Some (compose (class_of F) (pair_of F) s)
composed_at F None = None
