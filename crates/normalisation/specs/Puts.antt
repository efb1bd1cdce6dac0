-- What a value or the rule in its place leaves behind a list.
-- PutsExpansion old new result value   the value, a list of points or the rule in its place, was put behind the old list;
--                                      no claim if memory ran out
use Rattle.std.specs.Prelude.{◌≡◌, ℕ, List, Result, Ok, Err, ⊤}
use Rattle.ucd_facts.specs.declared.form.Bad.{Bad as Rule}
use Rattle.ucd_facts.specs.declared.form.FormStop.{FormStop}
use Rattle.ucd_facts.specs.declared.form.FormStop.TheVariants.{Bad, Memory}
use Rattle.ucd_model.specs.Forms.{appended}

abbrev pub PutsExpansion : {A : Type 0} → List ℕ → List ℕ → Result A FormStop → Result (List ℕ) Rule → Type 0
PutsExpansion old new (Ok _) value = appended (Ok old) value ≡ Ok new
PutsExpansion old new (Err (Bad rule)) value = value ≡ Err rule
PutsExpansion old new (Err Memory) value = ⊤
