-- What the code answers, and what is wanted.
-- stop_fault stop            the fault that the stop tells; None if memory ran out
-- Stops stop wanted          the stop is the fault that is wanted. If memory ran out, nothing is claimed
-- Gives view result wanted   the result shows what is wanted: the value, or the fault with its rule and place. If memory ran out, nothing is claimed
-- names_in a                 what names mean by a table of aliases
-- names_are                  those are what they mean by the rows of which the table is
use Rattle.std.specs.Prelude.{◌≡◌, Result, Option, Some, None}
use Rattle.ucd_points.specs.Answers.{AnswersBy, IsToldBy}
use Rattle.property_aliases.specs.Found.{AreAliasesOf, property_in, value_in, lone_in}
use Rattle.property_aliases.specs.Sources.{Sources}
use Rattle.property_aliases.specs.declared.aliases.Aliases.{Aliases}
use Rattle.unicodeset_eval.specs.Questions.{NameFault, fault, Names, names_of}
use Rattle.unicodeset_eval.specs.declared.stop.EvalStop.{EvalStop}
use Rattle.unicodeset_eval.specs.declared.stop.EvalStop.TheVariants.{Fault, Memory}

abbrev pub stop_fault : EvalStop → Option NameFault
stop_fault (Fault rule at) = Some (fault rule at)
stop_fault Memory = None

abbrev pub Stops : {T : Type 0} → EvalStop → Result T NameFault → Type 0
Stops stop wanted = IsToldBy (stop_fault stop) wanted

abbrev pub Gives : {X T : Type 0} → (X → T) → Result X EvalStop → Result T NameFault → Type 0
Gives view result wanted = AnswersBy view stop_fault result wanted

abbrev pub names_in : Aliases → Names
names_in a = record { property = property_in a; value = value_in a; lone = lone_in a }

pub names_are : (a : Aliases) (s : Sources) → AreAliasesOf a s → names_in a ≡ names_of s
names_are a s are = λ i. record { property = λ name. are.property name i; value = λ p name. are.value p name i; lone = λ name. are.lone name i }
