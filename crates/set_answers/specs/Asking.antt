-- What answers questions.
-- CanAnswer files aliases holds   the aliases are those of the rows of these files, and the tests hold as these files say
-- IsUnread stop why               a refusal by the rule and the place of a text that is no set; no claim if memory ran out
-- IsUnnamed stop why              a refusal by the rule and the place of a name that means nothing; no claim if memory ran out
use Rattle.std.specs.Prelude.{◌≡◌, ℕ, Bool, List, ⊤}
use Rattle.property_aliases.specs.Found.{AreAliasesOf}
use Rattle.property_aliases.specs.declared.aliases.Aliases.{Aliases}
use Rattle.property_aliases.specs.declared.property.Test.{Test}
use Rattle.release_rows.specs.FileItems.{FileItem}
use Rattle.unicodeset_eval.specs.declared.stop.EvalStop.{EvalStop}
use Rattle.unicodeset_eval.specs.declared.stop.EvalStop.TheVariants as names
use Rattle.unicodeset_parser.specs.declared.stop.SetStop.{SetStop}
use Rattle.unicodeset_parser.specs.declared.stop.SetStop.TheVariants as texts
use Rattle.set_answers.specs.Questions.{files_hold, files_sources}
use Rattle.set_answers.specs.declared.ask_stop.AskRule.TheVariants.{Text, Name}
use Rattle.set_answers.specs.declared.ask_stop.AskStop.{AskStop}
use Rattle.set_answers.specs.declared.ask_stop.AskStop.TheVariants.{Fault, Memory}

pub record CanAnswer (files : List (List FileItem)) (aliases : Aliases) (holds : Test → ℕ → Bool) : Type 0 where
  pub meant : AreAliasesOf aliases (files_sources files)
  pub tests : holds ≡ files_hold files

abbrev pub IsUnread : AskStop → SetStop → Type 0
IsUnread (Fault fault) (texts.Fault rule at) = fault ≡ record { rule = Text rule; at = at }
IsUnread Memory stop = ⊤
IsUnread _ stop = ⊥

abbrev pub IsUnnamed : AskStop → EvalStop → Type 0
IsUnnamed (Fault fault) (names.Fault rule at) = fault ≡ record { rule = Name rule; at = at }
IsUnnamed Memory stop = ⊤
IsUnnamed _ stop = ⊥
