-- What a question is answered, from what its tree is answered.
use mathlib.Core.Path.{fun_ext}
use Rattle.std.proofs.Common.{◌≡◌, ℕ, Bool, List, Result, Err, sym, ap, ◌∙◌}
use Rattle.ucd_points.specs.Bounds.{Bounds}
use Rattle.ucd_points.specs.Limits.{point_count}
use Rattle.property_aliases.specs.Found.{AreAliasesOf}
use Rattle.property_aliases.specs.Sources.{Sources}
use Rattle.property_aliases.specs.declared.aliases.Aliases.{Aliases}
use Rattle.property_aliases.specs.declared.property.Test.{Test}
use Rattle.release_rows.specs.FileItems.{FileItem}
use Rattle.unicodeset_eval.specs.Answers.{Stops}
use Rattle.unicodeset_eval.specs.Questions.{NameFault, answer, fault}
use Rattle.unicodeset_eval.specs.declared.stop.EvalStop.{EvalStop}
use Rattle.unicodeset_eval.specs.declared.stop.EvalStop.TheVariants as names
use Rattle.unicodeset_parser.specs.Trees.{Tree}
use Rattle.set_answers.specs.Asking.{CanAnswer, IsUnnamed}
use Rattle.set_answers.specs.Questions.{AskedAs, files_hold, files_sources, named_answer, tree_answer}
use Rattle.set_answers.specs.declared.ask_stop.AskFault.{AskFault}
use Rattle.set_answers.specs.declared.ask_stop.AskStop.{AskStop}
use Rattle.set_answers.specs.declared.ask_stop.AskStop.TheVariants.{Fault, Memory}

-- ---- the tests

pub holds_are : (files : List (List FileItem)) (holds : Test → ℕ → Bool) → ((test : Test) (c : ℕ) → holds test c ≡ files_hold files test c) → holds ≡ files_hold files
holds_are files holds same = fun_ext (λ test. fun_ext (λ c. same test c))

-- ---- the answers

module _ (files : List (List FileItem)) (aliases : Aliases) (holds : Test → ℕ → Bool) (tree : Tree) (can : CanAnswer files aliases holds) where
  pub tree_asked : (r : Result (List Bounds) NameFault) → ((s : Sources) → AreAliasesOf aliases s → answer s holds point_count tree ≡ r) → tree_answer files tree ≡ named_answer r
  tree_asked r each =
      ap (λ (h : Test → ℕ → Bool). named_answer (answer (files_sources files) h point_count tree)) (sym can.tests)
      ∙ ap named_answer (each (files_sources files) can.meant)

  pub unnamed_asked : (stop : EvalStop) (told : AskStop) → ((s : Sources) → AreAliasesOf aliases s → Stops stop (answer s holds point_count tree)) → IsUnnamed told stop
      → AskedAs (Err told) (tree_answer files tree)
  unnamed_asked (names.Fault rule at) (Fault refusal) each is =
      tree_asked (Err (fault rule at)) each ∙ ap (λ (f : AskFault). Err f) (sym is)
  unnamed_asked (names.Fault rule at) Memory each is = tt
  unnamed_asked names.Memory (Fault refusal) each is = absurd is
  unnamed_asked names.Memory Memory each is = tt
