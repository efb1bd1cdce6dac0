use Rattle.std.proofs.Common.{◌≡◌, drop, flat_map}
use Rattle.unicodeset_eval.specs.Answers.{names_in}
use Rattle.unicodeset_eval.specs.Changes.{gathered}
use Rattle.unicodeset_eval.specs.Members.{nothing}
use Rattle.unicodeset_eval.specs.Questions.{members_after}
use Rattle.unicodeset_parser.specs.Trees.{steps_of}
use Rattle.unicodeset_parser.specs.Views.{part_view, parts_view}
use Rattle.unicodeset_eval.proofs.evaluation.+evaluation.Given as goal

-- the steps that are left give, behind the changes so far, what all steps give
abbrev pub invariant-changes_of-steps : goal.invariant-changes_of-steps
invariant-changes_of-steps g l = record {
  number : l.number ≡ l.step-index;
  kept : members_after (names_in l.aliases) (g.T.TestSets.holds l.index) (gathered l.changes.items) (steps_of (flat_map part_view (drop l.step-index l.step-items)))
      ≡ members_after (names_in l.aliases) (g.T.TestSets.holds l.index) nothing (steps_of (parts_view l.parts));
}
