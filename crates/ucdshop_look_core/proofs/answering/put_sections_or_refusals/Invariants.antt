use Rattle.std.proofs.Common.{◌≡◌, ◌++◌, take}
use Rattle.ucdshop_look_core.specs.Answers.{any_refused, sections}
use Rattle.ucdshop_look_core.proofs.answering.put_sections_or_refusals.Given as goal

-- the sections of the questions so far, and whether one of these was refused
abbrev pub invariant-questions : goal.invariant-questions
invariant-questions l = record {
  text : l.text ≡ l.initial.text ++ sections l.asking (take l.question-index l.questions);
  refused : l.refused ≡ any_refused l.asking (take l.question-index l.questions);
}
