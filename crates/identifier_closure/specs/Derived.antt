-- Answers that are a record, or the first rule that a code point breaks.
-- RecordAnswers r value    r is the record, or in its place the rule; no claim if memory ran out
-- CasefoldsAnswer F c r    r is the images of c by the full and by the simple folding, or in their place V5, where one of them is
--                          not there; no claim if memory ran out
use Rattle.std.specs.Prelude.{◌≡◌, ℕ, true, Result, Ok, Err, ⊤}
use Rattle.ucd_points.specs.Answers.{AnswersBy}
use Rattle.ucd_facts.specs.Expansion.{rule_of}
use Rattle.ucd_facts.specs.Facts.{Facts}
use Rattle.ucd_model.specs.FoldRounds.{casefold_image}
use Rattle.ucd_model.specs.Records.{Record, kept_record}
use Rattle.ucd_model.specs.Validity.{is_unfolded}
use Rattle.ucd_facts.specs.declared.folding.Folding.TheVariants.{Full, Simple}
use Rattle.ucd_facts.specs.declared.form.Bad.{Bad as Rule}
use Rattle.ucd_facts.specs.declared.form.Bad.TheVariants.{V5}
use Rattle.ucd_facts.specs.declared.form.FormStop.{FormStop}
use Rattle.ucd_facts.specs.declared.form.FormStop.TheVariants.{Bad, Memory}
use Rattle.ucd_model.specs.declared.records.Record.{Record as KeptRecord}
use Rattle.identifier_closure.specs.declared.casefolds.Casefolds.{Casefolds}

abbrev pub RecordAnswers : Result KeptRecord FormStop → Result Record Rule → Type 0
RecordAnswers result value = AnswersBy kept_record rule_of result value

abbrev pub CasefoldsAnswer : (ℕ → Facts) → ℕ → Result Casefolds FormStop → Type 0
CasefoldsAnswer F c (Ok found) = (casefold_image Full F c ≡ Ok found.full) × (casefold_image Simple F c ≡ Ok found.simple)
CasefoldsAnswer F c (Err (Bad rule)) = (rule ≡ V5) × (is_unfolded F c ≡ true)
CasefoldsAnswer F c (Err Memory) = ⊤
