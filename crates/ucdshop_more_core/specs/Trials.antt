-- What `conform` is given: a release, and the cases of NormalizationTest.txt that it is tried on; or why it is refused.
-- case_rule_code rule      the code of a rule that a file of cases breaks
-- told_cases path read     the cases of the file at a path; or the line of its first fault: the path, the number of the line, and the
--                          rule's code
-- cases_of path file       the same of the bytes of that file; where it is refused as a whole the number of the line is 0
-- cases_told path held     the same of what is held of that file
-- with_cases release cases the release with the cases; or the line that refuses them
-- trial_verdict input tests seen   the release in a folder and the cases of the file behind it, of which this was seen; or the line that
--                          refuses the first of these: a file of the folder, a code point, the file of cases
-- TellsLine stop line      a refusal by this line; no claim if memory ran out
use Rattle.std.specs.Prelude.{◌≡◌, ℕ, List, Option, Result, Ok, Err, codes, ⊤}
use Rattle.release_rows.specs.Releases.{ReleaseItems}
use Rattle.norm_conformance.specs.Cases.{CaseFault, cases_or_fault}
use Rattle.norm_conformance.specs.declared.case.Cases.{Cases}
use Rattle.norm_conformance.specs.declared.stop.CaseRule.{CaseRule}
use Rattle.norm_conformance.specs.declared.stop.CaseRule.TheVariants.{N1, N2, N3}
use Rattle.run_endings.specs.Endings.{Seen}
use Rattle.run_endings.specs.declared.stop.Stop.{Stop}
use Rattle.run_endings.specs.declared.stop.Stop.TheVariants.{Refused, Memory}
use Rattle.run_inputs.specs.Held.{held_at, source_held}
use Rattle.run_inputs.specs.RefusalLines.{file_rule_code, refused}
use Rattle.run_inputs.specs.Refusals.{folder_verdict}
use Rattle.run_inputs.specs.Verdict.{and_then, release_items, second_verdict}
use Rattle.run_inputs.specs.declared.refusal.FileRule.{FileRule}
use Rattle.ucdshop_more_core.specs.declared.trial.Trial.{Trial}

abbrev pub case_rule_code : CaseRule → List ℕ
case_rule_code N1 = codes "N1"
case_rule_code N2 = codes "N2"
case_rule_code N3 = codes "N3"

abbrev pub told_cases : List ℕ → Result Cases CaseFault → Result Cases (List ℕ)
told_cases path (Ok cases) = Ok cases
told_cases path (Err fault) = Err (refused path fault.line (case_rule_code fault.rule))

abbrev pub cases_of : List ℕ → Result (List ℕ) FileRule → Result Cases (List ℕ)
cases_of path (Ok bytes) = told_cases path (cases_or_fault bytes)
cases_of path (Err rule) = Err (refused path 0 (file_rule_code rule))

abbrev pub cases_told : List ℕ → Option (List ℕ) → Result Cases (List ℕ)
cases_told path held = cases_of path (second_verdict held)

abbrev pub with_cases : ReleaseItems → Result Cases (List ℕ) → Result Trial (List ℕ)
with_cases release (Ok cases) = Ok (record { bench = release; cases = cases })
with_cases release (Err line) = Err line

-- a folder has nine files
abbrev pub trial_verdict : List ℕ → List ℕ → Seen → Result Trial (List ℕ)
trial_verdict input tests seen = and_then (folder_verdict input (source_held seen 0)) (λ files. with_cases (release_items files) (cases_told tests (held_at seen 9)))

abbrev pub TellsLine : Stop → List ℕ → Type 0
TellsLine (Refused told) line = told ≡ line
TellsLine Memory line = ⊤
TellsLine _ line = ⊥
