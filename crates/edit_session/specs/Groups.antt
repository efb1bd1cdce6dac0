-- Groups of operations: what the files are after them, or the rule that refuses the group.
-- group_limit                  the greatest number of operations in a group
-- files_facts files            the facts of the rows of these files
-- then_ops n result more       what comes behind an operation of this number; or the rule that it breaks, with its number
-- after_op files n op          the files after the operation, which has this number, or its rule
-- after_ops files n ops        the files after the operations, in order; or the rule that the first operation breaks that breaks
--                              one, with its number: n operations were carried out before these
-- checked_files result         the files, where they are valid, else the rule that a code point breaks; or the rule of an operation
-- valid_files files broken     the files where no code point breaks a rule of a valid release, else that rule
-- group_answer files ops       the files after the operations, where they are valid; else the rule of an operation, or that of the
--                              least code point that breaks one
-- differing R S                the code points, ascending, of which the records R and S differ
-- changed F G                  the code points, ascending, whose records differ over the facts F and G
-- refused_by stop              what the stop of a turn says of a group whose rows are not valid
-- HasTouched old new before after   outside of the spans behind, the facts of the rows are the same of both files; and the spans
--                              behind reach all that those before reach
-- AnswersAs result expected next   what operations are answered, and the files that are next then: those that are expected; or the
--                              rule that is expected; no claim if memory ran out
-- CountsAs expected F old new   the counter rises by at most the number of code points that depend on the change from the facts F
--                              to those of the expected files, and not if an operation is refused
-- AppliesAs result expected old new   what a group is answered and what it leaves: the files that are expected, now and next, and
--                              the code points whose records differ; or the rule that is expected and what was; what was if memory ran
--                              out
use Rattle.std.specs.Prelude.{◌≡◌, ℕ, ◌+◌, false, not, List, [], ◌∷◌, Option, Some, None, Result, Ok, Err, filter}
use Rattle.std.specs.List.{list_any, range_with_len}
use Rattle.ucd_points.specs.Bounds.{Bounds}
use Rattle.ucd_facts.specs.Facts.{Facts, facts, within}
use Rattle.ucd_points.specs.Limits.{point_count}
use Rattle.ucd_model.specs.Records.{Record, record_at}
use Rattle.ucd_model.specs.Sameness.{same_record}
use Rattle.ucd_model.specs.Validity.{first_broken}
use Rattle.ucd_facts.specs.declared.form.Broken.{Broken}
use Rattle.release_rows.specs.FileItems.{FileItem, rows_in}
use Rattle.release_rows.specs.Operations.{op_or_rule}
use Rattle.release_rows.specs.Releases.{ReleaseItems, items_at}
use Rattle.release_rows.specs.declared.key_rule.KeyRule.{KeyRule}
use Rattle.release_rows.specs.declared.operation.Op.{Op}
use Rattle.record_turns.specs.Turned.{CountsWithin}
use Rattle.record_turns.specs.declared.again_stop.AgainStop.{AgainStop}
use Rattle.record_turns.specs.declared.again_stop.AgainStop.TheVariants.{Broken as Breaks, Memory as Lacking}
use Rattle.edit_session.specs.declared.accepted.Accepted.{Accepted}
use Rattle.edit_session.specs.declared.apply_stop.ApplyStop.{ApplyStop}
use Rattle.edit_session.specs.declared.apply_stop.ApplyStop.TheVariants.{Refused as Refuses, Memory}
use Rattle.edit_session.specs.declared.apply_stop.Refused.{Refused}
use Rattle.edit_session.specs.declared.apply_stop.Refused.TheVariants.{Key, Valid}

abbrev pub group_limit : ℕ
group_limit = 4096

abbrev pub files_facts : List (List FileItem) → ℕ → Facts
files_facts files = facts (λ file. rows_in (items_at files file))

-- ---- the operations

abbrev pub then_ops : ℕ → Result (List (List FileItem)) KeyRule → (List (List FileItem) → Result (List (List FileItem)) Refused) → Result (List (List FileItem)) Refused
then_ops n (Ok files) more = more files
then_ops n (Err rule) more = Err (Key rule n)

abbrev pub after_op : List (List FileItem) → ℕ → Op → Result (List (List FileItem)) Refused
after_op files n op = then_ops n (op_or_rule files op) (λ next. Ok next)

unfoldable pub after_ops : List (List FileItem) → ℕ → List Op → Result (List (List FileItem)) Refused
after_ops files n [] = Ok files
after_ops files n (op ∷ ops) = then_ops (n + 1) (op_or_rule files op) (λ next. after_ops next (n + 1) ops)

pub record HasTouched (old new : List (List FileItem)) (before after : List Bounds) : Type 0 where
  pub stays : (c : ℕ) → list_any (within c) after ≡ false → files_facts new c ≡ files_facts old c
  pub grows : (c : ℕ) → list_any (within c) after ≡ false → list_any (within c) before ≡ false

-- ---- the group

abbrev pub valid_files : List (List FileItem) → Option Broken → Result (List (List FileItem)) Refused
valid_files files None = Ok files
valid_files files (Some broken) = Err (Valid broken.rule broken.point)

abbrev pub checked_files : Result (List (List FileItem)) Refused → Result (List (List FileItem)) Refused
checked_files (Ok files) = valid_files files (first_broken (files_facts files))
checked_files (Err refused) = Err refused

abbrev pub group_answer : List (List FileItem) → List Op → Result (List (List FileItem)) Refused
group_answer files ops = checked_files (after_ops files 0 ops)

-- ---- what it changes

abbrev pub differing : (ℕ → Record) → (ℕ → Record) → List ℕ
differing R S = filter (λ c. not (same_record (R c) (S c))) (range_with_len 0 point_count)

abbrev pub changed : (ℕ → Facts) → (ℕ → Facts) → List ℕ
changed F G = differing (record_at F) (record_at G)

-- ---- what it is answered

abbrev pub refused_by : AgainStop → ApplyStop
refused_by (Breaks rule point) = Refuses (Valid rule point)
refused_by Lacking = Memory

abbrev pub AnswersAs : {A : Type 0} → Result A ApplyStop → Result (List (List FileItem)) Refused → List (List FileItem) → Type 0
AnswersAs (Ok _) (Ok files) next = next ≡ files
AnswersAs (Err (Refuses why)) (Err refused) next = why ≡ refused
AnswersAs (Err Memory) expected next = Unit {0}
AnswersAs _ _ next = ⊥

abbrev pub CountsAs : Result (List (List FileItem)) Refused → (ℕ → Facts) → ℕ → ℕ → Type 0
CountsAs (Ok files) F old new = CountsWithin F (files_facts files) old new
CountsAs (Err refused) F old new = new ≡ old

abbrev pub AppliesAs : Result Accepted ApplyStop → Result (List (List FileItem)) Refused → ReleaseItems → ReleaseItems → Type 0
AppliesAs (Ok accepted) (Ok files) old new = (new ≡ record { current = files; prepared = files }) × (accepted.changed ≡ changed (files_facts old.current) (files_facts files))
AppliesAs (Err (Refuses why)) (Err refused) old new = (why ≡ refused) × (new ≡ old)
AppliesAs (Err Memory) expected old new = new ≡ old
AppliesAs _ _ old new = ⊥
