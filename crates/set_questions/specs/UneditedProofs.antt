-- The files that a group does not edit have the items that they had.
-- unedited_stay   after a group that was accepted, each file that no operation of it is on has the same items
use Rattle.std.proofs.Common.{◌≡◌, ◌≢◌, ℕ, ◌+◌, Bool, true, false, List, [], ◌∷◌, Option, Some, None, Result, Ok, Err, refl, sym, ap, subst, ◌∙◌}
use Rattle.std.proofs.lemmas.Bool.{or_parts}
use Rattle.std.specs.List.{list_any}
use Rattle.ucd_model.specs.Validity.{first_broken}
use Rattle.ucd_facts.specs.declared.form.Broken.{Broken}
use Rattle.release_rows.specs.FileLemmas.{items_at-with_items_other}
use Rattle.release_rows.specs.Operations.{edited, op_file, op_or_rule, with_edited}
use Rattle.release_rows.specs.Releases.{ReleaseItems, items_at, with_items, FileItem, SourceFile}
use Rattle.release_rows.specs.declared.key_rule.KeyRule.{KeyRule}
use Rattle.release_rows.specs.declared.operation.Op.{Op}
use Rattle.edit_session.specs.Groups.{AppliesAs, after_ops, checked_files, files_facts, group_answer, then_ops, valid_files}
use Rattle.edit_session.specs.declared.accepted.Accepted.{Accepted}
use Rattle.edit_session.specs.declared.apply_stop.Refused.{Refused}
use Rattle.set_answers.specs.RowNames.{SameTold, UneditedStay}

abbrev Files : Type 0
Files = List (List FileItem)

valid_is : (files next : Files) (broken : Option Broken) → valid_files files broken ≡ Ok next → files ≡ next
valid_is files next None e = cc
valid_is files next (Some broken) e = absurd cc

checked_is : (result : Result Files Refused) (next : Files) → checked_files result ≡ Ok next → result ≡ Ok next
checked_is (Ok files) next e = ap (λ (fs : Files). Ok fs) (valid_is files next (first_broken (files_facts files)) e)
checked_is (Err refused) next e = absurd cc

-- ---- operations

module _ (p : SourceFile → Bool) where
  apart_by : (f file : SourceFile) → p f ≡ false → p file ≡ true → file ≢ f
  apart_by f file out here same = absurd (let k = ap p same in cc)

  put_stays : (files : Files) (f : SourceFile) (result : Result (List FileItem) KeyRule) (next : Files) → p f ≡ false → with_edited files f result ≡ Ok next → SameTold p files next
  put_stays files f (Ok items) next out e = λ file here.
      let is : with_items files f items ≡ next = cc in
      ap (λ (fs : Files). items_at fs file) (sym is) ∙ items_at-with_items_other files f file items (apart_by f file out here)
  put_stays files f (Err rule) next out e = absurd cc

  then_stays : (files : Files) (n : ℕ) (result : Result Files KeyRule) (more : Files → Result Files Refused) (next : Files)
      → ((f : Files) → result ≡ Ok f → SameTold p files f) → ((f : Files) → more f ≡ Ok next → SameTold p f next) → then_ops n result more ≡ Ok next → SameTold p files next
  then_stays files n (Ok f) more next first rest e = λ file here. rest f e file here ∙ first f refl file here
  then_stays files n (Err rule) more next first rest e = absurd cc

  none_stays : (files next : Files) (result : Result Files Refused) → result ≡ Ok files → result ≡ Ok next → SameTold p files next
  none_stays files next result a b = λ file here. let is : files ≡ next = cc in ap (λ (fs : Files). items_at fs file) (sym is)

  ops_stay : (files : Files) (n : ℕ) (ops : List Op) (next : Files) → list_any (λ op. p (op_file op)) ops ≡ false → after_ops files n ops ≡ Ok next → SameTold p files next
  unfolding after_ops
  ops_stay files n [] next out e = none_stays files next (Ok files) refl e
  ops_stay files n (op ∷ ops) next out e =
      let parts = or_parts (p (op_file op)) (list_any (λ o. p (op_file o)) ops) out in
      then_stays files (n + 1) (op_or_rule files op) (λ f. after_ops f (n + 1) ops) next
      (λ f is. put_stays files (op_file op) (edited (items_at files (op_file op)) op) f parts.0 is)
      (λ f is. ops_stay f (n + 1) ops next parts.1 is) e

  group_stays : (files next : Files) (ops : List Op) → list_any (λ op. p (op_file op)) ops ≡ false → group_answer files ops ≡ Ok next → SameTold p files next
  group_stays files next ops out e = ops_stay files 0 ops next out (checked_is (after_ops files 0 ops) next e)

answer_stays : (accepted : Accepted) (answer : Result Files Refused) (ops : List Op) (old new : ReleaseItems) → group_answer old.current ops ≡ answer → AppliesAs (Ok accepted) answer old new
    → UneditedStay ops old.current new.current
answer_stays accepted (Ok files) ops old new is applied = λ p out.
    subst (λ (r : ReleaseItems). SameTold p old.current r.current) (sym applied.0) (group_stays p old.current files ops out is)
answer_stays accepted (Err why) ops old new is applied = absurd applied

pub unedited_stay : (accepted : Accepted) (ops : List Op) (old new : ReleaseItems) → AppliesAs (Ok accepted) (group_answer old.current ops) old new → UneditedStay ops old.current new.current
unedited_stay accepted ops old new applied = answer_stays accepted (group_answer old.current ops) ops old new refl applied
