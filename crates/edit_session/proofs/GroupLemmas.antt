-- Operations, one after the other.
use Rattle.std.proofs.Common.{◌≡◌, ℕ, ◌+◌, ◌<◌, ◌≤◌, List, ◌∷◌, drop, slice_index_or, length, true, false, Result, Ok, Err, OnOk, refl, sym, ap, subst, ◌∙◌, is_err}
use Rattle.std.proofs.lemmas.List.{drop_all, drop_more}
use Rattle.release_rows.specs.Operations.{op_or_rule}
use Rattle.release_rows.specs.Releases.{ReleaseItems, FileItem}
use Rattle.release_rows.specs.declared.key_rule.KeyRule.{KeyRule}
use Rattle.release_rows.specs.declared.operation.Op.{Op}
use Rattle.edit_session.specs.Derivations.{IsNow, IsStill}
use Rattle.edit_session.specs.Standing.{IsBench}
use Rattle.edit_session.specs.declared.derivation.Derivation.{Derivation}
use Rattle.edit_session.specs.Groups.{AnswersAs, AppliesAs, after_op, after_ops, changed, files_facts, then_ops}
use Rattle.edit_session.specs.declared.accepted.Accepted.{Accepted}
use Rattle.edit_session.specs.declared.apply_stop.ApplyStop.{ApplyStop}
use Rattle.edit_session.specs.declared.apply_stop.ApplyStop.TheVariants.{Refused as Refuses, Memory}
use Rattle.edit_session.specs.declared.apply_stop.Refused.{Refused}

abbrev Told : Type 0
Told = Result (Unit {0}) ApplyStop

abbrev Files : Type 0
Files = List (List FileItem)

-- the operation at a place is the first of those that are left
left_more : (files : Files) (start : Result Files Refused) (n : ℕ) (ops : List Op) (op : Op) → n < length ops → op ≡ slice_index_or ops n op
    → after_ops files n (drop n ops) ≡ start → then_ops (n + 1) (op_or_rule files op) (λ f. after_ops f (n + 1) (drop (n + 1) ops)) ≡ start
unfolding after_ops
left_more files start n ops op lt is left =
    ap (λ (o : Op). after_ops files n (o ∷ drop (n + 1) ops)) is ∙ sym (ap (after_ops files n) (drop_more ops n op lt)) ∙ left

-- it stops the group
stops_by : (told : Told) (files : Result Files KeyRule) (next : Files) (n : ℕ) (more : Files → Result Files Refused) (start : Result Files Refused) → is_err told ≡ true
    → then_ops n files more ≡ start → AnswersAs told (then_ops n files (λ f. Ok f)) next → AnswersAs told start next
stops_by (Ok x) files next n more start e left h = absurd cc
stops_by (Err stop) (Ok f) next n more start e left h = none stop start h
  where
    none : (s : ApplyStop) (r : Result Files Refused) → AnswersAs {A = Unit {0}} (Err s) (Ok f) next → AnswersAs {A = Unit {0}} (Err s) r next
    none (Refuses why) r k = absurd k
    none Memory r k = tt
stops_by (Err stop) (Err rule) next n more start e left h = subst (λ (r : Result Files Refused). AnswersAs {A = Unit {0}} (Err stop) r next) left h

pub stops_at : (told : Told) (start : Result Files Refused) (files next : Files) (n : ℕ) (ops : List Op) (op : Op) → n < length ops → op ≡ slice_index_or ops n op
    → after_ops files n (drop n ops) ≡ start → is_err told ≡ true → AnswersAs told (after_op files (n + 1) op) next → AnswersAs told start next
stops_at told start files next n ops op lt is left e h =
    stops_by told (op_or_rule files op) next (n + 1) (λ f. after_ops f (n + 1) (drop (n + 1) ops)) start e (left_more files start n ops op lt is left) h

-- or it is carried out
goes_by : (told : Told) (files : Result Files KeyRule) (next : Files) (n : ℕ) (more : Files → Result Files Refused) (start : Result Files Refused) → is_err told ≡ false
    → then_ops n files more ≡ start → AnswersAs told (then_ops n files (λ f. Ok f)) next → more next ≡ start
goes_by (Err stop) files next n more start e left h = absurd cc
goes_by (Ok x) (Err rule) next n more start e left h = absurd h
goes_by (Ok x) (Ok f) next n more start e left h = ap more h ∙ left

pub goes_on : (told : Told) (start : Result Files Refused) (files next : Files) (n : ℕ) (ops : List Op) (op : Op) → n < length ops → op ≡ slice_index_or ops n op
    → after_ops files n (drop n ops) ≡ start → is_err told ≡ false → AnswersAs told (after_op files (n + 1) op) next → after_ops next (n + 1) (drop (n + 1) ops) ≡ start
goes_on told start files next n ops op lt is left e h =
    goes_by told (op_or_rule files op) next (n + 1) (λ f. after_ops f (n + 1) (drop (n + 1) ops)) start e (left_more files start n ops op lt is left) h

-- all are
pub all_done : (start : Result Files Refused) (files : Files) (n : ℕ) (ops : List Op) → length ops ≤ n → after_ops files n (drop n ops) ≡ start → AnswersAs {A = Unit {0}} (Ok tt) start files
unfolding after_ops
all_done start files n ops past left =
    subst (λ (r : Result Files Refused). AnswersAs {A = Unit {0}} (Ok tt) r files) (sym (ap (after_ops files n) (drop_all n ops past)) ∙ left) refl

-- ---- the group

pub applied : {A : Type 0} (x : A) (accepted : Accepted) (expected : Result Files Refused) (old new : ReleaseItems) (next : Files)
    → AnswersAs (Ok x) expected next → new ≡ record { current = next; prepared = next } → accepted.changed ≡ changed (files_facts old.current) (files_facts next) → AppliesAs (Ok accepted) expected old new
applied x accepted (Ok files) old new next h is found = (
  is ∙ ap (λ (fs : Files). record { current = fs; prepared = fs }) h,
  found ∙ ap (λ (fs : Files). changed (files_facts old.current) (files_facts fs)) h,
)
applied x accepted (Err refused) old new next h is found = absurd h

pub bench_after : (release : ReleaseItems) (next : Files) (d : Derivation) → release ≡ record { current = next; prepared = next } → IsNow (files_facts next) d → IsStill d → IsBench release d
bench_after release next d is now still =
    subst (λ (r : ReleaseItems). IsBench r d) (sym is) (record { still = refl; now = now; next = still })
