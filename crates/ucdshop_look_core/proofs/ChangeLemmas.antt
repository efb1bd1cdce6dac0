-- The records beside a bench stand for those of its files, and what is told of the commands that are left.
use Rattle.std.proofs.Common.{◌≡◌, ◌≤◌, ◌<◌, ◌+◌, ℕ, zero, suc, Bool, true, false, cond, not, ◌||◌, List, [], ◌∷◌, ◌++◌, fold, length, get_or, drop, filter, Result, Ok, Err, codes, refl, sym, ap, subst, ◌∙◌, arith, decimal}
use Rattle.std.specs.List.{flat_map, list_any, range_with_len}
use Rattle.std.proofs.lemmas.List.{append-nil, append_assoc, drop_all, drop_more}
use Rattle.std.proofs.Math.Bool.{or_assoc, or-false}
use Rattle.range_table.specs.Values.{SameValues, point_count-is}
use Rattle.ucd_points.specs.Bounds.{Bounds}
use Rattle.ucd_points.specs.Limits.{point_count}
use Rattle.ucd_model.specs.DerivedText.{line_end}
use Rattle.ucd_model.specs.Records.{Record, record_at}
use Rattle.ucd_model.specs.Sameness.{same_record}
use Rattle.edit_session.specs.Benches.{bench_record}
use Rattle.edit_session.specs.Groups.{AppliesAs, differing, files_facts, group_answer}
use Rattle.edit_session.specs.declared.accepted.Accepted.{Accepted}
use Rattle.edit_session.specs.declared.apply_stop.ApplyStop.TheVariants.{Refused as Refuses}
use Rattle.edit_session.specs.declared.apply_stop.Refused.{Refused}
use Rattle.release_rows.specs.Releases.{ReleaseItems, FileItem}
use Rattle.record_lines.specs.Earlier.{FollowingCatchesUp, updated}
use Rattle.record_lines.specs.RecordTexts.{change_text}
use Rattle.script_lines.specs.declared.command.Command.{Command}
use Rattle.script_lines.specs.declared.command.What.{What}
use Rattle.script_lines.specs.declared.command.What.TheVariants.{Group, Question}
use Rattle.set_answers.specs.Questions.{question_answer}
use Rattle.set_answers.specs.SetTexts.{members_text}
use Rattle.set_answers.specs.declared.ask_stop.AskFault.{AskFault}
use Rattle.ucdshop_jobs.specs.Session.{Session, after_group, after_question, started, step, step_by}
use Rattle.ucdshop_look_core.specs.ChangeLaws.{StagesFollowTheSession}
use Rattle.ucdshop_look_core.specs.Changes.{Stage, files_after, group_told, points_section, stage_on, stage_refused, stages, told, what_differs, what_leaves}
use Rattle.ucdshop_look_core.specs.PointSpans.{AreInOrder, point_spans}
use Rattle.ucdshop_look_core.proofs.OrderLemmas.{kept_are_in_order}

-- texts that are alike for each number of a range are alike for those of it that a test passes
kept_alike : (f g : ℕ → List ℕ) (p : ℕ → Bool) (lo m : ℕ) → ((k : ℕ) → lo ≤ k → k < lo + m → f k ≡ g k) → flat_map f (filter p (range_with_len lo m)) ≡ flat_map g (filter p (range_with_len lo m))
kept_alike f g p lo zero same = refl
kept_alike f g p lo (suc m) same =
    by (p lo) (same lo (omega arith) (omega arith)) (kept_alike f g p (lo + 1) m (λ k low high. same k (omega arith) (omega arith)))
  where
    by : (b : Bool) → f lo ≡ g lo → flat_map f (filter p (range_with_len (lo + 1) m)) ≡ flat_map g (filter p (range_with_len (lo + 1) m))
        → flat_map f (cond b (lo ∷ filter p (range_with_len (lo + 1) m)) (filter p (range_with_len (lo + 1) m))) ≡ flat_map g (cond b (lo ∷ filter p (range_with_len (lo + 1) m)) (filter p (range_with_len (lo + 1) m)))
    by true here behind = rw (here, behind) refl
    by false here behind = behind

-- what differs between the records R and S is told as well by records that are those of R at each code point
pub section_alike : (line : ℕ) (E R S : ℕ → Record) → SameValues E R → points_section line E S (differing R S) ≡ points_section line R S (differing R S)
unfolding what_differs
section_alike line E R S same =
    ap (λ (text : List ℕ). codes "# line " ++ decimal line ++ line_end ++ members_text (point_spans (differing R S)) ++ text)
    (kept_alike (what_differs E S) (what_differs R S) (λ c. not (same_record (R c) (S c))) 0 point_count
    (λ c low high. let below : c < point_count = omega arith in ap (λ (r : Record). change_text c r (S c)) (same c (subst (λ (n : ℕ). c < n) point_count-is below))))

-- ---- a group that was carried out

module _ (accepted : Accepted) (old new : ReleaseItems) where
  pub in_order : (expected : Result (List (List FileItem)) Refused) → AppliesAs (Ok accepted) expected old new → AreInOrder accepted.changed
  in_order (Ok files) is = subst AreInOrder (sym is.1) (kept_are_in_order (λ c. not (same_record (record_at (files_facts old.current) c) (record_at (files_facts files) c))))
  in_order (Err why) is = absurd is

  pub told_accepted : (line : ℕ) (E : ℕ → Record) (expected : Result (List (List FileItem)) Refused) → AppliesAs (Ok accepted) expected old new → SameValues E (bench_record old)
      → points_section line E (bench_record new) accepted.changed ≡ group_told line old.current expected
  told_accepted line E (Ok files) is same =
      ap (λ (n : ReleaseItems). points_section line E (bench_record n) accepted.changed) is.0
      ∙ ap (λ (points : List ℕ). points_section line E (record_at (files_facts files)) points) is.1
      ∙ section_alike line E (record_at (files_facts old.current)) (record_at (files_facts files)) same
  told_accepted line E (Err why) is same = absurd is

  pub follows : (E after : ℕ → Record) (expected : Result (List (List FileItem)) Refused) → FollowingCatchesUp → AppliesAs (Ok accepted) expected old new → SameValues E (bench_record old)
      → SameValues after (updated accepted.changed (bench_record new) E) → SameValues after (bench_record new)
  follows E after (Ok files) catches_up is same followed = λ c below.
      followed c below
      ∙ catches_up E (bench_record old) (bench_record new) accepted.changed same (is.1 ∙ ap (λ (n : ReleaseItems). differing (bench_record old) (bench_record n)) (sym is.0)) c below
  follows E after (Err why) catches_up is same followed = absurd is

pub stays : (why : Refused) (old new : ReleaseItems) (expected : Result (List (List FileItem)) Refused) → AppliesAs (Err (Refuses why)) expected old new → new ≡ old
stays why old new (Ok files) is = absurd is
stays why old new (Err refused) is = is.1

-- ---- the commands of a script

-- the first of the commands that are left, and those behind it
first_stage : (files : List (List FileItem)) (commands : List Command) (i : ℕ) (command : Command) → i < length commands → command ≡ get_or commands i command
    → stages files (drop i commands) ≡ stage_on files command ∷ stages (files_after (stage_on files command)) (drop (i + 1) commands)
first_stage files commands i command below is =
    ap (stages files) (drop_more commands i command below)
    ∙ ap (λ (x : Command). stages files (x ∷ drop (i + 1) commands)) (sym is)

pub told_on : (files next : List (List FileItem)) (commands : List Command) (i : ℕ) (command : Command) (old new whole : List ℕ) → i < length commands → command ≡ get_or commands i command
    → new ≡ old ++ told (stage_on files command) → next ≡ files_after (stage_on files command)
    → old ++ flat_map told (stages files (drop i commands)) ≡ whole → new ++ flat_map told (stages next (drop (i + 1) commands)) ≡ whole
told_on files next commands i command old new whole below is told_here leaves e =
    ap (λ (text : List ℕ). text ++ flat_map told (stages next (drop (i + 1) commands))) told_here
    ∙ ap (λ (n : List (List FileItem)). (old ++ told (stage_on files command)) ++ flat_map told (stages n (drop (i + 1) commands))) leaves
    ∙ append_assoc old (told (stage_on files command)) (flat_map told (stages (files_after (stage_on files command)) (drop (i + 1) commands)))
    ∙ sym (ap (λ (all : List Stage). old ++ flat_map told all) (first_stage files commands i command below is))
    ∙ e

pub refused_on : (files next : List (List FileItem)) (commands : List Command) (i : ℕ) (command : Command) (old here new whole : Bool) → i < length commands → command ≡ get_or commands i command
    → here ≡ stage_refused (stage_on files command) → new ≡ (old || here) → next ≡ files_after (stage_on files command)
    → (old || list_any stage_refused (stages files (drop i commands))) ≡ whole → (new || list_any stage_refused (stages next (drop (i + 1) commands))) ≡ whole
refused_on files next commands i command old here new whole below is refused_here joined leaves e =
    ap (λ (b : Bool). b || list_any stage_refused (stages next (drop (i + 1) commands))) (joined ∙ ap (λ (b : Bool). old || b) refused_here)
    ∙ ap (λ (n : List (List FileItem)). (old || stage_refused (stage_on files command)) || list_any stage_refused (stages n (drop (i + 1) commands))) leaves
    ∙ or_assoc old (stage_refused (stage_on files command)) (list_any stage_refused (stages (files_after (stage_on files command)) (drop (i + 1) commands)))
    ∙ sym (ap (λ (all : List Stage). old || list_any stage_refused all) (first_stage files commands i command below is))
    ∙ e

-- no command is left
pub all_told : (files : List (List FileItem)) (commands : List Command) (i : ℕ) (text whole : List ℕ) → length commands ≤ i → text ++ flat_map told (stages files (drop i commands)) ≡ whole → text ≡ whole
all_told files commands i text whole past e = sym (append-nil text) ∙ sym (ap (λ (rest : List Command). text ++ flat_map told (stages files rest)) (drop_all i commands past)) ∙ e

pub all_refused : (files : List (List FileItem)) (commands : List Command) (i : ℕ) (refused whole : Bool) → length commands ≤ i → (refused || list_any stage_refused (stages files (drop i commands))) ≡ whole → refused ≡ whole
all_refused files commands i refused whole past e = sym (or-false refused) ∙ sym (ap (λ (rest : List Command). refused || list_any stage_refused (stages files rest)) (drop_all i commands past)) ∙ e

-- a command leaves the files that a session has after it, whatever else the session has
leaves_files : (s : Session) (command : Command) → (step s command).files ≡ files_after (stage_on s.files command)
leaves_files s command = by command.what
  where
    answered : (answer : Result (List (List FileItem)) Refused) → (after_group s command.line answer).files ≡ (after_group (started s.files) command.line answer).files
    answered (Ok files) = refl
    answered (Err why) = refl

    asked : (answer : Result (List Bounds) AskFault) → (after_question s command.line answer).files ≡ s.files
    asked (Ok spans) = refl
    asked (Err fault) = refl

    unasked : (answer : Result (List Bounds) AskFault) → (after_question (started s.files) command.line answer).files ≡ s.files
    unasked (Ok spans) = refl
    unasked (Err fault) = refl

    by : (what : What) → (step_by s command.line what).files ≡ what_leaves s.files command.line what
    by (Group ops) = answered (group_answer s.files ops)
    by (Question text) = asked (question_answer s.files text) ∙ sym (unasked (question_answer s.files text))

follow_on : (s : Session) (front behind : List Command) → stages s.files (front ++ behind) ≡ stages s.files front ++ stages (fold step s front).files behind
follow_on s [] behind = refl
follow_on s (command ∷ front) behind =
    ap (λ (files : List (List FileItem)). stage_on s.files command ∷ stages files (front ++ behind)) (sym (leaves_files s command))
    ∙ ap (λ (all : List Stage). stage_on s.files command ∷ all) (follow_on (step s command) front behind)
    ∙ ap (λ (files : List (List FileItem)). stage_on s.files command ∷ stages files front ++ stages (fold step (step s command) front).files behind) (leaves_files s command)

pub stages_follow_the_session : StagesFollowTheSession
stages_follow_the_session files front behind = follow_on (started files) front behind
