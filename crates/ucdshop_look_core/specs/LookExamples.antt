-- What a run is asked for, and what it tells, at small examples.
-- words                    the words of a command line, cut at its spaces
use Rattle.std.proofs.Common.{◌≡◌, ℕ, List, [], ◌∷◌, map, Some, None, Err, ◌==◌, refl, codes}
use Rattle.std.specs.Fmt.{digits}
use Rattle.std.specs.List.{slice_split}
use Rattle.ucd_points.specs.Fields.{point_of}
use Rattle.ucd_points.specs.HexText.{hex_text, span_text}
use Rattle.ucd_points.specs.Lines.{items_of}
use Rattle.ucd_model.specs.Sameness.{is_in}
use Rattle.release_rows.specs.FileItems.{FileItem}
use Rattle.release_rows.specs.declared.key_rule.KeyRule.TheVariants.{K1}
use Rattle.edit_session.specs.declared.apply_stop.Refused.TheVariants.{Key}
use Rattle.unicodeset_eval.specs.Members.{member_spans}
use Rattle.set_answers.specs.SetTexts.{members_text}
use Rattle.ucdshop_jobs.specs.Carrying.{question_command}
use Rattle.ucdshop_look_core.specs.Changes.{group_told, stages, told}
use Rattle.ucdshop_look_core.specs.Checks.{refusals}
use Rattle.ucdshop_look_core.specs.Jobs.{Ask, Changes, Check, Show, check_job, form}

abbrev words : List ℕ → List (List ℕ)
words line = slice_split (λ b. b == 32) line

asks : form (words (codes "ask data [a] [b-c]")) ≡ Some (Ask (codes "data") (codes "[a]" ∷ codes "[b-c]" ∷ []))
asks = refl

shows : form (words (codes "show data 00c0 U+1E9E a")) ≡ Some (Show (codes "data") (192 ∷ 7838 ∷ 97 ∷ []))
unfolding point_of
shows = refl

checks : form (words (codes "check data s old")) ≡ Some (Check (check_job (codes "data") (Some (codes "s")) (Some (codes "old"))))
checks = refl

changes : form (words (codes "changes data s")) ≡ Some (Changes (check_job (codes "data") (Some (codes "s")) None))
changes = refl

no_forms : map (λ line. form (words line)) (codes "" ∷ codes "ask data" ∷ codes "ask data [a\n]" ∷ codes "show data" ∷ codes "show data 0C0"
    ∷ codes "show data 110000" ∷ codes "check" ∷ codes "check data s old out" ∷ codes "changes data" ∷ codes "changes data s old" ∷ [])
    ≡ None ∷ None ∷ None ∷ None ∷ None ∷ None ∷ None ∷ None ∷ None ∷ None ∷ []
unfolding point_of
no_forms = refl

told_refusals : refusals (codes "1 accepted 2\n4 refused K1 operation 1\n9 set 12\n11 refused S9 byte 0\n")
    ≡ codes "4 refused K1 operation 1\n11 refused S9 byte 0\n"
unfolding items_of
told_refusals = refl

-- neighbours are one span
told_spans : members_text (member_spans 10 (is_in (2 ∷ 3 ∷ 5 ∷ []))) ≡ codes "0002..0003\n0005\n# total 3\n"
unfolding span_text hex_text digits
told_spans = refl

told_refused : (files : List (List FileItem)) → group_told 4 files (Err (Key K1 2)) ≡ codes "4 refused K1 operation 2\n"
unfolding digits
told_refused files = refl

-- nothing is told of questions, whether they have an answer or none
told_questions : (files : List (List FileItem)) → map told (stages files (question_command 1 (codes "[a]") ∷ question_command 2 (codes "[") ∷ [])) ≡ [] ∷ [] ∷ []
told_questions files = refl
