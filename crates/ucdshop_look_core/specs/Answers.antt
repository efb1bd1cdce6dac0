-- What `ask` tells: the answers to questions on the files of a release.
-- answer_text answer           the members, as spans, with their total; or why the question is refused
-- section files question       the section of a question: `# ` and its text, and the answer that it has on these files
-- sections files questions     the sections of all questions, in order
-- is_refused answer            the question is refused
-- any_refused files questions  one of the questions is refused on these files
-- ask_ending questions files   the ending: no file, the sections, and whether something was refused
use Rattle.std.specs.Prelude.{ℕ, Bool, true, false, List, [], ◌++◌, Result, Ok, Err, codes}
use Rattle.std.specs.List.{flat_map, list_any}
use Rattle.ucd_points.specs.Bounds.{Bounds}
use Rattle.ucd_model.specs.DerivedText.{line_end}
use Rattle.release_rows.specs.FileItems.{FileItem}
use Rattle.run_endings.specs.Endings.{Ending}
use Rattle.set_answers.specs.Questions.{question_answer}
use Rattle.set_answers.specs.Refusals.{unasked_text}
use Rattle.set_answers.specs.SetTexts.{members_text}
use Rattle.set_answers.specs.declared.ask_stop.AskFault.{AskFault}

abbrev pub answer_text : Result (List Bounds) AskFault → List ℕ
answer_text (Ok spans) = members_text spans
answer_text (Err fault) = unasked_text fault ++ line_end

abbrev pub section : List (List FileItem) → List ℕ → List ℕ
section files question = codes "# " ++ question ++ line_end ++ answer_text (question_answer files question)

abbrev pub sections : List (List FileItem) → List (List ℕ) → List ℕ
sections files questions = flat_map (section files) questions

abbrev pub is_refused : Result (List Bounds) AskFault → Bool
is_refused (Ok spans) = false
is_refused (Err fault) = true

abbrev pub any_refused : List (List FileItem) → List (List ℕ) → Bool
any_refused files questions = list_any (λ question. is_refused (question_answer files question)) questions

abbrev pub ask_ending : List (List ℕ) → List (List FileItem) → Ending
ask_ending questions files = record { files = []; summary = sections files questions; done = any_refused files questions }
