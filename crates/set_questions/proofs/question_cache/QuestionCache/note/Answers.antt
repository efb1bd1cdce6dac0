use Rattle.edit_session.specs.declared.accepted.Accepted.{Accepted}
use Rattle.edit_session.specs.Groups.{group_answer}
use Rattle.set_answers.specs.Questions.{files_record}
use Rattle.set_questions.specs.KeptProofs.{others_stay}
use Rattle.set_questions.specs.UneditedProofs.{unedited_stay}
use Rattle.set_questions.proofs.question_cache.QuestionCache.note.Goals as goal

pub returns : goal.returns
returns c = λ old new applied kept.
    let accepted : Accepted = record { changed = c.args.changed.now } in
    record {
      names = c.note.ensures.stays old.current new.current (unedited_stay accepted c.args.group.now old new applied) kept.names;
      pieces = c.note-2.ensures (files_record old.current) (files_record new.current) kept.pieces (others_stay accepted (group_answer old.current c.args.group.now) old new applied);
    }
