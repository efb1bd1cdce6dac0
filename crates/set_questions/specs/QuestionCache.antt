-- What is kept from one run of questions to the next.
-- IsKept kept files         what is kept is that of these files, but for what is noted
-- IsFilled kept files       names, sets and pieces are kept, and they are those of these files
use Rattle.std.specs.Prelude.{List}
use Rattle.release_rows.specs.FileItems.{FileItem}
use Rattle.set_answers.specs.KeptPieces.{AreKept, HasPieces}
use Rattle.set_answers.specs.Questions.{files_record}
use Rattle.set_answers.specs.RowNames.{AreNamesKept, HasNames}
use Rattle.set_questions.specs.declared.question_cache.QuestionCache.{QuestionCache}

pub record IsKept (kept : QuestionCache) (files : List (List FileItem)) : Type 0 where
  pub names : AreNamesKept kept.names files
  pub pieces : AreKept kept.pieces (files_record files)

pub record IsFilled (kept : QuestionCache) (files : List (List FileItem)) : Type 0 where
  pub names : HasNames kept.names files
  pub pieces : HasPieces kept.pieces (files_record files)
