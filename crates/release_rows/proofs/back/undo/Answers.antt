use Rattle.std.proofs.Common.{sym, ap, ◌∙◌}
use Rattle.std.proofs.lemmas.Result.{on_ok_weaker}
use Rattle.ucd_points.specs.SourceFiles.{file_place}
use Rattle.release_rows.proofs.FilesEdited.{file_here, files_same, now_same}
use Rattle.release_rows.proofs.LeadingFiles.{undone_next}
use Rattle.release_rows.proofs.back.undo.Goals as goal

pub undo_in-requires-clause-file : goal.undo_in-requires-clause-file
undo_in-requires-clause-file c =
    sym (file_here c.args.files.now c.args.splice.now.file c.place.result c.index-files-place.result c.requires.files (c.place.ensures.place ∙ ap file_place c.file.ensures))

pub returns-clause-files : goal.returns-clause-files
returns-clause-files c =
    files_same c.args.files.now c.args.splice.now.file c.place.result c.index-files-place.result c.requires.files (c.place.ensures.place ∙ ap file_place c.file.ensures) _ c.undo_in.ensures.file

pub returns-clause-now : goal.returns-clause-now
returns-clause-now c =
    now_same c.args.files.now c.args.splice.now.file c.place.result c.index-files-place.result c.requires.files (c.place.ensures.place ∙ ap file_place c.file.ensures) _ c.undo_in.ensures.now

pub returns-clause-next : goal.returns-clause-next
returns-clause-next c =
    on_ok_weaker c.undo_in.result (λ next. undone_next c.args.files.now c.args.splice.now c.place.result c.index-files-place.result c.requires.files (c.place.ensures.place ∙ ap file_place c.file.ensures) _ next) c.undo_in.ensures.next
