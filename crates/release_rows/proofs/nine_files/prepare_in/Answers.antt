use Rattle.std.proofs.Common.{refl, sym, ap, ◌∙◌}
use Rattle.ucd_points.specs.SourceFiles.{file_place}
use Rattle.release_rows.specs.Operations.{op_file, touched}
use Rattle.release_rows.proofs.FilesEdited.{all_kept, answered, file_here, files_same, kept_here, now_same}
use Rattle.release_rows.proofs.nine_files.prepare_in.Goals as goal

pub prepare-requires-clause-here : goal.prepare-requires-clause-here
prepare-requires-clause-here c =
    sym (file_here c.args.files.now (op_file c.args.op.now) c.place.result c.index-files-place.result c.requires.files (c.place.ensures.place ∙ ap file_place c.file.ensures))

pub prepare-requires-clause-kept : goal.prepare-requires-clause-kept
prepare-requires-clause-kept c =
    kept_here c.args.files.now (op_file c.args.op.now) c.place.result c.index-files-place.result c.requires.files (c.place.ensures.place ∙ ap file_place c.file.ensures) c.requires.kept

pub returns-clause-files : goal.returns-clause-files
returns-clause-files c =
    files_same c.args.files.now (op_file c.args.op.now) c.place.result c.index-files-place.result c.requires.files (c.place.ensures.place ∙ ap file_place c.file.ensures) _ c.prepare.ensures.file

pub returns-clause-now : goal.returns-clause-now
returns-clause-now c =
    now_same c.args.files.now (op_file c.args.op.now) c.place.result c.index-files-place.result c.requires.files (c.place.ensures.place ∙ ap file_place c.file.ensures) _ c.prepare.ensures.now

pub returns-clause-answer : goal.returns-clause-answer
returns-clause-answer c =
    answered c.args.files.now (op_file c.args.op.now) c.place.result c.index-files-place.result c.requires.files (c.place.ensures.place ∙ ap file_place c.file.ensures) c.prepare.result c.args.op.now (λ items. touched items c.args.op.now) _ refl c.prepare.ensures.answer

pub returns-clause-kept : goal.returns-clause-kept
returns-clause-kept c =
    all_kept c.args.files.now (op_file c.args.op.now) c.place.result c.index-files-place.result c.requires.files (c.place.ensures.place ∙ ap file_place c.file.ensures) c.prepare.result c.args.op.now (λ items. touched items c.args.op.now) _ (record { rows = c.operations_keep_rows.ensures; order = c.operations_keep_order.ensures; cuts = c.operations_keep_cuts.ensures; is = c.requires.op }) c.requires.kept refl c.prepare.ensures.answer
