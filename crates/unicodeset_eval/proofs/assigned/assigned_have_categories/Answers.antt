use Rattle.std.proofs.Common.{refl}
use Rattle.ucd_points.specs.declared.files.SourceFile.TheVariants.{UnicodeData}
use Rattle.release_rows.specs.Releases.{items_now, rows_now}
use Rattle.unicodeset_eval.specs.Assigned.{assigned_have_categories}
use Rattle.unicodeset_eval.proofs.assigned.assigned_have_categories.Goals as goal

pub returns : goal.returns
returns c = assigned_have_categories (rows_now c.args.release.now) (items_now c.args.release.now UnicodeData) refl c.rows_are_read.ensures c.possible_rows_are_readable.ensures c.rows-rows.ensures.kept
