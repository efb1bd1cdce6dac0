use Rattle.release_rows.specs.Releases.{items_now}
use Rattle.release_rows.specs.ValuesApartProofs.{values_apart}
use Rattle.unicodeset_eval.proofs.apart.rows_are_apart.Goals as goal

pub returns : goal.returns
returns c = values_apart c.args.file c.requires (items_now c.args.release.now c.args.file) c.rows-rows.ensures.kept
