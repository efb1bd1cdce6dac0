use Rattle.release_rows.proofs.ConditionHashes.{all_hashed}
use Rattle.release_rows.proofs.hash.with_conditions.Goals as goal

pub bytes-init : goal.bytes-init
bytes-init c = all_hashed c.args.hash c.args.text.now
