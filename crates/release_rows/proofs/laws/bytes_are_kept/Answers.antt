use Rattle.release_rows.proofs.Kept.{items_join}
use Rattle.release_rows.proofs.laws.bytes_are_kept.Goals as goal

pub returns : goal.returns
returns c = λ file bytes items h. items_join file bytes items (c.items_join.ensures bytes) h
