use Rattle.run_endings.specs.PutProofs.{puts_then}
use Rattle.ucdshop_core.proofs.outputs.put_made.Goals as goal

pub returns : goal.returns
returns c = puts_then _ _ _ _ _ c.in_ok-put_made_files.ensures c.in_ok-put_made_script.ensures
