use Rattle.record_lines.proofs.Following.{catches_up}
use Rattle.record_lines.proofs.laws.following_catches_up.Goals as goal

pub returns : goal.returns
returns c = catches_up
