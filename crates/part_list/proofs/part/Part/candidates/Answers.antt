use Rattle.part_list.proofs.OrderLemmas.{left_in}
use Rattle.part_list.proofs.part.Part.candidates.Goals as goal

-- no entry outside of the window passes
pub returns : goal.returns
returns g c = rw c.next.ensures (left_in (g.S.Seek.passing c.args.seek.now) c.args.self.now.next c.window-from.result.0 c.window-from.result.1 c.window-from.ensures)
