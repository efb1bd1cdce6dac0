use Rattle.part_list.proofs.OrderLemmas.{first_none, first_some}
use Rattle.part_list.proofs.part.Part.first.Goals as goal

-- no entry outside of the window passes
pub returns-in-Some : goal.returns-in-Some
returns-in-Some g c =
    let found = (rw c.next.ensures at c.in-Some.ensures) in
    first_some (g.S.Seek.passing c.args.seek.now) c.args.self.now.next c.window-from.result.0 c.window-from.result.1 c.in-Some.at c.window-from.ensures found.0 found.1

pub returns-in-None : goal.returns-in-None
returns-in-None g c =
    let found = (rw c.next.ensures at c.in-None.ensures) in
    first_none (g.S.Seek.passing c.args.seek.now) c.args.self.now.next c.window-from.result.0 c.window-from.result.1 c.window-from.ensures found
