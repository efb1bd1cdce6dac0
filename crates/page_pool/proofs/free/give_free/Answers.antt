use Rattle.std.proofs.Common.{arith}
use Rattle.page_pool.proofs.Spares.{IsFree-give, spare-set_false, spare-below}
use Rattle.page_pool.proofs.free.give_free.Goals as goal

pub push_reserved-requires : goal.push_reserved-requires
push_reserved-requires c =
    let below = spare-below c.args.live.now.items c.args.page c.requires.live in
    let all = c.requires.free.all in
    let room = c.requires.room in
    omega arith

pub returns-clause-free : goal.returns-clause-free
returns-clause-free c = IsFree-give _ _ _ _ c.requires.free c.requires.live c.push_reserved.ensures.items

pub returns-clause-spare : goal.returns-clause-spare
returns-clause-spare c = spare-set_false c.args.live.now.items c.args.page c.requires.live
