use Rattle.page_pool.proofs.Spares.{last_listed, IsFree-take, spare-set_true}
use Rattle.page_pool.proofs.free.take_free.Goals as goal

pub returns-clause-fresh : goal.returns-clause-fresh
returns-clause-fresh c = last_listed _ _ _ _ c.requires.free c.take_last-page.ensures.items

pub returns-clause-free : goal.returns-clause-free
returns-clause-free c = IsFree-take _ _ _ _ c.requires.free c.take_last-page.ensures.items

pub returns-clause-spare : goal.returns-clause-spare
returns-clause-spare c = spare-set_true c.args.live.now.items c.take_last-page.result (last_listed _ _ _ _ c.requires.free c.take_last-page.ensures.items)
