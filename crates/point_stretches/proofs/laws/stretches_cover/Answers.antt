use Rattle.std.proofs.Common.{◌≡◌, true}
use Rattle.point_stretches.specs.Laws.{stretches_cover, holds_of_all, few_stretches}
use Rattle.point_stretches.proofs.laws.stretches_cover.Goals as goal

pub returns-clause-follow : goal.returns-clause-follow
returns-clause-follow g c = λ xs d. stretches_cover _ xs c.args.left.now d

pub returns-clause-throughout : goal.returns-clause-throughout
returns-clause-throughout g c = λ xs p d. holds_of_all _ (λ k. p k ≡ true) xs c.args.left.now.from 1114112 (stretches_cover _ xs c.args.left.now d)

pub returns-clause-few : goal.returns-clause-few
returns-clause-few g c = λ xs d. few_stretches _ xs c.args.left.now.from 1114112 (stretches_cover _ xs c.args.left.now d)
