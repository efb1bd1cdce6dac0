use Rattle.std.proofs.Common.{◌≡◌, map, take}
use Rattle.mention_index.specs.Reached.{about}
use Rattle.mention_index.proofs.reaching.points_about.Given as goal

-- the code points that the questions so far are about are put
abbrev pub invariant-queries : goal.invariant-queries
invariant-queries l = l.points.items ≡ map about (take l.query-index l.queries)
