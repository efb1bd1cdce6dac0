use Rattle.std.proofs.Common.{◌≡◌, ◌++◌, drop}
use Rattle.query_laws.specs.Questions.{row_queries}
use Rattle.point_queries.proofs.rows.put_rows.Given as goal

-- the rows that are left, behind those so far, are what all gives
abbrev pub invariant-points : goal.invariant-points
invariant-points l = l.asked.items ++ row_queries (drop l.x-index l.points) ≡ l.initial.asked.items ++ row_queries l.points
