use Rattle.std.proofs.Common.{◌≡◌, ◌++◌, take, flat_map}
use Rattle.edit_session.specs.Benches.{bench_record}
use Rattle.record_lines.specs.Earlier.{earlier_record}
use Rattle.ucdshop_look_core.specs.Changes.{what_differs}
use Rattle.ucdshop_look_core.proofs.changing.put_points.Given as goal

-- what differs of the code points so far
abbrev pub invariant-points : goal.invariant-points
invariant-points l = l.text ≡ l.initial.text ++ flat_map (what_differs (earlier_record l.earlier) (bench_record l.bench)) (take l.point-index l.points)
