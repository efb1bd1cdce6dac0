use Rattle.std.proofs.Common.{length, ◌-◌}
use Rattle.stability_policies.proofs.PlaceLemmas.{NoneBefore}
use Rattle.stability_policies.proofs.name_places.NamePlaces.find_keeping_row.Given as goal

abbrev pub invariant-rows : goal.invariant-rows
invariant-rows l = NoneBefore l.file l.self l.names l.start

abbrev pub decreases-rows : goal.decreases-rows
decreases-rows l = length l.self-inside.rows.now - l.start
