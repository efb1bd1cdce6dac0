use Rattle.stability_policies.proofs.PlaceLemmas.{Reaches}
use Rattle.stability_policies.proofs.name_places.NamePlaces.step.Given as goal

abbrev pub invariant-loop-name : goal.invariant-loop-name
invariant-loop-name l = Reaches l.self l.names l.start l.name-index l.place
