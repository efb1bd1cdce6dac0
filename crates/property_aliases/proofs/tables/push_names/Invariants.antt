use Rattle.std.proofs.Common.{◌≡◌, ◌++◌, drop, map}
use Rattle.property_aliases.proofs.tables.push_names.Given as goal

abbrev pub invariant-names : goal.invariant-names
invariant-names l = l.texts ++ map (λ n. n.now) (drop l.name-index l.names) ≡ l.initial.texts ++ map (λ n. n.now) l.names
