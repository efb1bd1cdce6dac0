use Rattle.std.proofs.Common.{◌≡◌, ◌++◌, drop, map}
use Rattle.property_aliases.proofs.tables.push_numbered_names.Given as goal

abbrev pub invariant-keys : goal.invariant-keys
invariant-keys l = l.texts ++ map (λ k. k.items) (drop l.key-index l.keys) ≡ l.initial.texts ++ map (λ k. k.items) l.keys
