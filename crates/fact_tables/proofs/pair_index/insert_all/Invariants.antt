use Rattle.std.proofs.Common.{◌≡◌, ℕ, true, take}
use Rattle.number_sets.specs.Keys.{has, is_in}
use Rattle.fact_tables.proofs.pair_index.insert_all.Given as goal

-- the keys before this one are in
abbrev pub invariant-keys : goal.invariant-keys
invariant-keys l = record {
  grows : (k : ℕ) → has l.initial.into k ≡ true → has l.into k ≡ true;
  all : (k : ℕ) → is_in (take l.key-index l.keys) k ≡ true → has l.into k ≡ true;
}
