use Rattle.std.proofs.Common.{◌≡◌, ℕ, ◌<◌, ◌&&◌, cond, leb, ltb}
use Rattle.ucd_facts.specs.Facts.{hangul_mapping}
use Rattle.fact_tables.specs.PointLists.{lists_next}
use Rattle.code_facts.proofs.data_tables.add_syllables.Given as goal

-- the syllables before this one have their mappings
abbrev pub invariant-syllables : goal.invariant-syllables
invariant-syllables l = (c : ℕ) → c < 1114112 → lists_next l.mappings c ≡ cond (leb l.fn.part.lo c && ltb c l.number) (hangul_mapping c) (lists_next l.initial.mappings c)
