use Rattle.std.proofs.Common.{◌≡◌, drop, find}
use Rattle.ucd_facts.specs.Facts.{within}
use Rattle.derivation_tests.proofs.sample.SampleRecords.record.Given as goal

-- what is found in what is left is what is found in all
abbrev pub invariant-entries : goal.invariant-entries
invariant-entries l = find (λ entry. within l.c entry.0) (drop l.entry-index l.self.entries) ≡ find (λ entry. within l.c entry.0) l.self.entries
