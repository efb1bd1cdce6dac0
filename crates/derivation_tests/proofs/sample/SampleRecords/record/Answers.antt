use Rattle.std.proofs.Common.{◌≡◌, ◌∙◌, ◌<◌, ℕ, suc, true, List, ◌∷◌, Some, find, length, get_or, drop, refl, sym, ap}
use Rattle.std.proofs.Math.Seq.{drop-cons}
use Rattle.ucd_points.specs.Bounds.{Bounds}
use Rattle.ucd_facts.specs.Facts.{within}
use Rattle.ucd_model.specs.declared.records.Record.{Record as KeptRecord}
use Rattle.derivation_tests.specs.Samples.{entry_or, sample_record}
use Rattle.ucd_model.specs.Records.{kept_record}
use Rattle.derivation_tests.proofs.sample.SampleRecords.record.Goals as goal

-- the first entry that covers c gives its record
found_first : (entries : List (Bounds × KeptRecord)) (rest : KeptRecord) (c i : ℕ) (entry : Bounds × KeptRecord) → i < length entries → entry ≡ get_or entries i entry → within c entry.0 ≡ true
    → find (λ e. within c e.0) (drop i entries) ≡ find (λ e. within c e.0) entries → kept_record entry.1 ≡ sample_record entries rest c
found_first entries rest c i entry lt here covers left =
    let more : List (Bounds × KeptRecord) = drop (suc i) entries in
    let split : drop i entries ≡ entry ∷ more = drop-cons entries i entry lt ∙ ap (λ (e : Bounds × KeptRecord). e ∷ more) (sym here) in
    let first : find (λ e. within c e.0) (entry ∷ more) ≡ Some entry = rw covers refl in
    ap (λ o. kept_record (entry_or rest o)) (sym first ∙ ap (find (λ e. within c e.0)) (sym split) ∙ left)

pub returns-then-covers : goal.returns-then-covers
returns-then-covers c =
    let entry = c.entry-item.result in
    found_first c.args.self.now.entries c.args.self.now.rest c.args.c c.entries.entry-index entry (rw c.as_slice-entry-items.ensures at c.entries-test.true) (rw c.as_slice-entry-items.ensures at c.entry-item.is) (sym c.covers.ensures ∙ c.if-covers.true) c.entries.invariant
