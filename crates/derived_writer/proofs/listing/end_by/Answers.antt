use Rattle.std.proofs.Common.{◌≡◌, ◌<◌, ℕ, List, length, get_or, sym, ap, ◌∙◌, arith, inl, inr, refl}
use Rattle.std.proofs.lemmas.Bool.{cases_lt}
use Rattle.std.proofs.lemmas.List.{get_or_default}
use Rattle.std.specs.Borrow.{Bor}
use Rattle.ucd_model.specs.Labels.{Label}
use Rattle.ucd_model.specs.Records.{Record, kept_record}
use Rattle.ucd_model.specs.declared.records.Record.{Record as Kept}
use Rattle.derived_writer.proofs.listing.end_by.Goals as goal

-- the label of a record that was looked up
found : (f : Record → Label) (records : List (Bor Kept)) (i : ℕ) (r : Bor Kept) (k : ℕ) (kept : Bor Kept) → i < length records → r ≡ get_or records i r → k ≡ i → f (kept_record (get_or records k kept).now) ≡ f (kept_record r.now)
found f records i r k kept inside is same = ap (λ (n : ℕ). f (kept_record (get_or records n kept).now)) same ∙ ap (λ (x : Bor Kept). f (kept_record x.now)) (get_or_default records i kept r inside ∙ sym is)

pub records-preserved : goal.records-preserved
records-preserved g c = record {
  from = let from = c.records.invariant.from in omega arith;
  within = let lt = c.records-test.true in omega arith;
  same = λ f says k kept low high. elim (cases_lt k c.records.end) [
    | inl lt ↦ c.records.invariant.same f says k kept low lt
    | inr ge ↦ found f c.args.records.now c.records.end c.index-records-end.result k kept c.records-test.true c.index-records-end.is (omega arith)
        ∙ sym (says _ _ c.is_same.result c.is_same.ensures c.if-is_same.true)
  ];
}

pub returns-clause-same : goal.returns-clause-same
returns-clause-same g c = λ f says k kept low high. c.records.invariant.same f says k kept low high
    ∙ sym (found f c.args.records.now c.args.at c.index-records-at.result c.args.at kept c.requires.inside c.index-records-at.is refl)
