use Rattle.std.proofs.Common.{◌≡◌, ℕ, ◌+◌, ◌<◌, List, [], ◌∷◌, ◌++◌, length, get_or, sym, ap, ◌∙◌, arith, inl, inr, Bor}
use Rattle.std.proofs.lemmas.Bool.{cases_lt}
use Rattle.std.proofs.lemmas.List.{get_or_append_left, get_or_default, length-append}
use Rattle.std.proofs.Math.Seq.{get_or-append_seam}
use Rattle.ucd_points.specs.Bounds.{Bounds}
use Rattle.ucd_model.specs.Records.{Record, kept_record}
use Rattle.ucd_model.specs.declared.records.Record.{Record as Kept}
use Rattle.derived_writer.specs.Shown.{IsShown}
use Rattle.derived_writer.proofs.file.records_of.Goals as goal

-- one more record behind the others
one_more : (R : ℕ → Record) (pieces : List Bounds) (i : ℕ) (p : Bounds) (records : List (Bor Kept)) (new : Bor Kept) → i < length pieces → length records ≡ i → p ≡ get_or pieces i p → kept_record new.now ≡ R p.lo → ((k : ℕ) (piece : Bounds) (kept : Bor Kept) → k < i → IsShown R (get_or pieces k piece) (get_or records k kept)) → (k : ℕ) (piece : Bounds) (kept : Bor Kept) → k < i + 1 → IsShown R (get_or pieces k piece) (get_or (records ++ new ∷ []) k kept)
one_more R pieces i p records new inside count here shown old k piece kept lt = elim (cases_lt k i) [
  | inl below ↦ rw (get_or_append_left records (new ∷ []) kept k (omega (arith, count))) (old k piece kept below)
  | inr le ↦
      let same : k ≡ i = omega arith in
      let last : get_or (records ++ new ∷ []) k kept ≡ new = ap (λ (n : ℕ). get_or (records ++ new ∷ []) n kept) (same ∙ sym count) ∙ get_or-append_seam records new [] kept in
      let at : get_or pieces k piece ≡ p = ap (λ (n : ℕ). get_or pieces n piece) same ∙ get_or_default pieces i piece p inside ∙ sym here in
      ap (λ (r : Bor Kept). kept_record r.now) last ∙ shown ∙ ap (λ (b : Bounds). R b.lo) (sym at)
]

pub pieces-preserved : goal.pieces-preserved
pieces-preserved g c =
    let R : ℕ → Record = g.B.Records.record_of c.args.bench.now in
    let shown : kept_record c.record.result.now ≡ R c.piece-item.result.lo = c.record.ensures ∙ ap (λ (b : Bounds). R b.lo) c.piece.view_is in
    rw c.in_ok-push.ensures.items record {
      count = omega (arith, c.pieces.invariant.count, length-append c.pieces.records.items (c.record.result ∷ []));
      each = one_more R c.args.pieces.now c.pieces.piece-index c.piece-item.result c.pieces.records.items c.record.result c.pieces-test.true c.pieces.invariant.count c.piece-item.is shown c.pieces.invariant.each;
    }

pub returns : goal.returns
returns g c = record { count = omega (arith, c.pieces.invariant.count); each = λ k piece kept lt. c.pieces.invariant.each k piece kept (omega arith) }
