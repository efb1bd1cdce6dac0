-- Records that are written one after another.
use Rattle.std.proofs.Common.{◌≡◌, ℕ, ◌<◌, ◌&&◌, nat_le, List, [], ◌∷◌, ◌++◌, length, get_or, if◌then◌else◌, sym, ap, ◌∙◌, arith}
use Rattle.ucd_model.specs.Records.{Record, kept_record}
use Rattle.ucd_model.specs.declared.records.Record.{Record as KeptRecord}
use Rattle.range_table.specs.Values.{SameValues, with_span}
use Rattle.record_table.specs.Records.{written}

-- one record more is the last one written
written-more : (points : List ℕ) (records : List KeptRecord) (p : ℕ) (r : KeptRecord) (R : ℕ → Record) (c : ℕ) → length records < length points → p ≡ get_or points (length records) p
    → written points (records ++ r ∷ []) R c ≡ with_span (written points records R) p p (kept_record r) c
written-more [] records p r R c some at = absurd (omega (arith, some))
written-more (q ∷ points) [] p r R c some at = ap (λ k. with_span R k k (kept_record r) c) (sym at)
written-more (q ∷ points) (s ∷ records) p r R c some at = written-more points records p r (with_span R q q (kept_record s)) c (omega (arith, some)) at

pub written_to : (points : List ℕ) (records : List KeptRecord) (p : ℕ) (r : KeptRecord) (R old new : ℕ → Record) → length records < length points → p ≡ get_or points (length records) p
    → SameValues old (written points records R) → SameValues new (with_span old p p (kept_record r)) → SameValues new (written points (records ++ r ∷ []) R)
written_to points records p r R old new some at before put = λ c lt.
    put c lt ∙ ap (λ (x : Record). if nat_le p c && nat_le c p then kept_record r else x) (before c lt) ∙ sym (written-more points records p r R c some at)
