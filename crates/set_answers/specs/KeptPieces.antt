-- The pieces of equal records that are kept, and when they stay.
-- AreKeptOf pieces p R      the pieces, if there are some, are those of records that are R but where p says that they changed
-- AreKept kept R            what is kept is so
-- HasPieces kept R          pieces are kept, and they are those of the records R
-- has_pieces kept           whether pieces are kept
-- noted_stay                pieces stay if more code points are said to have changed
use Rattle.std.proofs.Common.{◌≡◌, ℕ, ◌<◌, Bool, true, false, List, Option, Some, None, ◌∙◌}
use Rattle.std.specs.Prelude.{⊤, is_some}
use Rattle.std.proofs.lemmas.Bool.{false_from_ne_true}
use Rattle.number_sets.specs.Keys.{has}
use Rattle.ucd_model.specs.Records.{Record}
use Rattle.ucd_model.specs.Sameness.{is_in}
use Rattle.ucd_points.specs.Limits.{point_count}
use Rattle.unicodeset_eval.specs.PiecesAgain.{ArePiecesBut}
use Rattle.unicodeset_eval.specs.RecordPieces.{ArePiecesOf}
use Rattle.unicodeset_eval.specs.declared.record_pieces.RecordPieces.{RecordPieces}
use Rattle.set_answers.specs.declared.kept_pieces.KeptPieces.{KeptPieces}

abbrev pub AreKeptOf : Option RecordPieces → (ℕ → Bool) → (ℕ → Record) → Type 0
AreKeptOf None p R = ⊤
AreKeptOf (Some pieces) p R = ArePiecesBut pieces p R

abbrev pub AreKept : KeptPieces → (ℕ → Record) → Type 0
AreKept kept R = AreKeptOf kept.pieces (has kept.changed) R

abbrev pub has_pieces : KeptPieces → Bool
has_pieces kept = is_some kept.pieces

abbrev pub HasPiecesOf : Option RecordPieces → (ℕ → Record) → Type 0
HasPiecesOf None R = ⊥
HasPiecesOf (Some pieces) R = ArePiecesOf pieces R

abbrev pub HasPieces : KeptPieces → (ℕ → Record) → Type 0
HasPieces kept R = HasPiecesOf kept.pieces R

module _ (p q : ℕ → Bool) (changed : List ℕ) (R S : ℕ → Record) where
  pub noted_stay : (pieces : Option RecordPieces) → ((c : ℕ) → p c ≡ true → q c ≡ true) → ((c : ℕ) → is_in changed c ≡ true → q c ≡ true)
      → ((c : ℕ) → c < point_count → is_in changed c ≡ false → R c ≡ S c) → AreKeptOf pieces p R → AreKeptOf pieces q S
  noted_stay None grows put same are = tt
  noted_stay (Some pieces) grows put same are = record {
    old = are.old;
    are = are.are;
    same = λ c inside out.
        are.same c inside (false_from_ne_true (p c) (λ yes. let k = grows c yes in absurd cc))
        ∙ same c inside (false_from_ne_true (is_in changed c) (λ yes. let k = put c yes in absurd cc));
  }
