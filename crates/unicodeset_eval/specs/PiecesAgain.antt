-- Pieces of equal records again, where the records of some code points changed.
--
-- p says which code points changed, and R is the record of each code point now.
-- end_before pieces        where the piece in front of these ends: one past its last code point
-- NoneBefore p start next  from start up to before next none changed
-- IsAlikeIn R lo end v     all code points from lo to before end have records with these values
-- IsAlikeBut R p lo end v  the same but for those that changed
-- AreLeft R p lo pieces    pieces from lo to the last code point, throughout each of which R is the same but for what changed
-- ArePiecesBut pieces p R  pieces of records that are those of R but for what changed
-- left_of                  such pieces are left at the beginning
-- put_cut                  one more piece behind a cut
use Rattle.std.proofs.Common.{◌≡◌, ℕ, ◌+◌, ◌-◌, ◌<◌, ◌≤◌, Bool, false, List, [], ◌∷◌, ◌++◌, map, refl, sym, ap, subst, ◌∙◌, arith}
use Rattle.std.proofs.lemmas.List.{map-append}
use Rattle.ucd_points.specs.Bounds.{Bounds}
use Rattle.ucd_points.specs.Limits.{point_count}
use Rattle.ucd_model.specs.CutLemmas.{cut_push, cut_within, point_count-is}
use Rattle.ucd_model.specs.Cuts.{IsCut}
use Rattle.ucd_model.specs.Records.{Record}
use Rattle.unicodeset_eval.specs.RecordPieces.{AreCut, AreCutTo, PieceValue, piece_at, piece_value, unfolded, unfolded_of, values_record}
use Rattle.unicodeset_eval.specs.declared.record_pieces.RecordRun.{RecordRun}
use Rattle.unicodeset_eval.specs.declared.record_pieces.PropertyValues.{PropertyValues}
use Rattle.unicodeset_eval.specs.declared.record_pieces.RecordPieces.{RecordPieces}

abbrev pub end_before : List RecordRun → ℕ
end_before [] = point_count
end_before (p ∷ rest) = p.first

pub record NoneBefore (p : ℕ → Bool) (start next : ℕ) : Type 0 where
  pub from : start ≤ next
  pub within : next ≤ 1114112
  pub none : (k : ℕ) → start ≤ k → k < next → p k ≡ false

pub record IsAlikeIn (R : ℕ → Record) (lo end : ℕ) (v : PropertyValues) : Type 0 where
  pub each : (c : ℕ) → lo ≤ c → c < end → unfolded (R c) ≡ values_record v

pub record IsAlikeBut (R : ℕ → Record) (p : ℕ → Bool) (lo end : ℕ) (v : PropertyValues) : Type 0 where
  pub each : (c : ℕ) → lo ≤ c → c < end → p c ≡ false → unfolded (R c) ≡ values_record v

abbrev pub AreLeft : (ℕ → Record) → (ℕ → Bool) → ℕ → List RecordRun → Type 0
AreLeft R p lo [] = lo ≡ point_count
AreLeft R p lo (q ∷ rest) = (q.first ≡ lo) × (lo ≤ end_before rest) × (end_before rest ≤ 1114112) × IsAlikeBut R p lo (end_before rest) q.values × AreLeft R p (end_before rest) rest

pub record ArePiecesBut (pieces : RecordPieces) (p : ℕ → Bool) (R : ℕ → Record) : Type 0 where
  pub old : ℕ → Record
  pub are : AreCut old pieces.pieces.items
  pub same : (c : ℕ) → c < point_count → p c ≡ false → old c ≡ R c

-- ---- what is left

ends_at : (R : ℕ → Record) (lo : ℕ) (rest : List RecordRun) (spans : List Bounds) → IsCut (unfolded_of R) lo point_count spans → map piece_value rest ≡ map (piece_at R) spans → end_before rest ≡ lo
ends_at R lo [] [] cut are = sym cut
ends_at R lo [] (s ∷ spans) cut are = absurd cc
ends_at R lo (q ∷ rest) [] cut are = absurd cc
ends_at R lo (q ∷ rest) (s ∷ spans) cut are = let head : piece_value q ≡ piece_at R s = cc in ap (λ (v : PieceValue). v.first) head ∙ cut.0

module _ (S R : ℕ → Record) (p : ℕ → Bool) (same : (c : ℕ) → c < point_count → p c ≡ false → S c ≡ R c) where
  left_from : (lo : ℕ) (pieces : List RecordRun) (spans : List Bounds) → IsCut (unfolded_of S) lo point_count spans → map piece_value pieces ≡ map (piece_at S) spans → AreLeft R p lo pieces
  left_from lo [] [] cut are = cut
  left_from lo [] (s ∷ spans) cut are = absurd cc
  left_from lo (q ∷ rest) [] cut are = absurd cc
  left_from lo (q ∷ rest) (s ∷ spans) cut are =
      let head : piece_value q ≡ piece_at S s = cc in
      let tail : map piece_value rest ≡ map (piece_at S) spans = cc in
      let end : end_before rest ≡ s.hi + 1 = ends_at S (s.hi + 1) rest spans cut.3 tail in
      let begins = cut.0 in
      let ordered = cut.1 in
      let within = cut_within (unfolded_of S) (s.hi + 1) point_count spans cut.3 in (
        ap (λ (v : PieceValue). v.first) head ∙ begins,
        omega (arith, begins, ordered, end),
        omega (arith, within, end, point_count-is),
        record {
          each = λ c from below unchanged.
              ap unfolded (sym (same c (omega (arith, within, end, below)) unchanged))
              ∙ cut.2 c (omega (arith, begins, from)) (omega (arith, end, below))
              ∙ sym (ap (λ (v : PieceValue). v.values) head);
        },
        subst (λ (n : ℕ). AreLeft R p n rest) (sym end) (left_from (s.hi + 1) rest spans cut.3 tail),
      )

pub left_of : (pieces : RecordPieces) (p : ℕ → Bool) (R : ℕ → Record) → ArePiecesBut pieces p R → AreLeft R p 0 pieces.pieces.items
left_of pieces p R but = left_from but.old R p but.same 0 pieces.pieces.items but.are.spans but.are.cut but.are.are

-- ---- one more piece

pub put_cut : (R : ℕ → Record) (lo end : ℕ) (v : PropertyValues) (old new : List RecordRun) → lo < end → IsAlikeIn R lo end v → new ≡ old ++ record { first = lo; values = v } ∷ [] → AreCutTo R lo old → AreCutTo R end new
put_cut R lo end v old new some alike grown cut =
    let s : Bounds = record { lo = lo; hi = end - 1 } in
    let q : RecordRun = record { first = lo; values = v } in
    let here : unfolded (R lo) ≡ values_record v = alike.each lo (omega arith) some in
    let is : piece_value q ≡ piece_at R s = λ j. let w : PieceValue = record { first = lo; values = (sym here) j } in w in
    let ends : (end - 1) + 1 ≡ end = omega (arith, some) in
    record {
      spans = cut.spans ++ s ∷ [];
      cut = subst (λ (n : ℕ). IsCut (unfolded_of R) 0 n (cut.spans ++ s ∷ [])) ends
          (cut_push (unfolded_of R) 0 lo cut.spans s cut.cut refl (omega (arith, some)) (λ c from to. alike.each c from (omega (arith, some, to)) ∙ sym here));
      are = ap (map piece_value) grown ∙ map-append piece_value old (q ∷ [])
          ∙ ap (λ (vs : List PieceValue). vs ++ piece_value q ∷ []) cut.are
          ∙ ap (λ (w : PieceValue). map (piece_at R) cut.spans ++ w ∷ []) is
          ∙ sym (map-append (piece_at R) cut.spans (s ∷ []));
    }
