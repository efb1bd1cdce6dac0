use Rattle.std.proofs.Common.{◌≡◌, ◌++◌, ◌+◌, [], ◌∷◌, ℕ, Bool, true, false, List, map, drop, sym, ap, ◌∙◌, append-nil, append_assoc, arith}
use Rattle.std.proofs.lemmas.List.{at_drop_more, at_drop_all}
use Rattle.ucd_points.specs.Limits.{point_count}
use Rattle.ucd_model.specs.Records.{Record}
use Rattle.unicodeset_eval.specs.Merges.{emit}
use Rattle.unicodeset_eval.specs.RecordPieces.{piece_turns, piece_value, values_record}
use Rattle.unicodeset_eval.specs.declared.record_pieces.RecordRun.{RecordRun}
use Rattle.unicodeset_eval.proofs.testing.edges_of_test.Goals as goal

-- an edge can be put behind others before what follows it
emit_behind : (a b : Bool) (x : ℕ) (front rest : List ℕ) → (front ++ emit a b x []) ++ rest ≡ front ++ emit a b x rest
emit_behind true true x front rest = ap (λ (l : List ℕ). l ++ rest) (append-nil front)
emit_behind true false x front rest = append_assoc front (x ∷ []) rest
emit_behind false true x front rest = append_assoc front (x ∷ []) rest
emit_behind false false x front rest = ap (λ (l : List ℕ). l ++ rest) (append-nil front)

module _ (f : Record → Bool) (inside : Bool) (front : List ℕ) where
  abbrev edges_of : List RecordRun → List ℕ
  edges_of pieces = front ++ piece_turns point_count f inside (map piece_value pieces)

  one_more : (said : Bool) (edges : List ℕ) (piece : RecordRun) (rest : List RecordRun) → said ≡ f (values_record piece.values) → edges ≡ front ++ emit inside said piece.first []
      → edges ++ piece_turns point_count f said (map piece_value rest) ≡ edges_of (piece ∷ rest)
  one_more said edges piece rest says put =
      ap (λ (l : List ℕ). l ++ piece_turns point_count f said (map piece_value rest)) put
      ∙ emit_behind inside said piece.first front (piece_turns point_count f said (map piece_value rest))
      ∙ ap (λ (b : Bool). front ++ emit inside b piece.first (piece_turns point_count f b (map piece_value rest))) says

pub pieces-preserved : goal.pieces-preserved
pieces-preserved g c = λ f says.
    let pieces : List RecordRun = c.args.pieces.now in
    let i : ℕ = c.pieces.piece-index in
    one_more f c.pieces.inside c.pieces.edges.items c.says-next.result c.put_edge_if_turned.new.edges.items c.piece-item.result (drop (i + 1) pieces) (says _ c.says-next.result c.says-next.ensures) c.in_ok-put_edge_if_turned.ensures.ok
    ∙ ap (λ (p : RecordRun). edges_of f c.pieces.inside c.pieces.edges.items (p ∷ drop (i + 1) pieces)) c.piece-item.is
    ∙ sym (at_drop_more (edges_of f c.pieces.inside c.pieces.edges.items) pieces i c.piece-item.result (omega arith))
    ∙ c.pieces.invariant f says

pub returns : goal.returns
returns g c = λ f says.
    c.in_ok-put_edge_if_turned-2.ensures.ok
    ∙ ap (λ (n : ℕ). c.pieces.edges.items ++ emit c.pieces.inside false n []) c.point_count.ensures.value
    ∙ sym (at_drop_all (edges_of f c.pieces.inside c.pieces.edges.items) c.args.pieces.now c.pieces.piece-index (omega arith))
    ∙ c.pieces.invariant f says
