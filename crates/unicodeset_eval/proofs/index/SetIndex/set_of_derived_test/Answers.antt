use Rattle.std.proofs.Common.{◌≡◌, ◌&&◌, ◌<◌, ℕ, Bool, List, map, ap, ◌∙◌, arith, nat_lt}
use Rattle.std.proofs.Math.Bool.{Bool-set}
use Rattle.std.proofs.Math.Logic.{∥∥₁_elim}
use Rattle.ucd_model.specs.CutLemmas.{point_count-is}
use Rattle.ucd_points.specs.Limits.{point_count}
use Rattle.ucd_model.specs.Records.{Record}
use Rattle.property_aliases.specs.declared.property.Test.{Test}
use Rattle.unicodeset_eval.specs.Edges.{inside, Rises}
use Rattle.unicodeset_eval.specs.Found.{passes_test}
use Rattle.unicodeset_eval.specs.PieceSets.{piece_edges, piece_edges_are, piece_edges_rise_all, rises_prop}
use Rattle.unicodeset_eval.specs.RecordPieces.{AreCut, at_first, at_first_is, piece_turns, piece_turns_are, piece_value, tells_unfolded, unfolded_of}
use Rattle.unicodeset_eval.specs.declared.record_pieces.RecordRun.{RecordRun}
use Rattle.unicodeset_eval.proofs.index.SetIndex.set_of_derived_test.Goals as goal

some : 0 < point_count
some = omega (arith, point_count-is)

module _ (R : ℕ → Record) (t : Test) (pieces : List RecordRun) (cut : AreCut R pieces) where
  has_zero_is : at_first (passes_test t) (map piece_value pieces) ≡ passes_test t (unfolded_of R 0)
  has_zero_is = ap (at_first (passes_test t)) cut.are ∙ at_first_is (unfolded_of R) (passes_test t) (tells_unfolded t) point_count cut.spans cut.cut some

  turns_are : (b : Bool) → piece_turns point_count (passes_test t) b (map piece_value pieces) ≡ piece_edges point_count (λ c. passes_test t (unfolded_of R c)) b cut.spans
  turns_are b = ap (piece_turns point_count (passes_test t) b) cut.are ∙ piece_turns_are (unfolded_of R) (passes_test t) (tells_unfolded t) point_count b cut.spans

  rise : Rises 1 (piece_turns point_count (passes_test t) (at_first (passes_test t) (map piece_value pieces)) (map piece_value pieces))
  rise = rw (has_zero_is, turns_are (passes_test t (unfolded_of R 0))) (piece_edges_rise_all (unfolded_of R) (passes_test t) point_count cut.spans cut.cut some)

  are : (c : ℕ) → inside (at_first (passes_test t) (map piece_value pieces)) (piece_turns point_count (passes_test t) (at_first (passes_test t) (map piece_value pieces)) (map piece_value pieces)) c ≡ (nat_lt c point_count && passes_test t (R c))
  are c =
      rw (has_zero_is, turns_are (passes_test t (unfolded_of R 0))) (piece_edges_are (unfolded_of R) (passes_test t) point_count (passes_test t (unfolded_of R 0)) 0 cut.spans cut.cut c (omega arith))
      ∙ ap (λ b. nat_lt c point_count && b) (tells_unfolded t (R c))

pub of_edges-requires : goal.of_edges-requires
of_edges-requires g c =
    let R : ℕ → Record = g.B.Records.record_of c.args.self.now.bench.now in
    let pieces : List RecordRun = c.args.self.now.pieces.now in
    rw (c.in_ok-edges.ensures, c.passes_at_zero-has_zero.ensures)
    (∥∥₁_elim c.args.self.now.cut (rises_prop 1 (piece_turns point_count (passes_test c.args.test) (at_first (passes_test c.args.test) (map piece_value pieces)) (map piece_value pieces)))
    (λ cut. rise R c.args.test pieces cut))

pub returns : goal.returns
returns g c = λ x.
    let R : ℕ → Record = g.B.Records.record_of c.args.self.now.bench.now in
    let pieces : List RecordRun = c.args.self.now.pieces.now in
    rw (c.of_edges.ensures, c.in_ok-edges.ensures, c.passes_at_zero-has_zero.ensures)
    (∥∥₁_elim c.args.self.now.cut (Bool-set (inside (at_first (passes_test c.args.test) (map piece_value pieces)) (piece_turns point_count (passes_test c.args.test) (at_first (passes_test c.args.test) (map piece_value pieces)) (map piece_value pieces)) x) (nat_lt x point_count && passes_test c.args.test (R x)))
    (λ cut. are R c.args.test pieces cut x))
