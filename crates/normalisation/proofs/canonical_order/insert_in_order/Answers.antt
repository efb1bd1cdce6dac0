use Rattle.std.proofs.Common.{◌≡◌, ℕ, ◌+◌, ◌-◌, ◌≤◌, ◌<◌, true, false, List, ◌++◌, take, drop, length, get_or, set, sym, ap, ◌∙◌, arith, lt-ltb, le-ltb}
use Rattle.std.proofs.lemmas.List.{get_or_read, length-take}
use Rattle.ucd_model.specs.CanonicalOrder.{class_of, greater, with_next}
use Rattle.normalisation.proofs.PlacingLemmas.{shifted, read_before, all_before, shape_length, put_back}
use Rattle.normalisation.proofs.canonical_order.insert_in_order.Goals as goal
use Rattle.normalisation.proofs.canonical_order.insert_in_order.Goals.{else-greater-test, then-greater-test+then-class}

pub greater-preserved : goal.greater-preserved
greater-preserved g c =
    let class : ℕ → ℕ = class_of (g.W.FactView.facts_of c.args.view.now) in
    let A : List ℕ = take c.args.at c.args.s.now in
    let B : List ℕ = drop (c.args.at + 1) c.args.s.now in
    let y : ℕ = c.index-as_slice-at.result in
    let q : ℕ = c.greater.place in
    let x : ℕ = c.index-as_slice-place.result in
    let len : q ≤ length A = omega (arith, length-take c.args.at c.args.s.now) in
    let lt = shape_length A B c.greater.s q y len c.greater.invariant.shape in
    let is : x ≡ get_or c.greater.s (q - 1) x = cc in
    let read : x ≡ get_or c.greater.s (q - 1) 0 = get_or_read c.greater.s (q - 1) x (omega arith) is 0 in
    let same : get_or A (q - 1) 0 ≡ x = sym (read_before A B c.greater.s (q - 1) q y (omega arith) len c.greater.invariant.shape) ∙ sym read in
    let passes : greater class y x ≡ true = lt-ltb (class y) (class x) (omega (arith, c.class.ensures, c.class-class.ensures)) in
    record {
      within = omega arith;
      shape = ap (λ zs. set zs (q - 1) y) c.replace.ensures ∙ shifted A B c.greater.s (q - 1) q y x (omega arith) len c.greater.invariant.shape read;
      above = all_before (greater class y) A (q - 1) q (omega arith) len c.greater.invariant.above (ap (greater class y) same ∙ passes);
    }

pub returns : goal.returns
returns g c =
    let class : ℕ → ℕ = class_of (g.W.FactView.facts_of c.args.view.now) in
    let A : List ℕ = take c.args.at c.args.s.now in
    let B : List ℕ = drop (c.args.at + 1) c.args.s.now in
    let y : ℕ = c.index-as_slice-at.result in
    let q : ℕ = c.greater.place in
    let len : q ≤ length A = omega (arith, length-take c.args.at c.args.s.now) in
    let lt = shape_length A B c.greater.s q y len c.greater.invariant.shape in
    let at : y ≡ get_or c.args.s.now c.args.at y = cc in
    let first : y ≡ get_or c.args.s.now c.args.at 0 = get_or_read c.args.s.now c.args.at y c.requires at 0 in
    let some : 0 < class y = omega (arith, c.class-class.ensures) in
    let stops : (p : ℕ) → p + 1 ≡ q → greater class y (get_or A p 0) ≡ false =
    elim c.greater-test.branch [
      | else-greater-test w ↦ λ p e. absurd (omega (arith, w.greater-test.false))
      | then-greater-test+then-class w ↦ λ p e.
          let x : ℕ = w.index-as_slice-place.result in
          let is : x ≡ get_or c.greater.s (q - 1) x = cc in
          let read : x ≡ get_or c.greater.s (q - 1) 0 = get_or_read c.greater.s (q - 1) x (omega arith) is 0 in
          let place : p ≡ q - 1 = omega arith in
          let same : get_or A p 0 ≡ x = rw place (sym (read_before A B c.greater.s (q - 1) q y (omega (arith, w.greater-test.true)) len c.greater.invariant.shape) ∙ sym read) in
          ap (greater class y) same ∙ le-ltb (class y) (class x) (omega (arith, w.class.ensures, w.if-class.true, c.class-class.ensures))
    ] in
    c.replace-2.ensures ∙ put_back class A B c.greater.s q y len c.greater.invariant.shape c.greater.invariant.above stops some ∙ ap (λ z. with_next class A z ++ B) first
