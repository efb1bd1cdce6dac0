-- The set of a test that says the same throughout each piece of a cut.
-- piece_edges n q b pieces   the numbers at which q turns, over pieces throughout each of which it is the same; b is what it is
--                            before them, and from n on it is false
-- piece_edges_rise           they rise
-- piece_edges_are            from where the pieces begin, they say q below n, and else false
-- rises_prop                 that edges rise is one fact
-- ascii_is                   the numbers below 80 are code points
use Rattle.std.proofs.Common.{◌≡◌, ℕ, ◌+◌, ◌<◌, ◌≤◌, Bool, true, false, ◌&&◌, List, [], ◌∷◌, refl, sym, ap, subst, ◌∙◌, arith, inl, inr, nat_lt}
use Rattle.std.proofs.Math.Bridge.{le_prop}
use Rattle.std.proofs.lemmas.Bool.{cases_lt, lt-ltb, le-ltb}
use Rattle.ucd_points.specs.Bounds.{Bounds}
use Rattle.ucd_model.specs.Cuts.{IsCut}
use Rattle.ucd_model.specs.CutLemmas.{cut_within, point_count-is}
use Rattle.ucd_points.specs.Limits.{point_count}
use Rattle.ucd_model.specs.Records.{Record}
use Rattle.unicodeset_eval.specs.Edges.{inside, Rises}
use Rattle.unicodeset_eval.specs.EdgeLaws.{edge_law, emit_rises, inside_early, Rises-from}
use Rattle.unicodeset_eval.specs.Merges.{emit}

abbrev pub piece_edges : ℕ → (ℕ → Bool) → Bool → List Bounds → List ℕ
piece_edges n q b [] = emit b false n []
piece_edges n q b (s ∷ rest) = emit b (q s.lo) s.lo (piece_edges n q (q s.lo) rest)

pub rises_prop : (low : ℕ) (xs : List ℕ) → IsProp (Rises low xs)
rises_prop low [] p q = refl
rises_prop low (x ∷ xs) p q = ap (λ (a : low ≤ x). (a, p.1)) (le_prop p.0 q.0) ∙ ap (λ (b : Rises (x + 1) xs). (q.0, b)) (rises_prop (x + 1) xs p.1 q.1)

module _ (R : ℕ → Record) (f : Record → Bool) (n : ℕ) where
  abbrev pub q : ℕ → Bool
  q c = f (R c)

  pub piece_edges_rise : (b : Bool) (lo : ℕ) (pieces : List Bounds) → IsCut R lo n pieces → Rises lo (piece_edges n q b pieces)
  piece_edges_rise true lo [] cut = (omega (arith, cut), tt)
  piece_edges_rise false lo [] cut = tt
  piece_edges_rise b lo (s ∷ rest) cut =
      let begins = cut.0 in
      let ordered = cut.1 in
      let later : Rises (s.hi + 1) (piece_edges n q (q s.lo) rest) = piece_edges_rise (q s.lo) (s.hi + 1) rest cut.3 in
      emit_rises b (q s.lo) s.lo lo (piece_edges n q (q s.lo) rest) (omega arith) (Rises-from (piece_edges n q (q s.lo) rest) (s.hi + 1) (s.lo + 1) later (omega arith))

  pub piece_edges_are : (b : Bool) (lo : ℕ) (pieces : List Bounds) → IsCut R lo n pieces → (c : ℕ) → lo ≤ c → inside b (piece_edges n q b pieces) c ≡ (nat_lt c n && q c)
  piece_edges_are b lo [] cut c le =
      edge_law b false n [] c (λ lt. refl) ∙ rw (le-ltb c n (omega (arith, cut))) refl
  piece_edges_are b lo (s ∷ rest) cut c le =
      let begins = cut.0 in
      let ordered = cut.1 in
      let edges : List ℕ = piece_edges n q (q s.lo) rest in
      let rises : Rises (s.hi + 1) edges = piece_edges_rise (q s.lo) (s.hi + 1) rest cut.3 in
      edge_law b (q s.lo) s.lo edges c (λ lt. inside_early (q s.lo) edges (s.hi + 1) c rises (omega arith))
      ∙ rw (le-ltb c s.lo (omega arith)) (elim (cases_lt c (s.hi + 1)) [
        | inl lt ↦
            let end = cut_within R (s.hi + 1) n rest cut.3 in
            let same : q c ≡ q s.lo = ap f (cut.2 c (omega arith) (omega arith)) in
            inside_early (q s.lo) edges (s.hi + 1) c rises lt ∙ rw (lt-ltb c n (omega arith)) (sym same)
        | inr ge ↦ piece_edges_are (q s.lo) (s.hi + 1) rest cut.3 c ge
      ])

  -- the set of all pieces, of which the first begins at 0
  pub piece_edges_rise_all : (pieces : List Bounds) → IsCut R 0 n pieces → 0 < n → Rises 1 (piece_edges n q (q 0) pieces)
  piece_edges_rise_all [] cut some = absurd (omega (arith, cut))
  piece_edges_rise_all (s ∷ rest) cut some =
      let ordered = cut.1 in
      let begins : s.lo ≡ 0 = cut.0 in
      let later : Rises (s.hi + 1) (piece_edges n q (q 0) rest) = piece_edges_rise (q 0) (s.hi + 1) rest cut.3 in
      let kept : Rises 1 (piece_edges n q (q 0) rest) = Rises-from (piece_edges n q (q 0) rest) (s.hi + 1) 1 later (omega arith) in
      rw begins (subst (Rises 1) (sym (emit_same (q 0) 0 (piece_edges n q (q 0) rest))) kept)
    where
      emit_same : (b : Bool) (x : ℕ) (rest : List ℕ) → emit b b x rest ≡ rest
      emit_same true x rest = refl
      emit_same false x rest = refl

pub ascii_is : (c : ℕ) → nat_lt c 0x80 ≡ (nat_lt c point_count && nat_lt c 0x80)
ascii_is c = elim (cases_lt c 0x80) [
  | inl lt ↦ rw (lt-ltb c 0x80 lt, lt-ltb c point_count (omega (arith, lt, point_count-is))) refl
  | inr le ↦ rw (le-ltb c 0x80 le) (never (nat_lt c point_count))
]
  where
    never : (b : Bool) → false ≡ (b && false)
    never true = refl
    never false = refl
