-- Pieces of equal records are stretches of equal labels.
use Rattle.std.proofs.Common.{◌≡◌, ℕ, ◌+◌, ◌-◌, ◌<◌, ◌≤◌, zero, suc, List, [], ◌∷◌, ◌++◌, length, get_or, map, take, drop, ap, subst, ◌∙◌, arith, inl, inr, flat_map}
use Rattle.std.proofs.lemmas.Bool.{cases_lt}
use Rattle.std.proofs.lemmas.List.{take_more, append-nil, map-append, get_or-drop, length-drop, drop-drop}
use Rattle.std.proofs.lemmas.Grind.{flat_map-append}
use Rattle.ucd_points.specs.Bounds.{Bounds}
use Rattle.ucd_model.specs.CutLemmas.{cut_within}
use Rattle.ucd_model.specs.Cuts.{IsCut}
use Rattle.ucd_model.specs.Labels.{Label}
use Rattle.ucd_model.specs.Records.{Record}
use Rattle.label_runs.specs.Runs.{IsStretch}

-- where the records are equal, so is what they are listed with
pub piece_is_stretch : (R : ℕ → Record) (label : Record → Label) (lo n : ℕ) (s : Bounds) (rest : List Bounds) → IsCut R lo n (s ∷ rest) → IsStretch n (λ c. label (R c)) lo (s.hi + 1) (label (R s.lo))
piece_is_stretch R label lo n s rest h =
    let begins = h.0 in
    let ordered = h.1 in
    record {
      some = omega arith;
      inside = cut_within R (s.hi + 1) n rest h.3;
      alike = λ k low high. ap label (h.2 k (omega arith) (omega arith));
    }

-- one section more
pub flat_map-more : {X Y A : Type 0} (f : Y → List A) (g : X → Y) (xs : List X) (i : ℕ) (d : X) → i < length xs → flat_map f (map g (take (i + 1) xs)) ≡ flat_map f (map g (take i xs)) ++ f (g (get_or xs i d))
flat_map-more f g xs i d lt =
    ap (λ (t : List _). flat_map f (map g t)) (take_more xs i d lt) ∙ ap (flat_map f) (map-append g (take i xs) (get_or xs i d ∷ []))
    ∙ flat_map-append f (map g (take i xs)) (g (get_or xs i d) ∷ [])
    ∙ ap (λ (t : List _). flat_map f (map g (take i xs)) ++ t) (append-nil (f (g (get_or xs i d))))

-- a stretch, and behind it another one with the same label
stretch_joined : (n : ℕ) (f : ℕ → Label) (lo mid end : ℕ) (text : Label) → IsStretch n f lo mid text → IsStretch n f mid end text → IsStretch n f lo end text
stretch_joined n f lo mid end text first second = record {
  some = let some = first.some in let more = second.some in omega arith;
  inside = second.inside;
  alike = λ k low high. elim (cases_lt k mid) [ inl lt ↦ first.alike k low lt | inr ge ↦ second.alike k ge high ];
}

-- pieces that follow one another, up to place m, whose records have one label, are a stretch; others are left behind them
pieces_are_stretch : (R : ℕ → Record) (label : Record → Label) (text : Label) (lo n : ℕ) (pieces : List Bounds) (m : ℕ) (d : Bounds) → m < length pieces → IsCut R lo n pieces
    → ((k : ℕ) → k ≤ m → label (R (get_or pieces k d).lo) ≡ text)
    → IsStretch n (λ c. label (R c)) lo ((get_or pieces m d).hi + 1) text × IsCut R ((get_or pieces m d).hi + 1) n (drop (suc m) pieces)
pieces_are_stretch R label text lo n [] m d inside cut same = absurd (omega arith)
pieces_are_stretch R label text lo n (s ∷ rest) zero d inside cut same =
    (subst (IsStretch n (λ c. label (R c)) lo (s.hi + 1)) (same 0 (omega arith)) (piece_is_stretch R label lo n s rest cut), cut.3)
pieces_are_stretch R label text lo n (s ∷ rest) (suc m) d inside cut same =
    let first : IsStretch n (λ c. label (R c)) lo (s.hi + 1) text = subst (IsStretch n (λ c. label (R c)) lo (s.hi + 1)) (same 0 (omega arith)) (piece_is_stretch R label lo n s rest cut) in
    let behind = pieces_are_stretch R label text (s.hi + 1) n rest m d (omega arith) cut.3 (λ k le. same (suc k) (omega arith)) in
    (stretch_joined n (λ c. label (R c)) lo (s.hi + 1) ((get_or rest m d).hi + 1) text first behind.0, behind.1)

-- the same of the pieces from place i on to before place j
pub run_is_stretch : (R : ℕ → Record) (label : Record → Label) (text : Label) (lo n : ℕ) (pieces : List Bounds) (i j : ℕ) (d : Bounds) → i < j → j ≤ length pieces → IsCut R lo n (drop i pieces)
    → ((k : ℕ) → i ≤ k → k < j → label (R (get_or pieces k d).lo) ≡ text)
    → IsStretch n (λ c. label (R c)) lo ((get_or pieces (j - 1) d).hi + 1) text × IsCut R ((get_or pieces (j - 1) d).hi + 1) n (drop j pieces)
run_is_stretch R label text lo n pieces i j d some inside cut same =
    let m : ℕ = j - 1 - i in
    let place : (k : ℕ) → get_or (drop i pieces) k d ≡ get_or pieces (i + k) d = λ k. get_or-drop i pieces k d in
    let few : m < length (drop i pieces) = let left = length-drop i pieces in omega (arith, left) in
    let last : get_or (drop i pieces) m d ≡ get_or pieces (j - 1) d = place m ∙ ap (λ (k : ℕ). get_or pieces k d) (omega arith) in
    let behind : drop (suc m) (drop i pieces) ≡ drop j pieces = drop-drop (suc m) i pieces ∙ ap (λ (k : ℕ). drop k pieces) (omega arith) in
    let found = pieces_are_stretch R label text lo n (drop i pieces) m d few cut (λ k le. ap (λ (b : Bounds). label (R b.lo)) (place k) ∙ same (i + k) (omega arith) (omega arith)) in (
      subst (λ (b : Bounds). IsStretch n (λ c. label (R c)) lo (b.hi + 1) text) last found.0,
      subst (λ (b : Bounds). IsCut R (b.hi + 1) n (drop j pieces)) last (subst (IsCut R ((get_or (drop i pieces) m d).hi + 1) n) behind found.1),
    )
