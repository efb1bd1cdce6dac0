-- The steps of a walk.
-- begins   so it stands before the first step
-- goes     and after one more
-- ends     and if nothing is pending any more, what was walked is closed, and holds the points that the walk began with
use Rattle.std.proofs.Common.{◌≡◌, ℕ, ◌<◌, Bool, true, false, not, ◌&&◌, ◌||◌, ◌==◌, ◌⊎◌, List, [], ◌∷◌, ◌++◌, refl, sym, ap, ◌∙◌, subst, inl, inr}
use Rattle.std.proofs.lemmas.Bool.{true≢false, and_parts, cases_Bool, eq-eqb, eqb-true, or_cases, or_left, or_parts, or_right, not-true}
use Rattle.std.proofs.lemmas.List.Folds.{list_any-append}
use Rattle.std.proofs.Math.Bool.{or-false}
use Rattle.ucd_model.specs.Sameness.{is_in}
use Rattle.mention_index.specs.StepProofs.{leads_more}
use Rattle.mention_index.specs.Steps.{IsClosed}
use Rattle.mention_index.specs.Steps.Leads.{here}
use Rattle.mention_index.specs.Walks.{ComesFrom, Going}

joined : (a r t w : Bool) → (t ≡ true → (a || r) ≡ w) → ((a || r) || t) ≡ (a || (r || (not w && t)))
joined true r t w f = refl
joined false true t w f = refl
joined false false false true f = refl
joined false false false false f = refl
joined false false true true f = absurd (true≢false (sym (f refl)))
joined false false true false f = refl

module _ (step : ℕ → ℕ → Bool) (W : ℕ → Bool) (P : List ℕ) where
  pub begins : IsClosed step W → Going step W P W P []
  begins closed = record {
    closed = λ x d lt e s. inl (closed x d lt e s);
    begun = λ c e. inr e;
    comes = λ c e. (c, e, here);
    only = λ c e. absurd (true≢false (sym e));
    told = λ c. sym (or-false (W c));
  }

  module _ (walked new : ℕ → Bool) (before rest after reached more : List ℕ) (x : ℕ) (popped : before ≡ rest ++ x ∷ []) (g : Going step W P walked before reached)
      (grows : (k : ℕ) → is_in rest k ≡ true → is_in after k ≡ true) (only : (d : ℕ) → is_in after d ≡ true → (is_in rest d ≡ true) ⊎ ((d < 1114112) × (step x d ≡ true)))
      (walks : (k : ℕ) → new k ≡ (walked k || k == x)) (led : walked x ≡ false → (d : ℕ) → d < 1114112 → step x d ≡ true → is_in after d ≡ true)
      (reaches : (k : ℕ) → is_in more k ≡ (is_in reached k || (not (walked x) && k == x))) where
    parts : (d : ℕ) → is_in before d ≡ (is_in rest d || is_in (x ∷ []) d)
    parts d = ap (λ (xs : List ℕ). is_in xs d) popped ∙ list_any-append (λ y. y == d) rest (x ∷ [])

    was : is_in before x ≡ true
    was = parts x ∙ or_right (is_in rest x) (is_in (x ∷ []) x) (or_left (x == x) (is_in [] x) (eq-eqb x x refl))

    still : (d : ℕ) → walked d ≡ true → new d ≡ true
    still d e = walks d ∙ or_left (walked d) (d == x) e

    here_now : (d : ℕ) → x ≡ d → new d ≡ true
    here_now d same = walks d ∙ or_right (walked d) (d == x) (eq-eqb d x (sym same))

    pending : (d : ℕ) → is_in before d ≡ true → (new d ≡ true) ⊎ (is_in after d ≡ true)
    pending d e =
        elim (or_cases (is_in rest d) (is_in (x ∷ []) d) (sym (parts d) ∙ e)) [
          | inl left ↦ inr (grows d left)
          | inr last ↦ elim (or_cases (x == d) (is_in [] d) last) [
            | inl same ↦ inl (here_now d (eqb-true x d same))
            | inr none ↦ absurd (true≢false (sym none))
          ]
        ]

    known : (d : ℕ) → (walked d ≡ true) ⊎ (is_in before d ≡ true) → (new d ≡ true) ⊎ (is_in after d ≡ true)
    known d (inl e) = inl (still d e)
    known d (inr e) = pending d e

    closed : (y d : ℕ) → d < 1114112 → new y ≡ true → step y d ≡ true → (new d ≡ true) ⊎ (is_in after d ≡ true)
    closed y d lt e s =
        elim (or_cases (walked y) (y == x) (sym (walks y) ∙ e)) [
          | inl old ↦ known d (g.closed y d lt old s)
          | inr same ↦
              let from : step x d ≡ true = subst (λ k. step k d ≡ true) (eqb-true y x same) s in
              elim (cases_Bool (walked x)) [
                | inl old ↦ known d (g.closed x d lt old from)
                | inr first ↦ inr (led first d lt from)
              ]
        ]

    comes : (c : ℕ) → is_in after c ≡ true → ComesFrom step P c
    comes c e =
        elim (only c e) [
          | inl left ↦ g.comes c (parts c ∙ or_left (is_in rest c) (is_in (x ∷ []) c) left)
          | inr stepped ↦ let from = g.comes x was in (from.0, from.1, leads_more step x c from.0 stepped.0 stepped.1 from.2)
        ]

    reached_only : (c : ℕ) → is_in more c ≡ true → (W c ≡ false) × ComesFrom step P c
    reached_only c e =
        elim (or_cases (is_in reached c) (not (walked x) && c == x) (sym (reaches c) ∙ e)) [
          | inl old ↦ g.only c old
          | inr now ↦
              let two = and_parts (not (walked x)) (c == x) now in
              let none : (W x || is_in reached x) ≡ false = sym (g.told x) ∙ not-true (walked x) two.0 in
              subst (λ k. (W k ≡ false) × ComesFrom step P k) (sym (eqb-true c x two.1)) ((or_parts (W x) (is_in reached x) none).0, g.comes x was)
        ]

    told : (c : ℕ) → new c ≡ (W c || is_in more c)
    told c =
        walks c ∙ ap (λ b. b || c == x) (g.told c)
        ∙ joined (W c) (is_in reached c) (c == x) (walked x) (λ same. sym (g.told c) ∙ ap walked (eqb-true c x same))
        ∙ ap (λ b. W c || b) (sym (reaches c))

    pub goes : Going step W P new after more
    goes = record { closed = closed; begun = λ c e. known c (g.begun c e); comes = comes; only = reached_only; told = told }

  module _ (walked : ℕ → Bool) (pending reached : List ℕ) (none : pending ≡ []) (g : Going step W P walked pending reached) where
    sure : (d : ℕ) → (walked d ≡ true) ⊎ (is_in pending d ≡ true) → walked d ≡ true
    sure d (inl e) = e
    sure d (inr e) = absurd (true≢false (sym e ∙ ap (λ (xs : List ℕ). is_in xs d) none))

    pub ends : IsClosed step walked
    ends x d lt e s = sure d (g.closed x d lt e s)
