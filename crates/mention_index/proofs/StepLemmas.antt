-- Lists of code points from which there is a step to a code point.
-- lead_grows   there is, where there are more keys
-- lead_none, lead_both   of none, and of two lists
use Rattle.std.proofs.Common.{◌≡◌, ℕ, Bool, true, ◌==◌, List, [], ◌++◌, sym, ◌∙◌, inl, inr}
use Rattle.std.proofs.lemmas.Bool.{true≢false, or_cases}
use Rattle.std.proofs.lemmas.List.Folds.{list_any-append}
use Rattle.ucd_model.specs.Sameness.{is_in}
use Rattle.mention_index.specs.Steps.{LeadFrom, key}

pub lead_grows : (has more : ℕ → Bool) (xs : List ℕ) (c : ℕ) → ((k : ℕ) → has k ≡ true → more k ≡ true) → LeadFrom has xs c → LeadFrom more xs c
lead_grows has more xs c grows lead x e ne = grows (key x c) (lead x e ne)

pub lead_none : (has : ℕ → Bool) (c : ℕ) → LeadFrom has [] c
lead_none has c x e ne = absurd (true≢false (sym e))

pub lead_both : (has : ℕ → Bool) (xs ys : List ℕ) (c : ℕ) → LeadFrom has xs c → LeadFrom has ys c → LeadFrom has (xs ++ ys) c
lead_both has xs ys c first second x e ne =
    elim (or_cases (is_in xs x) (is_in ys x) (sym (list_any-append (λ y. y == x) xs ys) ∙ e)) [
      | inl own ↦ first x own ne
      | inr later ↦ second x later ne
    ]
