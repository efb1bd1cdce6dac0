-- What some code points ask, and one more of them.
-- listed_one         it is listed by its list
-- listed_none, listed_more, listed_all   of no code points, of one more, and of all
use Rattle.std.proofs.Common.{◌≡◌, ◌≢◌, ◌∙◌, ℕ, ◌+◌, ◌<◌, ◌≤◌, Bool, true, false, ◌==◌, ◌||◌, ◌⊎◌, List, [], length, take, get_or, refl, sym, ap, subst, arith, inl, inr, take_all}
use Rattle.std.proofs.lemmas.Bool.{true≢false, cases_eq, or_cases, or_parts}
use Rattle.std.proofs.lemmas.Bool.Decides.{nat_tests}
use Rattle.std.proofs.lemmas.List.Folds.{list_any_more}
use Rattle.range_table.specs.Values.{SameValues, with_span}
use Rattle.ucd_facts.specs.Facts.{Facts}
use Rattle.ucd_model.specs.Sameness.{is_in}
use Rattle.ucd_facts.specs.Uniform.{IsPlain}
use Rattle.ucd_facts.specs.Answers.{is_asked}
use Rattle.ucd_facts.specs.declared.query.Query.{Query}
use Rattle.query_laws.specs.Questions.{asked}
use Rattle.query_laws.specs.Turns.{SameQueries}
use Rattle.edit_session.specs.Questions.{AreListed, IsListed}

span_here : (A : ℕ → List Query) (c : ℕ) (queries : List Query) → with_span A c c queries c ≡ queries
span_here A c queries = grind (arith, nat_tests)

span_there : (A : ℕ → List Query) (c d : ℕ) (queries : List Query) → d ≢ c → with_span A c c queries d ≡ A d
span_there A c d queries other = grind (arith, nat_tests)

pub listed_one : (F : ℕ → Facts) (A B : ℕ → List Query) (c : ℕ) (queries : List Query) → c < 1114112 → SameQueries queries (asked F c) → SameValues B (with_span A c c queries) → IsListed F c A B
listed_one F A B c queries inside known spans = record {
  here = inl (λ q. ap (λ (qs : List Query). is_asked qs q) (spans c inside ∙ span_here A c queries) ∙ known q);
  others = λ d lt other. spans d lt ∙ span_there A c d queries other;
}

pub listed_none : (F : ℕ → Facts) (A : ℕ → List Query) → AreListed F [] A A
listed_none F A = record { each = λ c lt e. absurd (true≢false (sym e)); others = λ c lt e. refl }

module _ (F : ℕ → Facts) (points : List ℕ) (i d : ℕ) (A B C : ℕ → List Query) (within : i < length points) (before : AreListed F (take i points) A B) (one : IsListed F (get_or points i d) B C) where
  abbrev Is : ℕ → (ℕ → List Query) → Type 0
  Is c D = SameQueries (D c) (asked F c) ⊎ (IsPlain c (F c) × (D c ≡ A c))

  parts : (c : ℕ) → is_in (take (i + 1) points) c ≡ (is_in (take i points) c || (get_or points i d == c))
  parts c = list_any_more (λ y. y == c) points i d within

  moved : (c : ℕ) → C c ≡ B c → Is c B → Is c C
  moved c same (inl known) = inl (λ q. ap (λ (qs : List Query). is_asked qs q) same ∙ known q)
  moved c same (inr plain) = inr (plain.0, same ∙ plain.1)

  -- of the last point, where it stands among the others, and where it does not
  last : (c : ℕ) → c < 1114112 → (b : Bool) → is_in (take i points) c ≡ b → SameQueries (C c) (asked F c) ⊎ (IsPlain c (F c) × (C c ≡ B c)) → Is c C
  last c lt b e (inl known) = inl known
  last c lt true e (inr plain) = moved c plain.1 (before.each c lt e)
  last c lt false e (inr plain) = inr (plain.0, plain.1 ∙ before.others c lt e)

  pub listed_more : AreListed F (take (i + 1) points) A C
  listed_more = record {
    each = λ c lt e. elim (cases_eq (get_or points i d) c) [
      | inl same ↦ last c lt (is_in (take i points) c) refl (subst (λ k. SameQueries (C k) (asked F k) ⊎ (IsPlain k (F k) × (C k ≡ B k))) same one.here)
      | inr other ↦ elim (or_cases (is_in (take i points) c) (get_or points i d == c) (sym (parts c) ∙ e)) [
        | inl own ↦ moved c (one.others c lt (λ is. other (sym is))) (before.each c lt own)
        | inr here ↦ absurd (let is : get_or points i d ≡ c = grind (arith, nat_tests) in other is)
      ]
    ];
    others = λ c lt e.
        let out = or_parts (is_in (take i points) c) (get_or points i d == c) (sym (parts c) ∙ e) in
        let other : c ≢ get_or points i d = λ is. let on : (get_or points i d == c) ≡ true = grind (arith, nat_tests) in true≢false (sym on ∙ out.1) in
        one.others c lt other ∙ before.others c lt out.0;
  }

pub listed_all : (F : ℕ → Facts) (points : List ℕ) (i : ℕ) (A B : ℕ → List Query) → length points ≤ i → AreListed F (take i points) A B → AreListed F points A B
listed_all F points i A B all listed = subst (λ (xs : List ℕ). AreListed F xs A B) (take_all i points all) listed
