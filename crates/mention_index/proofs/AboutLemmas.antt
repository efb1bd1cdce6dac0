-- The code points that questions are about.
-- asked_about   of each question there is the one that it is about
-- about_asked   and each of them is the one that some question is about
use Rattle.std.proofs.Common.{◌≡◌, ℕ, true, ◌==◌, List, [], ◌∷◌, map, refl, sym, ap, inl, inr}
use Rattle.std.proofs.lemmas.Bool.{true≢false, eq-eqb, eqb-true, or_cases, or_left, or_right}
use Rattle.ucd_model.specs.Sameness.{is_in}
use Rattle.ucd_facts.specs.AnswerProofs.{queries_are_told}
use Rattle.ucd_facts.specs.Answers.{is_asked, same_query}
use Rattle.ucd_facts.specs.declared.query.Query.{Query}
use Rattle.mention_index.specs.Reached.{about}

pub asked_about : (Q : List Query) (q : Query) → is_asked Q q ≡ true → is_in (map about Q) (about q) ≡ true
asked_about [] q e = absurd (true≢false (sym e))
asked_about (r ∷ Q) q e =
    elim (or_cases (same_query q r) (is_asked Q q) e) [
      | inl here ↦ or_left (about r == about q) (is_in (map about Q) (about q)) (eq-eqb (about r) (about q) (ap about (sym ((queries_are_told q r).0 here))))
      | inr later ↦ or_right (about r == about q) (is_in (map about Q) (about q)) (asked_about Q q later)
    ]

pub about_asked : (Q : List Query) (x : ℕ) → is_in (map about Q) x ≡ true → (q : Query) × (is_asked Q q ≡ true) × (about q ≡ x)
about_asked [] x e = absurd (true≢false (sym e))
about_asked (r ∷ Q) x e =
    elim (or_cases (about r == x) (is_in (map about Q) x) e) [
      | inl here ↦ (r, or_left (same_query r r) (is_asked Q r) ((queries_are_told r r).1 refl), eqb-true (about r) x here)
      | inr later ↦ let found = about_asked Q x later in (found.0, or_right (same_query found.0 r) (is_asked Q found.0) found.1, found.2)
    ]
