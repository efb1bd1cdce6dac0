-- From each code point that is reached from a code point one comes to it by the steps.
-- reached_lead        where there are steps to each code point from those that it mentions, one comes to a code point from each that is
--                     reached from it
-- asked_lead          the law of the same name
-- leads_more          one comes to one more
-- closed_leads        where one comes to a code point from one that passes, and what passes is closed, it passes too
use Rattle.std.proofs.Common.{◌≡◌, ℕ, ◌<◌, Bool, true, ◌==◌, List, [], ◌∷◌, ◌++◌, refl, sym, ◌∙◌, subst, inl, inr}
use Rattle.std.proofs.lemmas.Bool.{true≢false, cases_eq, cases_lt, or_cases, eqb-true}
use Rattle.ucd_facts.specs.CompositeLaws.{Composes}
use Rattle.ucd_facts.specs.Facts.{Facts, image_points}
use Rattle.ucd_facts.specs.declared.image.Image.{Image}
use Rattle.ucd_facts.specs.declared.image.Image.TheVariants.{Same}
use Rattle.ucd_model.specs.Sameness.{is_in}
use Rattle.ucd_facts.specs.Uniform.{IsPlain}
use Rattle.ucd_facts.specs.Answers.{Each}
use Rattle.query_laws.specs.ListProofs.{Each-both}
use Rattle.mention_index.specs.ReachProofs.{asked_are_reached}
use Rattle.mention_index.specs.Reached.{Reached, about, members_of}
use Rattle.mention_index.specs.Reached.Reached.{itself, member, composite}
use Rattle.mention_index.specs.Laws.{AskedLead, IsCut}
use Rattle.mention_index.specs.Steps.{HasSteps, HasStepsTo, IsClosed, Leads}
use Rattle.mention_index.specs.Steps.Leads.{here, on}

-- ---- a code point without a mapping mentions itself alone

one_same : (d x : ℕ) (xs : List ℕ) → Each (λ y. y ≡ d) xs → is_in xs x ≡ true → x ≡ d
one_same d x [] e h = absurd (true≢false (sym h))
one_same d x (y ∷ xs) e h =
    elim (or_cases (y == x) (is_in xs x) h) [
      | inl own ↦ sym (eqb-true y x own) ∙ e.0
      | inr later ↦ one_same d x xs e.1 later
    ]

image_same : (d : ℕ) (i : Image) → i ≡ Same → Each (λ y. y ≡ d) (image_points d i)
image_same d i is = subst (λ (j : Image). Each (λ y. y ≡ d) (image_points d j)) (sym is) (refl, tt)

mapping_same : (d : ℕ) (m : List ℕ) → m ≡ [] → Each (λ y. y ≡ d) m
mapping_same d m is = subst (λ (n : List ℕ). Each (λ y. y ≡ d) n) (sym is) tt

own_members : (d : ℕ) (G : Facts) → IsPlain d G → Each (λ y. y ≡ d) (members_of d G)
own_members d G p =
    let P : ℕ → Type 0 = λ y. y ≡ d in
    let last : List ℕ = image_points d G.fold ++ [] in
    let later : List ℕ = image_points d G.title ++ last in
    let more : List ℕ = image_points d G.lower ++ later in
    let images : Each P (image_points d G.upper ++ more) =
    Each-both P (image_points d G.upper) more (image_same d G.upper p.upper) (Each-both P (image_points d G.lower) later (image_same d G.lower p.lower)
    (Each-both P (image_points d G.title) last (image_same d G.title p.title) (Each-both P (image_points d G.fold) [] (image_same d G.fold p.fold) tt))) in
    Each-both P G.mapping (G.simple_upper ∷ G.simple_lower ∷ G.simple_title ∷ G.simple_fold ∷ (image_points d G.upper ++ more)) (mapping_same d G.mapping p.mapping)
    (p.simple_upper, (p.simple_lower, (p.simple_title, (p.simple_fold, images))))

pub plain_steps : (step : ℕ → ℕ → Bool) (F : ℕ → Facts) (c : ℕ) → IsPlain c (F c) → HasStepsTo step F c
plain_steps step F c p = record {
  members = λ x e ne. absurd (ne (one_same c x (members_of c (F c)) (own_members c (F c) p) e));
  first = λ s y composes. let none : [] ≡ s ∷ y ∷ [] = sym p.mapping ∙ composes.mapping in absurd cc;
}

-- ---- where one comes from

module _ (step : ℕ → ℕ → Bool) (F : ℕ → Facts) (cut : IsCut F) (all : HasSteps step F) (c : ℕ) where
  member_leads : (d x : ℕ) → is_in (members_of d (F d)) x ≡ true → Leads step c d → Leads step c x
  member_leads d x e from =
      elim (cases_eq x d) [
        | inl same ↦ subst (Leads step c) (sym same) from
        | inr other ↦
            elim (cases_lt d 1114112) [
              | inl inside ↦ on x d inside ((all d inside).members x e other) from
              | inr past ↦ absurd (other (one_same d x (members_of d (F d)) (own_members d (F d) (cut d past)) e))
            ]
      ]

  composite_leads : (s y q : ℕ) → Composes F s y q → Leads step c s → Leads step c q
  composite_leads s y q composes from =
      elim (cases_lt q 1114112) [
        | inl inside ↦ let first = (all q inside).first s y composes in on q s first.0 first.1 from
        | inr past ↦ let none : [] ≡ s ∷ y ∷ [] = sym (cut q past).mapping ∙ composes.mapping in absurd cc
      ]

  pub reached_lead : (x : ℕ) → Reached F c x → Leads step c x
  reached_lead x itself = here
  reached_lead x (member d _ e r) = member_leads d x e (reached_lead d r)
  reached_lead x (composite s y _ composes r) = composite_leads s y x composes (reached_lead s r)

pub asked_lead : AskedLead
asked_lead step F cut all c q e = reached_lead step F cut all c (about q) (asked_are_reached F c q e)

pub leads_more : (step : ℕ → ℕ → Bool) (d c x : ℕ) → c < 1114112 → step d c ≡ true → Leads step d x → Leads step c x
leads_more step d c _ inside s here = on d c inside s here
leads_more step d c _ inside s (on x e lt t from) = on x e lt t (leads_more step d c e inside s from)

pub closed_leads : (step : ℕ → ℕ → Bool) (p : ℕ → Bool) (c x : ℕ) → IsClosed step p → Leads step c x → p x ≡ true → p c ≡ true
closed_leads step p c _ closed here e = e
closed_leads step p c _ closed (on x d inside s from) e = closed_leads step p c d closed from (closed x d inside e s)
