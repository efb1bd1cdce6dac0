-- The four normalisation forms of a list of code points. UAX #15, section 1.2; The Unicode Standard, section 3.11,
-- D118 to D121.
--
-- F is the facts of each code point, and `compat` says whether compatibility mappings count.
-- appended a b             the list a and behind it b; where one is a rule, the first such rule
-- expansions F compat s    the expansions of the members, joined in order; the rule of the first member without one
-- decomposed F compat s    the expansions in canonical order
-- in_order F value         the list put in canonical order; composed F value: the list composed
-- nfd, nfkd                the expansions in canonical order, canonical and compatibility
-- nfc, nfkc                these composed
use Rattle.std.specs.Prelude.{ℕ, Bool, true, false, List, [], ◌∷◌, ◌++◌, Result, Ok, Err}
use Rattle.ucd_facts.specs.declared.form.Bad.{Bad as Rule}
use Rattle.ucd_facts.specs.Facts.{Facts}
use Rattle.ucd_facts.specs.Expansion.{expansion}
use Rattle.ucd_model.specs.CanonicalOrder.{class_of, order}
use Rattle.ucd_facts.specs.Composites.{pair_of}
use Rattle.ucd_model.specs.Composition.{compose}

abbrev pub appended : Result (List ℕ) Rule → Result (List ℕ) Rule → Result (List ℕ) Rule
appended (Ok xs) (Ok ys) = Ok (xs ++ ys)
appended (Ok xs) (Err rule) = Err rule
appended (Err rule) rest = Err rule

abbrev pub expansions : (ℕ → Facts) → Bool → List ℕ → Result (List ℕ) Rule
expansions F compat [] = Ok []
expansions F compat (c ∷ cs) = appended (expansion F compat c) (expansions F compat cs)

abbrev pub in_order : (ℕ → Facts) → Result (List ℕ) Rule → Result (List ℕ) Rule
in_order F (Ok points) = Ok (order (class_of F) points)
in_order F (Err rule) = Err rule

abbrev pub composed : (ℕ → Facts) → Result (List ℕ) Rule → Result (List ℕ) Rule
composed F (Ok points) = Ok (compose (class_of F) (pair_of F) points)
composed F (Err rule) = Err rule

abbrev pub decomposed : (ℕ → Facts) → Bool → List ℕ → Result (List ℕ) Rule
decomposed F compat s = in_order F (expansions F compat s)

abbrev pub nfd : (ℕ → Facts) → List ℕ → Result (List ℕ) Rule
nfd F s = decomposed F false s

abbrev pub nfkd : (ℕ → Facts) → List ℕ → Result (List ℕ) Rule
nfkd F s = decomposed F true s

abbrev pub nfc : (ℕ → Facts) → List ℕ → Result (List ℕ) Rule
nfc F s = composed F (nfd F s)

abbrev pub nfkc : (ℕ → Facts) → List ℕ → Result (List ℕ) Rule
nfkc F s = composed F (nfkd F s)
