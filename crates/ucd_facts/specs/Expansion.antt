-- Full decompositions, before they are put in order. UAX #15, section 1.3; The Unicode Standard, section 3.7, Decomposition.
--
-- F is the facts of each code point, and `compat` says whether compatibility mappings count.
-- counts compat kind      a mapping of this kind counts: a canonical one always, a compatibility one where compat holds
-- is_compat kind          a mapping of this kind is a compatibility mapping
-- counted F compat c      the mapping of c where it counts, else none
-- both a b                the list a and behind it b; None where one of them is None
-- joined f xs             f of the members, joined in order; the empty list for no members; None where it is None of one of them
-- alone_or_joined c m f   c alone where the mapping m has no members; else f of its members, joined
-- expand F compat n c     with n levels left: None for n = 0; c alone where no mapping of it counts; else the expansions of the
--                         mapping's members with n - 1 levels, joined
-- full F compat c         the expansion with 8 levels, so along chains of at most 7 mappings (real releases need 3)
-- judged expansion        V2 where there is none; V3 where it has more than 64 points (NFKD of FDFA has 18)
-- expansion F compat c    the full expansion of c, or the rule that c breaks
-- rule_of stop            the rule that a code point breaks; None if memory ran out
-- FormAnswers r value     r is the value, or the rule in its place; no claim if memory ran out
use Rattle.std.specs.Prelude.{ℕ, zero, suc, Bool, true, false, List, [], ◌∷◌, ◌++◌, length, nat_lt, Option, Some, None, Result, Ok, Err, if◌then◌else◌}
use Rattle.ucd_points.specs.Answers.{AnswersBy}
use Rattle.ucd_facts.specs.Facts.{Facts, Kind, Plain, Canonical, Compat}
use Rattle.ucd_facts.specs.declared.form.Bad.{Bad as Rule}
use Rattle.ucd_facts.specs.declared.form.Bad.TheVariants.{V2, V3}
use Rattle.ucd_facts.specs.declared.form.FormStop.{FormStop}
use Rattle.ucd_facts.specs.declared.form.FormStop.TheVariants.{Bad, Memory}

abbrev pub counts : Bool → Kind → Bool
counts compat Plain = false
counts compat Canonical = true
counts compat (Compat _) = compat

abbrev pub is_compat : Kind → Bool
is_compat (Compat tag) = true
is_compat _ = false

abbrev pub counted : (ℕ → Facts) → Bool → ℕ → List ℕ
counted F compat c = if counts compat (F c).kind then (F c).mapping else []

abbrev pub both : Option (List ℕ) → Option (List ℕ) → Option (List ℕ)
both (Some xs) (Some ys) = Some (xs ++ ys)
both _ _ = None

abbrev pub joined : (ℕ → Option (List ℕ)) → List ℕ → Option (List ℕ)
joined f [] = Some []
joined f (x ∷ xs) = both (f x) (joined f xs)

abbrev pub alone_or_joined : ℕ → List ℕ → (ℕ → Option (List ℕ)) → Option (List ℕ)
alone_or_joined c [] f = Some (c ∷ [])
alone_or_joined c (x ∷ xs) f = joined f (x ∷ xs)

abbrev pub expand : (ℕ → Facts) → Bool → ℕ → ℕ → Option (List ℕ)
expand F compat zero c = None
expand F compat (suc n) c = alone_or_joined c (counted F compat c) (expand F compat n)

unfoldable pub full : (ℕ → Facts) → Bool → ℕ → Option (List ℕ)
full F compat c = expand F compat 8 c

abbrev pub judged : Option (List ℕ) → Result (List ℕ) Rule
judged None = Err V2
judged (Some points) = if nat_lt 64 (length points) then Err V3 else Ok points

abbrev pub expansion : (ℕ → Facts) → Bool → ℕ → Result (List ℕ) Rule
expansion F compat c = judged (full F compat c)

abbrev pub rule_of : FormStop → Option Rule
rule_of (Bad rule) = Some rule
rule_of Memory = None

abbrev pub FormAnswers : {A : Type 0} → Result A FormStop → Result A Rule → Type 0
FormAnswers result value = AnswersBy (λ kept. kept) rule_of result value
