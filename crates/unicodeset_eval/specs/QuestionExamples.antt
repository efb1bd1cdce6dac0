-- Answers of UnicodeSets. The letters a to z are 1 to 26 here, so that lists stay short.
-- letters cs              the bracket set of these characters
-- within lo hi            the characters from lo to hi
-- known                   a property `gc` with the value `Lu`, which stands alone too
-- told t                  the answer below 30, where a test holds of 3 and 4
use Rattle.std.proofs.Common.{◌≡◌, ℕ, ◌==◌, ◌||◌, if◌then◌else◌, List, [], ◌∷◌, map, Some, None, Result, Ok, Err, codes, refl, bytes_eq}
use Rattle.property_aliases.specs.declared.property.Property.TheVariants.{Category as CategoryOf}
use Rattle.property_aliases.specs.declared.property.Test.TheVariants.{Category}
use Rattle.ucd_points.specs.Bounds.{Bounds}
use Rattle.ucd_facts.specs.declared.category.Category.TheVariants.{Lu}
use Rattle.unicodeset_eval.specs.Questions.{NameFault, fault, Names, members, spans_of}
use Rattle.unicodeset_eval.specs.declared.stop.NameRule.TheVariants.{S8, S9}
use Rattle.unicodeset_parser.specs.Trees.{Tree, Step, chars, named, valued, complement, bracket, no_steps, step_then, steps_of}
use Rattle.unicodeset_parser.specs.declared.expr.Join.TheVariants.{Union, Meet, Minus}

abbrev range : ℕ → ℕ → Bounds
range lo hi = record { lo = lo; hi = hi }

abbrev joined_letter : ℕ → Step
joined_letter c = record { join = Union; tree = chars (range c c) }

abbrev letters : List ℕ → Tree
letters cs = bracket (steps_of (map joined_letter cs))

abbrev within : ℕ → ℕ → Tree
within lo hi = bracket (step_then Union (chars (range lo hi)) no_steps)

abbrev known : Names
known = record {
  property = λ name. if bytes_eq name (codes "gc") then Some CategoryOf else None;
  value = λ p name. if bytes_eq name (codes "Lu") then Some (Category Lu) else None;
  lone = λ name. if bytes_eq name (codes "Lu") then Some (Category Lu) else None;
}

abbrev told : Tree → Result (List Bounds) NameFault
told t = spans_of 30 (members known (λ test c. c == 3 || c == 4) t)

-- UTS #35: [[ace][bdf] - [abc][def]] is [def]
left_to_right : told (bracket (step_then Union (letters (1 ∷ 3 ∷ 5 ∷ [])) (step_then Union (letters (2 ∷ 4 ∷ 6 ∷ [])) (step_then Minus (letters (1 ∷ 2 ∷ 3 ∷ [])) (step_then Union (letters (4 ∷ 5 ∷ 6 ∷ [])) no_steps)))))
    ≡ Ok (range 4 6 ∷ [])
left_to_right = refl

-- [[a-z]-[aeiou]&[b-d]] is [b-d]
minus_binds_as_meet : told (bracket (step_then Union (within 1 26) (step_then Minus (letters (1 ∷ 5 ∷ 9 ∷ 15 ∷ 21 ∷ [])) (step_then Meet (within 2 4) no_steps)))) ≡ Ok (range 2 4 ∷ [])
minus_binds_as_meet = refl

-- UTS #35: [[:^lu:]-[a-z]] has all others
complements : told (bracket (step_then Union (complement (named (codes "Lu") 2)) (step_then Minus (within 5 26) no_steps))) ≡ Ok (range 0 2 ∷ range 27 29 ∷ [])
complements = refl

-- [^\p{gc=Lu}] and []
complement_of_a_value : told (complement (bracket (step_then Union (valued (codes "gc") (codes "Lu") 2) no_steps))) ≡ Ok (range 0 2 ∷ range 5 29 ∷ [])
complement_of_a_value = refl

empty : told (bracket no_steps) ≡ Ok []
empty = refl

-- [\p{gc=x}\p{y}], [\p{y=Lu}\p{gc=x}] and [\p{Lu}[^\p{y}]\p{gc=x}]: the first name without meaning
value_first : told (bracket (step_then Union (valued (codes "gc") (codes "x") 1) (step_then Union (named (codes "y") 9) no_steps))) ≡ Err (fault S9 1)
value_first = refl

property_first : told (bracket (step_then Union (valued (codes "y") (codes "Lu") 1) (step_then Union (valued (codes "gc") (codes "x") 10) no_steps))) ≡ Err (fault S8 1)
property_first = refl

lone_first : told (bracket (step_then Union (named (codes "Lu") 1) (step_then Minus (complement (bracket (step_then Union (named (codes "y") 9) no_steps))) (step_then Union (valued (codes "gc") (codes "x") 15) no_steps))))
    ≡ Err (fault S8 9)
lone_first = refl
