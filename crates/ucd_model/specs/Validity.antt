-- The rules that every code point of a valid release keeps.
--
-- F is the facts of each code point.
-- mappings c G             of a point c with the facts G: its decomposition mapping, and what each simple and full case mapping
--                          and folding gives
-- lacks_row F c m          a member of the mapping m of c has no row in UnicodeData.txt; c alone is not looked at
-- lacks_a_row F c          V1: some mapping of c does
-- is_none r                there are no points
-- is_endless F c           V2: the canonical or the compatibility expansion of c needs a chain of eight mappings or more
-- is_long r                more than 64 points; never where there are none
-- is_too_long F c          V3: one of them has more than 64 points
-- composite_of F m         the primary composite of a mapping of two members; None of every other mapping
-- is_other c o             there is a composite o, and it is not c
-- is_hidden F c            V4: c is a primary composite, and a lesser primary composite has the same mapping
-- is_unfolded F c          V5: the rounds from c by the full or by the simple folding reach no last one
-- broken F c               the first of these rules that c breaks; None where it breaks none
-- broken_at F c            c with the first rule that it breaks; None where there is no c, and where it breaks none
-- first_broken_below n F   the least point below n that breaks a rule, with its first rule
-- first_broken F           the same, among all points
use Rattle.std.specs.Prelude.{ℕ, Bool, true, false, ◌&&◌, ◌||◌, not, List, [], ◌∷◌, Option, Some, None, is_some, length, nat_lt, ◌==◌, if◌then◌else◌, find, option_map, bytes_eq}
use Rattle.std.specs.List.{list_any, range_with_len}
use Rattle.ucd_facts.specs.Composites.{primary, pair_of}
use Rattle.ucd_facts.specs.Expansion.{full}
use Rattle.ucd_points.specs.Limits.{point_count}
use Rattle.ucd_facts.specs.Facts.{Facts, image_points}
use Rattle.ucd_model.specs.FoldRounds.{casefold}
use Rattle.ucd_facts.specs.declared.folding.Folding.TheVariants.{Full, Simple}
use Rattle.ucd_facts.specs.declared.form.Bad.{Bad as Rule}
use Rattle.ucd_facts.specs.declared.form.Bad.TheVariants.{V1, V2, V3, V4, V5}
use Rattle.ucd_facts.specs.declared.form.Broken.{Broken}

abbrev pub mappings : ℕ → Facts → List (List ℕ)
mappings c G =
    G.mapping ∷ (G.simple_upper ∷ []) ∷ (G.simple_lower ∷ []) ∷ (G.simple_title ∷ []) ∷ (G.simple_fold ∷ [])
    ∷ image_points c G.upper ∷ image_points c G.lower ∷ image_points c G.title ∷ image_points c G.fold ∷ []

abbrev pub lacks_row : (ℕ → Facts) → ℕ → List ℕ → Bool
lacks_row F c m = not (bytes_eq m (c ∷ [])) && list_any (λ x. not (F x).assigned) m

abbrev pub lacks_a_row : (ℕ → Facts) → ℕ → Bool
lacks_a_row F c = list_any (lacks_row F c) (mappings c (F c))

abbrev pub is_none : Option (List ℕ) → Bool
is_none None = true
is_none (Some points) = false

abbrev pub is_endless : (ℕ → Facts) → ℕ → Bool
is_endless F c = is_none (full F false c) || is_none (full F true c)

abbrev pub is_long : Option (List ℕ) → Bool
is_long None = false
is_long (Some points) = nat_lt 64 (length points)

abbrev pub is_too_long : (ℕ → Facts) → ℕ → Bool
is_too_long F c = is_long (full F false c) || is_long (full F true c)

abbrev pub composite_of : (ℕ → Facts) → List ℕ → Option ℕ
composite_of F (s ∷ y ∷ []) = pair_of F s y
composite_of F _ = None

abbrev pub is_other : ℕ → Option ℕ → Bool
is_other c (Some q) = not (q == c)
is_other c None = false

abbrev pub is_hidden : (ℕ → Facts) → ℕ → Bool
is_hidden F c = primary F c && is_other c (composite_of F (F c).mapping)

abbrev pub is_unfolded : (ℕ → Facts) → ℕ → Bool
is_unfolded F c = is_none (casefold Full F c) || is_none (casefold Simple F c)

unfoldable pub broken : (ℕ → Facts) → ℕ → Option Rule
broken F c =
    if lacks_a_row F c then Some V1
    else (if is_endless F c then Some V2
    else (if is_too_long F c then Some V3
    else (if is_hidden F c then Some V4
    else (if is_unfolded F c then Some V5 else None))))

abbrev pub broken_at : (ℕ → Facts) → Option ℕ → Option Broken
broken_at F None = None
broken_at F (Some c) = option_map (λ rule. record { point = c; rule = rule }) (broken F c)

abbrev pub first_broken_below : ℕ → (ℕ → Facts) → Option Broken
first_broken_below n F = broken_at F (find (λ c. is_some (broken F c)) (range_with_len 0 n))

unfoldable pub first_broken : (ℕ → Facts) → Option Broken
first_broken F = first_broken_below point_count F
