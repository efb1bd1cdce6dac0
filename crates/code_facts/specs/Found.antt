-- The images that rows of CaseFolding.txt and SpecialCasing.txt give.
--
-- first_some a b            a where it is there, else b
-- passes case c row         the row gives c an image of this case; a row with conditions does not
-- image_in case row         the image that the row gives; None where there is no row, and for a row of another file
-- image_by case rows c      the image that the first row gives that passes; None where none does
-- image_of_row case c row   the image that this row gives c; None where it does not pass
-- given_to c pair           what a pair of a code point and its image gives to c; None where it is of another point, or no pair
--                           is there
use Rattle.std.specs.Prelude.{ℕ, Bool, List, Option, Some, None, ◌==◌, find, if◌then◌else◌}
use Rattle.std.specs.Option.{option_map}
use Rattle.ucd_facts.specs.Facts.{is_folding_of, folding_in, is_casing_of, casing_in}
use Rattle.ucd_facts.specs.declared.row.Row.{Row}
use Rattle.code_facts.specs.declared.case.Case.{Case}
use Rattle.code_facts.specs.declared.case.Case.TheVariants.{Fold, Lower, Title, Upper}

abbrev pub first_some : Option (List ℕ) → Option (List ℕ) → Option (List ℕ)
first_some (Some x) other = Some x
first_some None other = other

abbrev pub passes : Case → ℕ → Row → Bool
passes (Fold status) c row = is_folding_of status c row
passes Lower c row = is_casing_of c row
passes Title c row = is_casing_of c row
passes Upper c row = is_casing_of c row

abbrev pub image_in : Case → Option Row → Option (List ℕ)
image_in (Fold status) row = folding_in row
image_in Lower row = option_map (λ r. r.lower) (casing_in row)
image_in Title row = option_map (λ r. r.title) (casing_in row)
image_in Upper row = option_map (λ r. r.upper) (casing_in row)

abbrev pub image_by : Case → List Row → ℕ → Option (List ℕ)
image_by case rows c = image_in case (find (passes case c) rows)

abbrev pub image_of_row : Case → ℕ → Row → Option (List ℕ)
image_of_row case c row = if passes case c row then image_in case (Some row) else None

abbrev pub given_to : ℕ → Option (ℕ × List ℕ) → Option (List ℕ)
given_to c (Some pair) = if pair.0 == c then Some pair.1 else None
given_to c None = None
