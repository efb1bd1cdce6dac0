-- Case mappings and foldings of lists of code points, without context. The Unicode Standard, section 3.13, toUppercase to
-- toCasefold, and the properties of changes by them, D139 to D143; UAX #44, section 5.3.
--
-- F is the facts of each code point.
-- lower_of upper_of title_of fold_of F c   the full mapping of c
-- lower upper fold F s     the full mappings of the members, joined in order: toLowercase, toUppercase and toCasefold
-- folded folding F s       the folded list: by the full folding `fold F s`; by the simple one the simple fold of each member in
--                          its place
-- title F s                toTitlecase: the members before the first Cased one stay; that one has its title mapping, and each later
--                          member its lower mapping
-- changes map s            the mapped list is not s
-- lowers uppers titles folds F s    whether the list changes when it is mapped so: not D139, D140, D141, D142
-- casemaps F s             D143: whether it changes when it is lowercased, uppercased or titlecased
-- where_form p r           p of the list r; false where r is a rule
-- changes_when test F c    the test of the canonical decomposition of c
use Rattle.std.specs.Prelude.{ℕ, Bool, false, ◌||◌, not, List, [], ◌∷◌, ◌++◌, Result, Ok, Err, map, if◌then◌else◌, flat_map, bytes_eq}
use Rattle.ucd_facts.specs.Facts.{Facts, image_points}
use Rattle.ucd_model.specs.Forms.{nfd}
use Rattle.ucd_facts.specs.Predicates.{cased}
use Rattle.ucd_facts.specs.declared.folding.Folding.{Folding}
use Rattle.ucd_facts.specs.declared.folding.Folding.TheVariants.{Full, Simple}
use Rattle.ucd_facts.specs.declared.form.Bad.{Bad as Rule}

abbrev pub lower_of : (ℕ → Facts) → ℕ → List ℕ
lower_of F c = image_points c (F c).lower

abbrev pub upper_of : (ℕ → Facts) → ℕ → List ℕ
upper_of F c = image_points c (F c).upper

abbrev pub title_of : (ℕ → Facts) → ℕ → List ℕ
title_of F c = image_points c (F c).title

abbrev pub fold_of : (ℕ → Facts) → ℕ → List ℕ
fold_of F c = image_points c (F c).fold

abbrev pub lower : (ℕ → Facts) → List ℕ → List ℕ
lower F s = flat_map (lower_of F) s

abbrev pub upper : (ℕ → Facts) → List ℕ → List ℕ
upper F s = flat_map (upper_of F) s

abbrev pub fold : (ℕ → Facts) → List ℕ → List ℕ
fold F s = flat_map (fold_of F) s

abbrev pub folded : Folding → (ℕ → Facts) → List ℕ → List ℕ
folded Full F s = fold F s
folded Simple F s = map (λ x. (F x).simple_fold) s

abbrev pub title : (ℕ → Facts) → List ℕ → List ℕ
title F [] = []
title F (c ∷ s) = if cased (F c) then title_of F c ++ lower F s else c ∷ title F s

abbrev pub changes : (List ℕ → List ℕ) → List ℕ → Bool
changes map s = not (bytes_eq (map s) s)

abbrev pub lowers : (ℕ → Facts) → List ℕ → Bool
lowers F s = changes (lower F) s

abbrev pub uppers : (ℕ → Facts) → List ℕ → Bool
uppers F s = changes (upper F) s

abbrev pub titles : (ℕ → Facts) → List ℕ → Bool
titles F s = changes (title F) s

abbrev pub folds : (ℕ → Facts) → List ℕ → Bool
folds F s = changes (fold F) s

abbrev pub casemaps : (ℕ → Facts) → List ℕ → Bool
casemaps F s = lowers F s || (uppers F s || titles F s)

abbrev pub where_form : (List ℕ → Bool) → Result (List ℕ) Rule → Bool
where_form p (Ok s) = p s
where_form p (Err rule) = false

abbrev pub changes_when : ((ℕ → Facts) → List ℕ → Bool) → (ℕ → Facts) → ℕ → Bool
changes_when test F c = where_form (test F) (nfd F (c ∷ []))
