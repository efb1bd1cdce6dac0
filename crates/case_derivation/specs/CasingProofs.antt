-- Proofs of the laws of case mappings.
-- title_cased     the title of a list that begins with a Cased point is its title mapping, and the rest in lower case
-- title_uncased   that of a list that begins with another point is this point, and the title of the rest
-- casemaps_are_three, lower_of_joined, upper_of_joined, fold_of_joined, title_of_word,
-- title_without_cased   the laws of the same names
use Rattle.std.proofs.Common.{◌≡◌, ℕ, true, false, ◌||◌, List, [], ◌∷◌, ◌++◌, Result, Ok, Err, if◌then◌else◌, refl, ap, ◌∙◌}
use Rattle.std.proofs.lemmas.Grind.{flat_map-append}
use Rattle.std.specs.List.{list_any}
use Rattle.std.proofs.lemmas.Bool.{or_parts}
use Rattle.ucd_model.specs.Casing.{lower, title, title_of, lower_of, upper_of, fold_of, lowers, uppers, titles, casemaps, where_form}
use Rattle.ucd_facts.specs.Facts.{Facts}
use Rattle.ucd_model.specs.Forms.{nfd}
use Rattle.ucd_facts.specs.Predicates.{cased}
use Rattle.ucd_facts.specs.declared.form.Bad.{Bad}
use Rattle.case_derivation.specs.CasingLaws.{CasemappedIsAnyOfThree, LowerOfJoined, UpperOfJoined, FoldOfJoined, TitleOfWord, TitleWithoutCased}

three : (F : ℕ → Facts) (r : Result (List ℕ) Bad) → where_form (casemaps F) r ≡ (where_form (lowers F) r || (where_form (uppers F) r || where_form (titles F) r))
three F (Ok s) = refl
three F (Err rule) = refl

pub casemaps_are_three : CasemappedIsAnyOfThree
casemaps_are_three F c = three F (nfd F (c ∷ []))

pub lower_of_joined : LowerOfJoined
lower_of_joined F s t = flat_map-append (lower_of F) s t

pub upper_of_joined : UpperOfJoined
upper_of_joined F s t = flat_map-append (upper_of F) s t

pub fold_of_joined : FoldOfJoined
fold_of_joined F s t = flat_map-append (fold_of F) s t

pub title_cased : (F : ℕ → Facts) (c : ℕ) (s : List ℕ) → cased (F c) ≡ true → title F (c ∷ s) ≡ title_of F c ++ lower F s
title_cased F c s e = ap (λ b. if b then title_of F c ++ lower F s else c ∷ title F s) e

pub title_uncased : (F : ℕ → Facts) (c : ℕ) (s : List ℕ) → cased (F c) ≡ false → title F (c ∷ s) ≡ c ∷ title F s
title_uncased F c s e = ap (λ b. if b then title_of F c ++ lower F s else c ∷ title F s) e

pub title_of_word : TitleOfWord
title_of_word F [] rest c none is = title_cased F c rest is
title_of_word F (x ∷ before) rest c none is =
    let both = or_parts (cased (F x)) (list_any (λ y. cased (F y)) before) none in
    title_uncased F x (before ++ c ∷ rest) both.0 ∙ ap (λ xs. x ∷ xs) (title_of_word F before rest c both.1 is)

pub title_without_cased : TitleWithoutCased
title_without_cased F [] none = refl
title_without_cased F (x ∷ s) none =
    let both = or_parts (cased (F x)) (list_any (λ y. cased (F y)) s) none in
    title_uncased F x s both.0 ∙ ap (λ xs. x ∷ xs) (title_without_cased F s both.1)
