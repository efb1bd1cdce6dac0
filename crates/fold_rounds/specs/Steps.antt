-- The steps of a round. The Unicode Standard, section 3.13, toNFKC_Casefold.
--
-- F is the facts of each code point, and `folding` the full or the simple folding.
-- folded_form folding F form   the round of a list, from its NFKC: the NFKC of the short_fold of that form; None where one of the
--                              two is
-- is_own c G                   a point c with the facts G is its own folding, by either folding
-- is_settled c G               it is, and it is not ignorable
-- has_composite F s            a member of s has a canonical mapping
-- is_one c i x                 the image i of c is the point x alone
-- is_alike c G                 the full folding of a point c with the facts G is its simple one alone
-- are_alike F s                this holds of each member of s, so both foldings give one folded list
-- IsCovered folding alike k    what is said of `folding` is said of k too: k is that folding, or `alike` holds
-- FoundBy folding lists r      r is the list that `lists` has for each folding that r covers; None if it has none for `folding`
-- FoldsAs folding F c r        r is the image of c by each folding that r covers, or V5 in its place, if there is none by
--                              `folding`; no claim if memory ran out
use Rattle.std.specs.Prelude.{◌≡◌, ℕ, Bool, true, ◌&&◌, ◌==◌, not, List, [], ◌∷◌, Option, Some, None, Result, Ok, Err, ◌⊎◌, option_and_then, bytes_eq}
use Rattle.std.specs.List.{list_all, list_any}
use Rattle.ucd_facts.specs.Composites.{is_canonical}
use Rattle.ucd_facts.specs.Facts.{Facts}
use Rattle.ucd_facts.specs.declared.image.Image.{Image}
use Rattle.ucd_facts.specs.declared.image.Image.TheVariants.{Same, To}
use Rattle.ucd_facts.specs.Expansion.{FormAnswers}
use Rattle.ucd_model.specs.FoldRounds.{short_nfkc, short_fold, casefold_image}
use Rattle.ucd_facts.specs.Predicates.{default_ignorable}
use Rattle.ucd_facts.specs.Unmapped.{is_same}
use Rattle.ucd_facts.specs.declared.folding.Folding.{Folding}
use Rattle.ucd_facts.specs.declared.form.FormStop.{FormStop}
use Rattle.fold_rounds.specs.declared.casefold.Folded.{Folded}
use Rattle.fold_rounds.specs.declared.rounds.Found.{Found}

abbrev pub folded_form : Folding → (ℕ → Facts) → List ℕ → Option (List ℕ)
folded_form folding F form = option_and_then (short_nfkc F) (short_fold folding F form)

abbrev pub is_own : ℕ → Facts → Bool
is_own c G = is_same G.fold && (G.simple_fold == c)

abbrev pub is_settled : ℕ → Facts → Bool
is_settled c G = is_own c G && not (default_ignorable c G)

abbrev pub has_composite : (ℕ → Facts) → List ℕ → Bool
has_composite F s = list_any (λ x. is_canonical (F x).kind) s

abbrev pub is_one : ℕ → Image → ℕ → Bool
is_one c Same x = x == c
is_one c (To points) x = bytes_eq points (x ∷ [])

abbrev pub is_alike : ℕ → Facts → Bool
is_alike c G = is_one c G.fold G.simple_fold

abbrev pub are_alike : (ℕ → Facts) → List ℕ → Bool
are_alike F s = list_all (λ x. is_alike x (F x)) s

abbrev pub IsCovered : Folding → Bool → Folding → Type 0
IsCovered folding alike k = (k ≡ folding) ⊎ (alike ≡ true)

abbrev pub FoundBy : Folding → (Folding → Option (List ℕ)) → Option Found → Type 0
FoundBy folding lists (Some found) = (k : Folding) → IsCovered folding found.alike k → lists k ≡ Some found.list
FoundBy folding lists None = lists folding ≡ None

abbrev pub FoldsAs : Folding → (ℕ → Facts) → ℕ → Result Folded FormStop → Type 0
FoldsAs folding F c (Ok found) = (k : Folding) → IsCovered folding found.alike k → casefold_image k F c ≡ Ok found.image
FoldsAs folding F c (Err stop) = FormAnswers {A = Image} (Err stop) (casefold_image folding F c)
