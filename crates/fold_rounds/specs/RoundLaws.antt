-- The laws of the folding rounds, by the full or the simple folding. The Unicode Standard, section 3.13, toNFKC_Casefold.
-- IsFixed folding F c i s   s is what i rounds from c alone give, i is at most 7, and one more round leaves s as it is
-- FixedIsFound      such a list is the one that is found, whether or not fewer rounds reach it
-- FoundIsFixed      and no other list is found
use Rattle.std.specs.Prelude.{◌≡◌, ℕ, ◌<◌, List, [], ◌∷◌, Some}
use Rattle.ucd_facts.specs.Facts.{Facts}
use Rattle.ucd_model.specs.FoldRounds.{round, rounds, casefold}
use Rattle.ucd_facts.specs.declared.folding.Folding.{Folding}

pub record IsFixed (folding : Folding) (F : ℕ → Facts) (c i : ℕ) (s : List ℕ) : Type 0 where
  pub few : i < 8
  pub reached : rounds folding F i (c ∷ []) ≡ Some s
  pub stays : round folding F s ≡ Some s

abbrev pub FixedIsFound : Type 0
FixedIsFound = (folding : Folding) (F : ℕ → Facts) (c i : ℕ) (s : List ℕ) → IsFixed folding F c i s → casefold folding F c ≡ Some s

abbrev pub FoundIsFixed : Type 0
FoundIsFixed = (folding : Folding) (F : ℕ → Facts) (c : ℕ) (s : List ℕ) → casefold folding F c ≡ Some s → (i : ℕ) × IsFixed folding F c i s
