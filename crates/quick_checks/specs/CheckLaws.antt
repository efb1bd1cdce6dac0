-- The laws of the quick checks. UAX #15, section 9.
-- IsMapped F c      where c has a mapping of some kind, that has a member; in a release it always has
-- IsUnchanged F c   each of the four forms of c alone is c alone
-- KindsTellQuickChecks         the kind tells the quick checks of NFD and NFKD, whatever the form is
-- UnchangedIsYes    a point that no form changes, and that is no second member, has Yes in each quick check
-- NoIsOther         No means that the form of the point is another list
-- OthersAreSame     another value means that it is the point alone
use Rattle.std.specs.Prelude.{◌≡◌, ◌≢◌, ℕ, true, false, List, [], ◌∷◌, Ok}
use Rattle.ucd_facts.specs.Composites.{second_of}
use Rattle.ucd_facts.specs.Facts.{Facts, is_plain}
use Rattle.ucd_model.specs.QuickChecks.{form_of, quick_given, quick}
use Rattle.ucd_facts.specs.declared.form.Form.{Form}
use Rattle.ucd_facts.specs.declared.form.Form.TheVariants.{Nfd, Nfkd}
use Rattle.ucd_facts.specs.declared.form.Quick.{Quick}
use Rattle.ucd_facts.specs.declared.form.Quick.TheVariants.{Yes, No}
use Rattle.quick_checks.specs.Checks.{quick_decomposed}

abbrev pub IsMapped : (ℕ → Facts) → ℕ → Type 0
IsMapped F c = is_plain (F c).kind ≡ false → (F c).mapping ≢ []

abbrev pub IsUnchanged : (ℕ → Facts) → ℕ → Type 0
IsUnchanged F c = (form : Form) → form_of F form (c ∷ []) ≡ Ok (c ∷ [])

abbrev pub KindsTellQuickChecks : Type 0
KindsTellQuickChecks = (F : ℕ → Facts) (c : ℕ) (s : List ℕ) → (quick_given F Nfd c s ≡ quick_decomposed (F c).kind false) × (quick_given F Nfkd c s ≡ quick_decomposed (F c).kind true)

abbrev pub UnchangedIsYes : Type 0
UnchangedIsYes = (F : ℕ → Facts) (c : ℕ) → IsMapped F c → IsUnchanged F c → second_of F c ≡ false → (form : Form) → quick F form c ≡ Ok Yes

abbrev pub NoIsOther : Type 0
NoIsOther = (F : ℕ → Facts) (c : ℕ) (form : Form) → IsMapped F c → quick F form c ≡ Ok No → form_of F form (c ∷ []) ≢ Ok (c ∷ [])

abbrev pub OthersAreSame : Type 0
OthersAreSame = (F : ℕ → Facts) (c : ℕ) (form : Form) (value : Quick) → quick F form c ≡ Ok value → value ≢ No → form_of F form (c ∷ []) ≡ Ok (c ∷ [])
