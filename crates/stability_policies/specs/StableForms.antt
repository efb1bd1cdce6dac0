-- What an empty part of the report means for the forms. UAX #15, section 3.
--
-- O and N are the facts of each code point in the old release and in the new one.
-- Old O c             c is assigned in the old release
-- StaysNormal O N     what the forms read of the code points that were assigned stays, and no new composite stands over them; the
--                     members of their mappings were assigned too
-- SameForms O N s     the four forms of s are the same in both
-- FormsStay           so it is of each list of code points that were assigned
-- FoldsAlike O N      the foldings of single code points under NFKC stay
-- CaselessStays       then so do those of lists
-- IsRooted O N        what was assigned lies up to 10FFFF, with assigned members of its mapping; each primary composite was
--                     assigned, and each new one lies up to 10FFFF
-- all_kept a b c d e  none of the four policies is broken, and e holds
-- keeps_forms O N c   c breaks none of P01, P03, P04 and P05, and where it was assigned, its own full folding stays
use Rattle.std.specs.Prelude.{◌≡◌, ◌<◌, ℕ, Bool, true, false, ◌&&◌, ◌||◌, not, [], ◌∷◌, List, bytes_eq}
use Rattle.std.specs.List.{AllByRecursion as Each}
use Rattle.ucd_facts.specs.Composites.{primary}
use Rattle.ucd_facts.specs.Facts.{Facts}
use Rattle.ucd_model.specs.Forms.{nfd, nfc, nfkd, nfkc}
use Rattle.ucd_points.specs.Limits.{point_count}
use Rattle.normalisation.specs.FormLaws.{HaveExpansions}
use Rattle.stability_policies.specs.CaselessLists.{folding_of}
use Rattle.stability_policies.specs.Policies.{all_assigned, breaks, caseless, same_list, sort_of}
use Rattle.stability_policies.specs.declared.policy.Policy.TheVariants.{P01, P03, P04, P05}

abbrev pub Old : (ℕ → Facts) → ℕ → Type 0
Old O c = (O c).assigned ≡ true

pub record StaysNormal (O N : ℕ → Facts) : Type 0 where
  pub class : (c : ℕ) → Old O c → (O c).class ≡ (N c).class
  pub sort : (c : ℕ) → Old O c → sort_of (O c).kind ≡ sort_of (N c).kind
  pub mapping : (c : ℕ) → Old O c → (O c).mapping ≡ (N c).mapping
  pub members : (c : ℕ) → Old O c → Each (Old O) (O c).mapping
  pub composed : (c : ℕ) → primary O c ≡ true → (Old O c) × (primary N c ≡ true)
  pub composing : (c : ℕ) → primary N c ≡ true → primary O c ≡ false → all_assigned O (N c).mapping ≡ false

pub record SameForms (O N : ℕ → Facts) (s : List ℕ) : Type 0 where
  pub nfd : nfd O s ≡ nfd N s
  pub nfc : nfc O s ≡ nfc N s
  pub nfkd : nfkd O s ≡ nfkd N s
  pub nfkc : nfkc O s ≡ nfkc N s

abbrev pub FormsStay : Type 0
FormsStay = (O N : ℕ → Facts) → StaysNormal O N → (s : List ℕ) → Each (Old O) s → SameForms O N s

abbrev pub FoldsAlike : (ℕ → Facts) → (ℕ → Facts) → Type 0
FoldsAlike O N = (c : ℕ) → Old O c → same_list (caseless O (c ∷ [])) (caseless N (c ∷ [])) ≡ true

abbrev pub CaselessStays : Type 0
CaselessStays = (O N : ℕ → Facts) → StaysNormal O N → HaveExpansions O true → FoldsAlike O N → (s : List ℕ) → Each (Old O) s → caseless O s ≡ caseless N s

pub record IsRooted (O N : ℕ → Facts) : Type 0 where
  pub within : (c : ℕ) → Old O c → c < point_count
  pub members : (c : ℕ) → Old O c → Each (Old O) (O c).mapping
  pub composites : (c : ℕ) → primary O c ≡ true → Old O c
  pub later : (c : ℕ) → primary N c ≡ true → c < point_count

abbrev pub all_kept : Bool → Bool → Bool → Bool → Bool → Bool
all_kept a b c d e = not a && (not b && (not c && (not d && e)))

abbrev pub keeps_forms : (ℕ → Facts) → (ℕ → Facts) → ℕ → Bool
keeps_forms O N c =
    all_kept (breaks P01 O N c) (breaks P03 O N c) (breaks P04 O N c) (breaks P05 O N c) (not (O c).assigned || bytes_eq (folding_of c (O c)) (folding_of c (N c)))
