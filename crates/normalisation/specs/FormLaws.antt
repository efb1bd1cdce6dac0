-- The laws of the normalisation forms. UAX #15, section 1.2; The Unicode Standard, section 3.11.
-- HasExpansion F compat c       c breaks neither V2 nor V3 for that kind of mapping
-- HaveExpansions F compat       no code point breaks them; in a valid release this holds for both kinds
-- NfdTwice, NfkdTwice           NFD of NFD, and NFKD of NFKD, is that list
-- NfcTwice, NfkcTwice           so is NFC of NFC, and NFKC of NFKC, where each code point has its expansion
-- NfdOfNfc, NfkdOfNfkc          the NFD of the NFC of a list is its NFD, and the NFKD of its NFKC is its NFKD, where each code
--                               point has its expansion
-- NfcMembersStay, NfkcMembersStay   the NFC of each member alone of an NFC is that member, and so for NFKC, where each code point has
--                               its expansion
-- FormsAreTogether              the four forms of a list are together exactly where each of them is there
-- PlainForms                    each form of a code point without a mapping is that code point
use Rattle.std.specs.Prelude.{◌≡◌, ℕ, ◌<◌, Bool, true, false, List, [], ◌∷◌, Ok, ◌↔◌, All}
use Rattle.ucd_points.specs.Limits.{point_count}
use Rattle.ucd_facts.specs.Facts.{Facts}
use Rattle.ucd_facts.specs.declared.decomposition.Kind.TheVariants.{Plain}
use Rattle.ucd_facts.specs.Expansion.{expansion}
use Rattle.ucd_model.specs.Forms.{nfd, nfc, nfkd, nfkc}
use Rattle.ucd_facts.specs.declared.form.Form.{Form}
use Rattle.normalisation.specs.FormValues.{AreForms, form_of, four_forms}
use Rattle.normalisation.specs.declared.all_forms.Forms.{Forms}

abbrev pub HasExpansion : (ℕ → Facts) → Bool → ℕ → Type 0
HasExpansion F compat c = (points : List ℕ) × (expansion F compat c ≡ Ok points)

abbrev pub HaveExpansions : (ℕ → Facts) → Bool → Type 0
HaveExpansions F compat = (c : ℕ) → c < point_count → HasExpansion F compat c

abbrev pub NfdTwice : Type 0
NfdTwice = (F : ℕ → Facts) (s t : List ℕ) → nfd F s ≡ Ok t → nfd F t ≡ Ok t

abbrev pub NfkdTwice : Type 0
NfkdTwice = (F : ℕ → Facts) (s t : List ℕ) → nfkd F s ≡ Ok t → nfkd F t ≡ Ok t

abbrev pub NfcTwice : Type 0
NfcTwice = (F : ℕ → Facts) (s t : List ℕ) → HaveExpansions F false → nfc F s ≡ Ok t → nfc F t ≡ Ok t

abbrev pub NfkcTwice : Type 0
NfkcTwice = (F : ℕ → Facts) (s t : List ℕ) → HaveExpansions F true → nfkc F s ≡ Ok t → nfkc F t ≡ Ok t

abbrev pub NfdOfNfc : Type 0
NfdOfNfc = (F : ℕ → Facts) (s t : List ℕ) → HaveExpansions F false → nfc F s ≡ Ok t → nfd F t ≡ nfd F s

abbrev pub NfkdOfNfkc : Type 0
NfkdOfNfkc = (F : ℕ → Facts) (s t : List ℕ) → HaveExpansions F true → nfkc F s ≡ Ok t → nfkd F t ≡ nfkd F s

abbrev pub NfcMembersStay : Type 0
NfcMembersStay = (F : ℕ → Facts) (s t : List ℕ) → HaveExpansions F false → nfc F s ≡ Ok t → All (λ x. nfc F (x ∷ []) ≡ Ok (x ∷ [])) t

abbrev pub NfkcMembersStay : Type 0
NfkcMembersStay = (F : ℕ → Facts) (s t : List ℕ) → HaveExpansions F true → nfkc F s ≡ Ok t → All (λ x. nfkc F (x ∷ []) ≡ Ok (x ∷ [])) t

abbrev pub FormsAreTogether : Type 0
FormsAreTogether = (F : ℕ → Facts) (s : List ℕ) (forms : Forms) → (four_forms F s ≡ Ok forms) ↔ AreForms F s forms

abbrev pub PlainForms : Type 0
PlainForms = (F : ℕ → Facts) (c : ℕ) → (F c).kind ≡ Plain → (form : Form) → form_of F form (c ∷ []) ≡ Ok (c ∷ [])
