-- The normalisation forms by their names, and the four of them together.
-- form_of F form s      that form of s
-- HasList value         the value is a list
-- AreForms F s forms    the four forms of s
-- all_four d c kd kc    the forms D, C, KD and KC together; if one of them is a rule, the first such rule
-- four_forms F s        the four forms of s, or the rule of the first of NFD, NFC, NFKD and NFKC that is not there
use Rattle.std.specs.Prelude.{◌≡◌, ℕ, List, Result, Ok, Err}
use Rattle.ucd_facts.specs.Facts.{Facts}
use Rattle.ucd_model.specs.Forms.{nfd, nfc, nfkd, nfkc}
use Rattle.ucd_facts.specs.declared.form.Bad.{Bad as Rule}
use Rattle.ucd_facts.specs.declared.form.Form.{Form}
use Rattle.ucd_facts.specs.declared.form.Form.TheVariants.{Nfd, Nfc, Nfkd, Nfkc}
use Rattle.normalisation.specs.declared.all_forms.Forms.{Forms}

abbrev pub form_of : (ℕ → Facts) → Form → List ℕ → Result (List ℕ) Rule
form_of F Nfd s = nfd F s
form_of F Nfc s = nfc F s
form_of F Nfkd s = nfkd F s
form_of F Nfkc s = nfkc F s

abbrev pub HasList : Result (List ℕ) Rule → Type 0
HasList value = (points : List ℕ) × (value ≡ Ok points)

pub record AreForms (F : ℕ → Facts) (s : List ℕ) (forms : Forms) : Type 0 where
  pub nfd : nfd F s ≡ Ok forms.nfd
  pub nfc : nfc F s ≡ Ok forms.nfc
  pub nfkd : nfkd F s ≡ Ok forms.nfkd
  pub nfkc : nfkc F s ≡ Ok forms.nfkc

abbrev pub all_four : Result (List ℕ) Rule → Result (List ℕ) Rule → Result (List ℕ) Rule → Result (List ℕ) Rule → Result Forms Rule
all_four (Ok d) (Ok c) (Ok kd) (Ok kc) = Ok (record { nfd = d; nfc = c; nfkd = kd; nfkc = kc })
all_four (Ok d) (Ok c) (Ok kd) (Err rule) = Err rule
all_four (Ok d) (Ok c) (Err rule) kc = Err rule
all_four (Ok d) (Err rule) kd kc = Err rule
all_four (Err rule) c kd kc = Err rule

abbrev pub four_forms : (ℕ → Facts) → List ℕ → Result Forms Rule
four_forms F s = all_four (nfd F s) (nfc F s) (nfkd F s) (nfkc F s)
