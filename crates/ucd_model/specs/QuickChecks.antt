-- Exclusion from composition, and the quick checks of the normalisation forms. UAX #15, sections 5 and 9; UAX #44, 5.7.5.
--
-- F is the facts of each code point.
-- excludes_mapping F c m     a canonical mapping m of c that composition never gives back: it has one member, or two of which c
--                            or the first has another class than 0; false for every other number of members
-- full_exclusion F c         c is excluded, or its canonical mapping is such a one
-- form_of F form s           the form of a list
-- quick_composed F c s       the quick check of NFC or NFKC of c, where s is that form of c alone
-- quick_given F form c s     the quick check of c, where s is the form of c alone. NFD and NFKD: No where c has a canonical
--                            mapping, or a mapping of any kind. NFC and NFKC: No where s is not c alone; else Maybe where c is
--                            the second member of a primary composite's mapping; else Yes
-- quick_where value r        the value of the list r; where r is a rule, that rule
-- quick F form c             the same, or the rule for which c alone has no form
-- quick_or_yes r             the value, and Yes where there is none
use Rattle.std.specs.Prelude.{ℕ, Bool, true, false, ◌&&◌, ◌||◌, not, List, [], ◌∷◌, Result, Ok, Err, ◌==◌, if◌then◌else◌, bytes_eq}
use Rattle.ucd_facts.specs.Facts.{Facts, is_plain}
use Rattle.ucd_facts.specs.Composites.{is_canonical, second_of}
use Rattle.ucd_model.specs.Forms.{nfd, nfc, nfkd, nfkc}
use Rattle.ucd_facts.specs.declared.form.Bad.{Bad as Rule}
use Rattle.ucd_facts.specs.declared.form.Form.{Form}
use Rattle.ucd_facts.specs.declared.form.Form.TheVariants.{Nfd, Nfc, Nfkd, Nfkc}
use Rattle.ucd_facts.specs.declared.form.Quick.{Quick}
use Rattle.ucd_facts.specs.declared.form.Quick.TheVariants.{Yes, No, Maybe}

abbrev pub excludes_mapping : (ℕ → Facts) → ℕ → List ℕ → Bool
excludes_mapping F c (s ∷ []) = true
excludes_mapping F c (s ∷ y ∷ []) = not (((F c).class == 0) && ((F s).class == 0))
excludes_mapping F c _ = false

abbrev pub full_exclusion : (ℕ → Facts) → ℕ → Bool
full_exclusion F c = (F c).excluded || (is_canonical (F c).kind && excludes_mapping F c (F c).mapping)

abbrev pub form_of : (ℕ → Facts) → Form → List ℕ → Result (List ℕ) Rule
form_of F Nfd s = nfd F s
form_of F Nfc s = nfc F s
form_of F Nfkd s = nfkd F s
form_of F Nfkc s = nfkc F s

abbrev pub quick_composed : (ℕ → Facts) → ℕ → List ℕ → Quick
quick_composed F c s = if bytes_eq s (c ∷ []) then (if second_of F c then Maybe else Yes) else No

abbrev pub quick_given : (ℕ → Facts) → Form → ℕ → List ℕ → Quick
quick_given F Nfd c s = if is_canonical (F c).kind then No else Yes
quick_given F Nfkd c s = if is_plain (F c).kind then Yes else No
quick_given F Nfc c s = quick_composed F c s
quick_given F Nfkc c s = quick_composed F c s

abbrev pub quick_where : (List ℕ → Quick) → Result (List ℕ) Rule → Result Quick Rule
quick_where value (Ok s) = Ok (value s)
quick_where value (Err rule) = Err rule

abbrev pub quick : (ℕ → Facts) → Form → ℕ → Result Quick Rule
quick F form c = quick_where (quick_given F form c) (form_of F form (c ∷ []))

abbrev pub quick_or_yes : Result Quick Rule → Quick
quick_or_yes (Ok value) = value
quick_or_yes (Err rule) = Yes
