-- NFKC_Casefold, by rounds of folding. The Unicode Standard, section 3.13, toNFKC_Casefold; UAX #44, table 9.
--
-- F is the facts of each code point, and `folding` the full or the simple folding. NFKC_Casefold is made by the full folding.
-- drop_ignorable F s           s without its Default_Ignorable_Code_Points
-- short s                      s, where it has at most 255 points (the longest result of a real release has 18); else None
-- short_form r                 the list r where it is short; None where it is too long, and where r is a rule
-- short_nfkc F s               NFKC of s; None where there is none, and where it is too long
-- short_fold folding F s       the folding of s without ignorable points; None where that is too long
-- round folding F s            a round: the NFKC of the short_fold of the NFKC of s; None where one of the three is
-- rounds folding F n s         n rounds one after the other, from s
-- is_list s r                  r is the list s; never where it is None
-- is_fixed folding F r         r is a list that one more round leaves as it is; never where it is None
-- is_last folding F c i        the list after i rounds from c alone is there, and one more round leaves it as it is
-- casefold folding F c         the list after the first such i from 0 to 7 (real releases need 0 or 1); None where there is no
--                              such i
-- image_or_rule c r            the image of c under the list r; V5 where there is none
-- casefold_image folding F c   the image of c under that list; V5 where there is none
-- image_or_same r              the image, and Same where there is a rule in its place
use Rattle.std.specs.Prelude.{ℕ, zero, suc, Bool, false, not, List, [], ◌∷◌, length, nat_le, Option, Some, None, Result, Ok, Err, filter, find, if◌then◌else◌, option_and_then, bytes_eq}
use Rattle.std.specs.List.{range_with_len}
use Rattle.ucd_model.specs.Casing.{folded}
use Rattle.ucd_facts.specs.Facts.{Facts, image}
use Rattle.ucd_facts.specs.declared.image.Image.{Image}
use Rattle.ucd_facts.specs.declared.image.Image.TheVariants.{Same}
use Rattle.ucd_model.specs.Forms.{nfkc}
use Rattle.ucd_facts.specs.Predicates.{default_ignorable}
use Rattle.ucd_facts.specs.declared.folding.Folding.{Folding}
use Rattle.ucd_facts.specs.declared.form.Bad.{Bad as Rule}
use Rattle.ucd_facts.specs.declared.form.Bad.TheVariants.{V5}

abbrev pub drop_ignorable : (ℕ → Facts) → List ℕ → List ℕ
drop_ignorable F s = filter (λ x. not (default_ignorable x (F x))) s

abbrev pub short : List ℕ → Option (List ℕ)
short s = if nat_le (length s) 255 then Some s else None

abbrev pub short_form : Result (List ℕ) Rule → Option (List ℕ)
short_form (Ok s) = short s
short_form (Err rule) = None

abbrev pub short_nfkc : (ℕ → Facts) → List ℕ → Option (List ℕ)
short_nfkc F s = short_form (nfkc F s)

abbrev pub short_fold : Folding → (ℕ → Facts) → List ℕ → Option (List ℕ)
short_fold folding F s = short (drop_ignorable F (folded folding F s))

abbrev pub round : Folding → (ℕ → Facts) → List ℕ → Option (List ℕ)
round folding F s = option_and_then (short_nfkc F) (option_and_then (short_fold folding F) (short_nfkc F s))

abbrev pub rounds : Folding → (ℕ → Facts) → ℕ → List ℕ → Option (List ℕ)
rounds folding F zero s = Some s
rounds folding F (suc n) s = option_and_then (round folding F) (rounds folding F n s)

abbrev pub is_list : List ℕ → Option (List ℕ) → Bool
is_list s (Some t) = bytes_eq t s
is_list s None = false

abbrev pub is_fixed : Folding → (ℕ → Facts) → Option (List ℕ) → Bool
is_fixed folding F (Some s) = is_list s (round folding F s)
is_fixed folding F None = false

abbrev pub is_last : Folding → (ℕ → Facts) → ℕ → ℕ → Bool
is_last folding F c i = is_fixed folding F (rounds folding F i (c ∷ []))

abbrev pub casefold : Folding → (ℕ → Facts) → ℕ → Option (List ℕ)
casefold folding F c = option_and_then (λ i. rounds folding F i (c ∷ [])) (find (is_last folding F c) (range_with_len 0 8))

abbrev pub image_or_rule : ℕ → Option (List ℕ) → Result Image Rule
image_or_rule c (Some s) = Ok (image c s)
image_or_rule c None = Err V5

abbrev pub casefold_image : Folding → (ℕ → Facts) → ℕ → Result Image Rule
casefold_image folding F c = image_or_rule c (casefold folding F c)

abbrev pub image_or_same : Result Image Rule → Image
image_or_same (Ok i) = i
image_or_same (Err rule) = Same
