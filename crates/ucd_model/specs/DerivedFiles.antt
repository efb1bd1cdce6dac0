-- The derived files, over the records of the code points. The files, properties and values are those of UAX #44,
-- section 5.3; their text is this project's own.
-- Section                    a name, and the label of a record in it: None for the default value, which is not listed
-- listed value               the label ` ; VALUE`
-- binary_label name b        the label of a point that has the property of that name, where b holds
-- core_listing p             the points that have the core property p, each with its name
-- category_label k           the two letters of the category; None for Cn
-- category_listing           General_Category by its two letters; default Cn
-- class_label n              the class in decimal; None for 0
-- class_listing              Canonical_Combining_Class in decimal; default 0
-- kind_label kind            `canonical`, or the tag without its brackets; None for Plain
-- type_listing               Decomposition_Type by that label; default none
-- exclusion_listing          the points with Full_Composition_Exclusion
-- quick_label name value     the name with N or M; None for Yes
-- quick_listing name value   the points whose quick check is No or Maybe, with the name and N or M; default Yes
-- image_text points          a `;` and the mapping behind it; nothing behind it where the mapping is empty
-- casefold_label name i      the name and the mapping; None for Same
-- casefold_listing           NFKC_CF, with the name and the mapping, which may be empty; default the point itself
-- simple_casefold_listing    NFKC_SCF, in the same way
-- changes_listing            the points with Changes_When_NFKC_Casefolded
-- normalization_listings     the sections of DerivedNormalizationProps.txt: exclusion, the checks of NFD, NFC, NFKD and NFKC,
--                            NFKC_CF, NFKC_SCF, changes
-- file_sections file         the sections of a file, in order
-- section_of n R s           the text of a section, over the records R of the points below n
-- derived_text n file R      the text of a file
use Rattle.std.specs.Prelude.{ℕ, Bool, List, [], ◌∷◌, ◌++◌, Some, None, map, ◌==◌, if◌then◌else◌, codes, flat_map, decimal}
use Rattle.ucd_facts.specs.Names.{core_name, category_code, tag_name}
use Rattle.ucd_facts.specs.Predicates.{is_one_of, core_properties}
use Rattle.ucd_model.specs.Records.{Record}
use Rattle.ucd_model.specs.Labels.{Label}
use Rattle.ucd_model.specs.DerivedText.{section_text}
use Rattle.ucd_facts.specs.RowTexts.{mapping_text}
use Rattle.ucd_facts.specs.declared.form.Quick.{Quick}
use Rattle.ucd_facts.specs.declared.form.Quick.TheVariants.{Yes, No, Maybe}
use Rattle.ucd_facts.specs.declared.image.Image.{Image}
use Rattle.ucd_facts.specs.declared.image.Image.TheVariants.{Same, To}
use Rattle.ucd_facts.specs.declared.category.Category.{Category}
use Rattle.ucd_facts.specs.declared.category.Category.TheVariants.{Cn}
use Rattle.ucd_facts.specs.declared.decomposition.Kind.{Kind}
use Rattle.ucd_facts.specs.declared.decomposition.Kind.TheVariants.{Plain, Canonical, Compat}
use Rattle.ucd_facts.specs.declared.property.Core.{Core}
use Rattle.ucd_facts.specs.declared.files.DerivedFile.{DerivedFile}
use Rattle.ucd_facts.specs.declared.files.DerivedFile.TheVariants.{CoreProperties, NormalizationProps, GeneralCategory, CombiningClass, DecompositionType}

pub record Section : Type 0 where
  pub name : List ℕ
  pub label : Record → Label

abbrev pub listed : List ℕ → Label
listed value = Some (codes " ; " ++ value)

abbrev pub binary_label : List ℕ → Bool → Label
binary_label name b = if b then listed name else None

abbrev pub core_listing : Core → Section
core_listing core = record { name = core_name core; label = λ R. binary_label (core_name core) (R.core core) }

abbrev pub category_label : Category → Label
category_label category = if is_one_of (Cn ∷ []) category then None else listed (category_code category)

abbrev pub category_listing : Section
category_listing = record { name = codes "General_Category"; label = λ R. category_label R.category }

abbrev pub class_label : ℕ → Label
class_label class = if class == 0 then None else listed (decimal class)

abbrev pub class_listing : Section
class_listing = record { name = codes "Canonical_Combining_Class"; label = λ R. class_label R.class }

abbrev pub kind_label : Kind → Label
kind_label Plain = None
kind_label Canonical = listed (codes "canonical")
kind_label (Compat tag) = listed (tag_name tag)

abbrev pub type_listing : Section
type_listing = record { name = codes "Decomposition_Type"; label = λ R. kind_label R.kind }

abbrev pub exclusion_listing : Section
exclusion_listing = record { name = codes "Full_Composition_Exclusion"; label = λ R. binary_label (codes "Full_Composition_Exclusion") R.exclusion }

abbrev pub quick_label : List ℕ → Quick → Label
quick_label name Yes = None
quick_label name No = listed (name ++ codes " ; N")
quick_label name Maybe = listed (name ++ codes " ; M")

abbrev pub quick_listing : List ℕ → (Record → Quick) → Section
quick_listing name value = record { name = name; label = λ R. quick_label name (value R) }

abbrev pub image_text : List ℕ → List ℕ
image_text [] = codes " ;"
image_text (c ∷ points) = codes " ; " ++ mapping_text (c ∷ points)

abbrev pub casefold_label : List ℕ → Image → Label
casefold_label name Same = None
casefold_label name (To points) = listed (name ++ image_text points)

abbrev pub casefold_listing : Section
casefold_listing = record { name = codes "NFKC_CF"; label = λ R. casefold_label (codes "NFKC_CF") R.casefold }

abbrev pub simple_casefold_listing : Section
simple_casefold_listing = record { name = codes "NFKC_SCF"; label = λ R. casefold_label (codes "NFKC_SCF") R.simple_casefold }

abbrev pub changes_listing : Section
changes_listing = record { name = codes "Changes_When_NFKC_Casefolded"; label = λ R. binary_label (codes "Changes_When_NFKC_Casefolded") R.changes_casefold }

abbrev pub normalization_listings : List Section
normalization_listings =
    exclusion_listing
    ∷ quick_listing (codes "NFD_QC") (λ R. R.nfd) ∷ quick_listing (codes "NFC_QC") (λ R. R.nfc)
    ∷ quick_listing (codes "NFKD_QC") (λ R. R.nfkd) ∷ quick_listing (codes "NFKC_QC") (λ R. R.nfkc)
    ∷ casefold_listing ∷ simple_casefold_listing ∷ changes_listing ∷ []

abbrev pub file_sections : DerivedFile → List Section
file_sections CoreProperties = map core_listing core_properties
file_sections NormalizationProps = normalization_listings
file_sections GeneralCategory = category_listing ∷ []
file_sections CombiningClass = class_listing ∷ []
file_sections DecompositionType = type_listing ∷ []

abbrev pub section_of : ℕ → (ℕ → Record) → Section → List ℕ
section_of n R s = section_text s.name n (λ c. s.label (R c))

unfoldable pub derived_text : ℕ → DerivedFile → (ℕ → Record) → List ℕ
derived_text n file R = flat_map (section_of n R) (file_sections file)
