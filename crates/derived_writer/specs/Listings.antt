-- The sections that a value stands for, and their labels.
-- check_name form     the name of the quick check of a form; check_value form R is its value in the record R
-- listing_section l   the section that l stands for
-- listings_of file    what the sections of a file stand for, in order
-- listing_labels l R  the label of each code point in that section, over the records R
-- shown_label l kept  the label of the record that is kept
-- TellsSame says f    two records of which a call says that they are the same have one label by f
use Rattle.std.specs.Prelude.{◌≡◌, ℕ, Bool, true, List, [], ◌∷◌, map, codes}
use Rattle.std.specs.Borrow.{Bor}
use Rattle.ucd_model.specs.Labels.{Label}
use Rattle.ucd_model.specs.DerivedFiles.{Section, core_listing, category_listing, class_listing, type_listing, exclusion_listing, quick_listing, casefold_listing, simple_casefold_listing, changes_listing}
use Rattle.ucd_facts.specs.Predicates.{core_properties}
use Rattle.ucd_model.specs.Records.{Record, kept_record}
use Rattle.ucd_model.specs.declared.records.Record.{Record as Kept}
use Rattle.ucd_facts.specs.declared.files.DerivedFile.{DerivedFile}
use Rattle.ucd_facts.specs.declared.files.DerivedFile.TheVariants.{CoreProperties, NormalizationProps, GeneralCategory, CombiningClass, DecompositionType}
use Rattle.ucd_facts.specs.declared.form.Form.{Form}
use Rattle.ucd_facts.specs.declared.form.Form.TheVariants.{Nfd, Nfc, Nfkd, Nfkc}
use Rattle.ucd_facts.specs.declared.form.Quick.{Quick as QuickValue}
use Rattle.derived_writer.specs.declared.listing.Listing.{Listing}
use Rattle.derived_writer.specs.declared.listing.Listing.TheVariants.{Core as CoreListing, Category, Class, Decomposition, Exclusion, Quick, Casefold, SimpleCasefold, ChangesCasefold}

abbrev pub check_name : Form → List ℕ
check_name Nfd = codes "NFD_QC"
check_name Nfc = codes "NFC_QC"
check_name Nfkd = codes "NFKD_QC"
check_name Nfkc = codes "NFKC_QC"

abbrev pub check_value : Form → Record → QuickValue
check_value Nfd = λ R. R.nfd
check_value Nfc = λ R. R.nfc
check_value Nfkd = λ R. R.nfkd
check_value Nfkc = λ R. R.nfkc

abbrev pub listing_section : Listing → Section
listing_section (CoreListing core) = core_listing core
listing_section Category = category_listing
listing_section Class = class_listing
listing_section Decomposition = type_listing
listing_section Exclusion = exclusion_listing
listing_section (Quick form) = quick_listing (check_name form) (check_value form)
listing_section Casefold = casefold_listing
listing_section SimpleCasefold = simple_casefold_listing
listing_section ChangesCasefold = changes_listing

abbrev pub listings_of : DerivedFile → List Listing
listings_of CoreProperties = map CoreListing core_properties
listings_of NormalizationProps = Exclusion ∷ Quick Nfd ∷ Quick Nfc ∷ Quick Nfkd ∷ Quick Nfkc ∷ Casefold ∷ SimpleCasefold ∷ ChangesCasefold ∷ []
listings_of GeneralCategory = Category ∷ []
listings_of CombiningClass = Class ∷ []
listings_of DecompositionType = Decomposition ∷ []

abbrev pub listing_labels : Listing → (ℕ → Record) → ℕ → Label
listing_labels listing R c = (listing_section listing).label (R c)

abbrev pub shown_label : Listing → Bor Kept → Label
shown_label listing kept = (listing_section listing).label (kept_record kept.now)

abbrev pub TellsSame : (Bor Kept → Bor Kept → Bool → Type 0) → (Record → Label) → Type 0
TellsSame says f = (a b : Bor Kept) (said : Bool) → says a b said → said ≡ true → f (kept_record a.now) ≡ f (kept_record b.now)
