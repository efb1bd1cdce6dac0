-- The value of each property in a record, in the words of the derived files. UAX #44, sections 4.2.10, 5.3 and 5.7.
-- binary_value b     `Y` where the property holds, else `N`
-- quick_value q      `Y`, `N` or `M`, for Yes, No and Maybe
-- kind_value kind    `canonical`, or the tag without its brackets; `none` for Plain
-- points_value ps    the code points with one space between them; `<none>` where there are none
-- image_value i      the code points; `<code point>` for Same, the code point itself alone
-- value_text l R     the value in the record R of the property that l stands for: a category by its two letters, Cn among them, and
--                    a class in decimal, 0 among them. The default value has its text too
use Rattle.std.specs.Prelude.{ℕ, Bool, true, false, List, [], ◌∷◌, codes, decimal}
use Rattle.ucd_facts.specs.Names.{category_code, tag_name}
use Rattle.ucd_model.specs.Records.{Record}
use Rattle.ucd_facts.specs.RowTexts.{mapping_text}
use Rattle.ucd_facts.specs.declared.decomposition.Kind.{Kind}
use Rattle.ucd_facts.specs.declared.decomposition.Kind.TheVariants.{Plain, Canonical, Compat}
use Rattle.ucd_facts.specs.declared.form.Quick.{Quick as QuickValue}
use Rattle.ucd_facts.specs.declared.form.Quick.TheVariants.{Yes, No, Maybe}
use Rattle.ucd_facts.specs.declared.image.Image.{Image}
use Rattle.ucd_facts.specs.declared.image.Image.TheVariants.{Same, To}
use Rattle.derived_writer.specs.Listings.{check_value}
use Rattle.derived_writer.specs.declared.listing.Listing.{Listing}
use Rattle.derived_writer.specs.declared.listing.Listing.TheVariants.{Core, Category, Class, Decomposition, Exclusion, Quick, Casefold, SimpleCasefold, ChangesCasefold}

abbrev pub binary_value : Bool → List ℕ
binary_value true = codes "Y"
binary_value false = codes "N"

abbrev pub quick_value : QuickValue → List ℕ
quick_value Yes = codes "Y"
quick_value No = codes "N"
quick_value Maybe = codes "M"

abbrev pub kind_value : Kind → List ℕ
kind_value Plain = codes "none"
kind_value Canonical = codes "canonical"
kind_value (Compat tag) = tag_name tag

abbrev pub points_value : List ℕ → List ℕ
points_value [] = codes "<none>"
points_value (c ∷ cs) = mapping_text (c ∷ cs)

abbrev pub image_value : Image → List ℕ
image_value Same = codes "<code point>"
image_value (To points) = points_value points

abbrev pub value_text : Listing → Record → List ℕ
value_text (Core core) R = binary_value (R.core core)
value_text Category R = category_code R.category
value_text Class R = decimal R.class
value_text Decomposition R = kind_value R.kind
value_text Exclusion R = binary_value R.exclusion
value_text (Quick form) R = quick_value (check_value form R)
value_text Casefold R = image_value R.casefold
value_text SimpleCasefold R = image_value R.simple_casefold
value_text ChangesCasefold R = binary_value R.changes_casefold
