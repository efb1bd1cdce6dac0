-- The laws of the names of values, properties and files.
--
-- CategoriesAreSpelled the two bytes that name a category are its code, and no code names Cn
-- StatusesAreSpelled   the byte that names a status is its code
-- TagTextsAreNames     the text of a tag is its name between `<` and `>`
-- NamesTellValues      two values with one name are one: categories, statuses, tags, properties and files
use Rattle.std.specs.Prelude.{◌≡◌, ◌≢◌, ◌↔◌, ℕ, List, [], ◌∷◌, ◌++◌, Some, codes}
use Rattle.ucd_facts.specs.Names.{category_of, category_code, status_of, status_code, tag_text, tag_name, flag_name, core_name, derived_path}
use Rattle.ucd_points.specs.SourceFiles.{source_path}
use Rattle.ucd_facts.specs.declared.category.Category.{Category}
use Rattle.ucd_facts.specs.declared.category.Category.TheVariants.{Cn}
use Rattle.ucd_facts.specs.declared.decomposition.Tag.{Tag}
use Rattle.ucd_points.specs.declared.files.SourceFile.{SourceFile}
use Rattle.ucd_facts.specs.declared.files.DerivedFile.{DerivedFile}
use Rattle.ucd_facts.specs.declared.property.Flag.{Flag}
use Rattle.ucd_facts.specs.declared.property.Core.{Core}
use Rattle.ucd_facts.specs.declared.row.FoldStatus.{FoldStatus}

abbrev pub CategoriesAreSpelled : Type 0
CategoriesAreSpelled = (bs : List ℕ) (k : Category) → (category_of bs ≡ Some k) ↔ ((k ≢ Cn) × (bs ≡ category_code k))

abbrev pub StatusesAreSpelled : Type 0
StatusesAreSpelled = (bs : List ℕ) (s : FoldStatus) → (status_of bs ≡ Some s) ↔ (bs ≡ status_code s ∷ [])

abbrev pub TagTextsAreNames : Type 0
TagTextsAreNames = (t : Tag) → tag_text t ≡ codes "<" ++ tag_name t ++ codes ">"

pub record NamesTellValues : Type 0 where
  pub category : (a b : Category) → category_code a ≡ category_code b → a ≡ b
  pub status : (a b : FoldStatus) → status_code a ≡ status_code b → a ≡ b
  pub tag : (a b : Tag) → tag_name a ≡ tag_name b → a ≡ b
  pub flag : (a b : Flag) → flag_name a ≡ flag_name b → a ≡ b
  pub core : (a b : Core) → core_name a ≡ core_name b → a ≡ b
  pub source : (a b : SourceFile) → source_path a ≡ source_path b → a ≡ b
  pub derived : (a b : DerivedFile) → derived_path a ≡ derived_path b → a ≡ b
