-- The laws of the labels under which the derived files list values.
-- HasPoints i          the points of an image are code points
-- LabelsTellValues     two values with one label are one: categories, classes, kinds, quick checks, images, and whether a point has
--                      a property
use Rattle.std.specs.Prelude.{◌≡◌, ℕ, ◌≤◌, Bool, List, ⊤, All}
use Rattle.ucd_model.specs.DerivedFiles.{binary_label, category_label, class_label, kind_label, quick_label, casefold_label}
use Rattle.ucd_facts.specs.RowValues.{IsPoint}
use Rattle.ucd_facts.specs.declared.category.Category.{Category}
use Rattle.ucd_facts.specs.declared.decomposition.Kind.{Kind}
use Rattle.ucd_facts.specs.declared.form.Quick.{Quick}
use Rattle.ucd_facts.specs.declared.image.Image.{Image}
use Rattle.ucd_facts.specs.declared.image.Image.TheVariants.{Same, To}

abbrev pub HasPoints : Image → Type 0
HasPoints Same = ⊤
HasPoints (To points) = All IsPoint points

pub record LabelsTellValues : Type 0 where
  pub category : (a b : Category) → category_label a ≡ category_label b → a ≡ b
  pub class : (m n : ℕ) → m ≤ 254 → n ≤ 254 → class_label m ≡ class_label n → m ≡ n
  pub kind : (a b : Kind) → kind_label a ≡ kind_label b → a ≡ b
  pub quick : (name : List ℕ) (a b : Quick) → quick_label name a ≡ quick_label name b → a ≡ b
  pub image : (name : List ℕ) (i j : Image) → HasPoints i → HasPoints j → casefold_label name i ≡ casefold_label name j → i ≡ j
  pub binary : (name : List ℕ) (a b : Bool) → binary_label name a ≡ binary_label name b → a ≡ b
