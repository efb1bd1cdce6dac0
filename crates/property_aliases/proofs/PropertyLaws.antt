-- Properties and their places.
-- property_by_index    the property at the place of a property is it
-- kind_below           the kinds of properties are below 7
-- kind_names_are       the names of a property's values are those of its kind
use Rattle.std.proofs.Common.{◌≡◌, ◌<◌, ◌≤◌, ◌+◌, ◌-◌, ℕ, Option, length, refl, ap, ◌∙◌, arith, unwrap_or}
use Rattle.std.proofs.lemmas.Option.{slice_get_past}
use Rattle.ucd_facts.specs.declared.form.Form.TheVariants.{Nfd, Nfc, Nfkd, Nfkc}
use Rattle.ucd_facts.specs.declared.property.Core.TheVariants as core
use Rattle.property_aliases.specs.Kinds.{kind_names, kind_of}
use Rattle.property_aliases.specs.Properties.{built_in, property_by}
use Rattle.property_aliases.specs.Sources.{Sources}
use Rattle.property_aliases.specs.Values.{index_of, names_for}
use Rattle.property_aliases.specs.declared.property.Property.{Property}
use Rattle.property_aliases.specs.declared.property.Property.TheVariants.{Category, Script, Class, Decomposition, WordBreak, Quick, Core, Exclusion, ChangesCasefold, Listed}

listed_by_index : (n : ℕ) → property_by (30 + n) ≡ Listed n
listed_by_index n =
    let past : length built_in ≤ 30 + n = omega arith in
    let number : 30 + n - 30 ≡ n = omega arith in
    ap (λ (p : Option Property). unwrap_or p (Listed (30 + n - 30))) (slice_get_past built_in (30 + n) past) ∙ ap Listed number

pub property_by_index : (p : Property) → property_by (index_of p) ≡ p
property_by_index Category = refl
property_by_index Script = refl
property_by_index Class = refl
property_by_index Decomposition = refl
property_by_index WordBreak = refl
property_by_index (Quick Nfd) = refl
property_by_index (Quick Nfc) = refl
property_by_index (Quick Nfkd) = refl
property_by_index (Quick Nfkc) = refl
property_by_index (Core core.Math) = refl
property_by_index (Core core.Alphabetic) = refl
property_by_index (Core core.Lowercase) = refl
property_by_index (Core core.Uppercase) = refl
property_by_index (Core core.Cased) = refl
property_by_index (Core core.CaseIgnorable) = refl
property_by_index (Core core.ChangesWhenLowercased) = refl
property_by_index (Core core.ChangesWhenUppercased) = refl
property_by_index (Core core.ChangesWhenTitlecased) = refl
property_by_index (Core core.ChangesWhenCasefolded) = refl
property_by_index (Core core.ChangesWhenCasemapped) = refl
property_by_index (Core core.IdStart) = refl
property_by_index (Core core.IdContinue) = refl
property_by_index (Core core.XidStart) = refl
property_by_index (Core core.XidContinue) = refl
property_by_index (Core core.DefaultIgnorableCodePoint) = refl
property_by_index (Core core.GraphemeExtend) = refl
property_by_index (Core core.GraphemeBase) = refl
property_by_index (Core core.GraphemeLink) = refl
property_by_index Exclusion = refl
property_by_index ChangesCasefold = refl
property_by_index (Listed n) = listed_by_index n

pub kind_below : (p : Property) → kind_of p < 7
kind_below Category = omega arith
kind_below Script = omega arith
kind_below Class = omega arith
kind_below Decomposition = omega arith
kind_below WordBreak = omega arith
kind_below (Quick form) = omega arith
kind_below (Core p) = omega arith
kind_below Exclusion = omega arith
kind_below ChangesCasefold = omega arith
kind_below (Listed n) = omega arith

pub kind_names_are : (s : Sources) (p : Property) → kind_names s.scripts s.breaks (kind_of p) ≡ names_for s p
kind_names_are s Category = refl
kind_names_are s Script = refl
kind_names_are s Class = refl
kind_names_are s Decomposition = refl
kind_names_are s WordBreak = refl
kind_names_are s (Quick form) = refl
kind_names_are s (Core p) = refl
kind_names_are s Exclusion = refl
kind_names_are s ChangesCasefold = refl
kind_names_are s (Listed n) = refl
