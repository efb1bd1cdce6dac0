-- What names mean by numbers and by places that rows give.
use Rattle.std.proofs.Common.{◌≡◌, ℕ, List, Option, None, refl, ap, ◌∙◌, flat_map}
use Rattle.std.specs.Option.{option_map, option_map_or}
use Rattle.property_aliases.specs.Found.{breaks_in, index_in, listed_in, lone_in, lone_key_in, place_in, property_in, property_key_in, scripts_in, value_in, value_key_in, AreAliasesOf}
use Rattle.property_aliases.specs.Kinds.{kind_names, kind_of}
use Rattle.property_aliases.specs.NumberMaps.{index_in_names}
use Rattle.property_aliases.specs.Properties.{index_named, property_by, property_key, property_of}
use Rattle.property_aliases.specs.Resolving.{number_of, or_is}
use Rattle.property_aliases.specs.Sources.{Sources}
use Rattle.property_aliases.specs.Values.{behind, index_of, lone_key, lone_of, rows_for, test_at, value_key, names_for, value_of}
use Rattle.property_aliases.specs.declared.aliases.Aliases.{Aliases}
use Rattle.property_aliases.specs.declared.property.Property.{Property}
use Rattle.property_aliases.specs.declared.property.Property.TheVariants.{Category, Script}
use Rattle.property_aliases.proofs.PropertyLaws.{kind_names_are}

module _ (a : Aliases) (s : Sources) (named : (key : List ℕ) → index_in a key ≡ index_named s key) where
  key_is : (key : List ℕ) → property_key_in a key ≡ property_key s key
  key_is key = ap (option_map property_by) (named key)

  property_is : (name : List ℕ) → property_in a name ≡ property_of s name
  property_is name = ap (λ f. or_is f name) (λ i key. key_is key i)

  module _ (scripts : scripts_in a ≡ s.scripts) (breaks : breaks_in a ≡ s.breaks)
      (placed : (p : Property) (key : List ℕ) → place_in a.places.values p key ≡ number_of (kind_names (scripts_in a) (breaks_in a) (kind_of p)) (flat_map (behind (index_in_names a.places.properties) (index_of p)) s.values) key) where
    names_are : (p : Property) → kind_names (scripts_in a) (breaks_in a) (kind_of p) ≡ names_for s p
    names_are p = ap (λ (xs : List (List ℕ)). kind_names xs (breaks_in a) (kind_of p)) scripts ∙ ap (λ (xs : List (List ℕ)). kind_names s.scripts xs (kind_of p)) breaks ∙ kind_names_are s p

    rows_are : (p : Property) → flat_map (behind (index_in_names a.places.properties) (index_of p)) s.values ≡ rows_for s p
    rows_are p = ap (λ (f : List ℕ → Option ℕ). flat_map (behind f (index_of p)) s.values) (λ i key. named key i)

    value_key_is : (p : Property) (key : List ℕ) → value_key_in a p key ≡ value_key s p key
    value_key_is p key = ap (λ (n : Option ℕ). option_map_or (test_at p) n None) (
        placed p key
        ∙ ap (λ (table : List (List ℕ)). number_of table (flat_map (behind (index_in_names a.places.properties) (index_of p)) s.values) key) (names_are p)
        ∙ ap (λ (rows : List (List (List ℕ))). number_of (names_for s p) rows key) (rows_are p))

    value_is : (p : Property) (name : List ℕ) → value_in a p name ≡ value_of s p name
    value_is p name = ap (λ f. or_is f name) (λ i key. value_key_is p key i)

    lone_key_is : (key : List ℕ) → lone_key_in a key ≡ lone_key s key
    lone_key_is key = rw (value_key_is Category key, value_key_is Script key, key_is key) refl

    lone_is : (name : List ℕ) → lone_in a name ≡ lone_of s name
    lone_is name = ap (λ f. or_is f name) (λ i key. lone_key_is key i)

pub placed : (a : Aliases) (s : Sources) → ((key : List ℕ) → index_in a key ≡ index_named s key) → listed_in a ≡ s.listed → scripts_in a ≡ s.scripts → breaks_in a ≡ s.breaks
    → ((p : Property) (key : List ℕ) → place_in a.places.values p key ≡ number_of (kind_names (scripts_in a) (breaks_in a) (kind_of p)) (flat_map (behind (index_in_names a.places.properties) (index_of p)) s.values) key)
    → AreAliasesOf a s
placed a s named listed scripts breaks values = record {
  property = property_is a s named;
  value = value_is a s named scripts breaks values;
  lone = lone_is a s named scripts breaks values;
  listed = listed;
  scripts = scripts;
  breaks = breaks;
}
