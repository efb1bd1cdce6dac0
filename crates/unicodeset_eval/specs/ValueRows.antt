-- What rows of a span and a value say.
-- gives v c row        the row has this value and covers c
-- covers c row         the row covers c
-- gives_is, covers_is  of all rows the same is said
-- value_is             where rows are apart, the value of the row that covers c is v, or there is no row and v is the default, whatever that
--                      is: that of the last missing row that covers c, say
use Rattle.std.proofs.Common.{◌≡◌, ℕ, Bool, true, false, not, ◌&&◌, ◌||◌, List, [], ◌∷◌, refl, ap, find, bytes_eq}
use Rattle.std.specs.List.{list_any}
use Rattle.std.proofs.lemmas.Bool.{or_parts}
use Rattle.ucd_facts.specs.Facts.{gives_value}
use Rattle.ucd_points.specs.Bounds.{within}
use Rattle.ucd_facts.specs.Values.{gives_some, value_in}
use Rattle.ucd_facts.specs.declared.row.ValueRow.{ValueRow}
use Rattle.ucd_facts.specs.declared.row.Row.{Row}
use Rattle.ucd_facts.specs.declared.row.Row.TheVariants.{Unit as DataLine, Value as ValueLine, Exclusion as ExclusionLine, Fold as FoldLine, Casing as CasingLine, Alias as AliasLine, Missing as MissingLine}
use Rattle.property_aliases.specs.Sources.{value_rows}
use Rattle.release_rows.specs.ValuesApart.{AreApart}

abbrev pub gives : List ℕ → ℕ → ValueRow → Bool
gives value c row = bytes_eq row.value value && within c row.span

abbrev pub covers : ℕ → ValueRow → Bool
covers c row = within c row.span

-- ---- of all rows

pub gives_is : (value : List ℕ) (c : ℕ) (rows : List Row) → list_any (gives value c) (value_rows rows) ≡ list_any (gives_value value c) rows
gives_is value c [] = refl
gives_is value c (ValueLine row ∷ rows) = ap (λ b. (bytes_eq row.value value && within c row.span) || b) (gives_is value c rows)
gives_is value c (DataLine row ∷ rows) = gives_is value c rows
gives_is value c (ExclusionLine row ∷ rows) = gives_is value c rows
gives_is value c (FoldLine row ∷ rows) = gives_is value c rows
gives_is value c (CasingLine row ∷ rows) = gives_is value c rows
gives_is value c (AliasLine row ∷ rows) = gives_is value c rows
gives_is value c (MissingLine row ∷ rows) = gives_is value c rows

pub covers_is : (c : ℕ) (rows : List Row) → list_any (covers c) (value_rows rows) ≡ list_any (gives_some c) rows
covers_is c [] = refl
covers_is c (ValueLine row ∷ rows) = ap (λ b. within c row.span || b) (covers_is c rows)
covers_is c (DataLine row ∷ rows) = covers_is c rows
covers_is c (ExclusionLine row ∷ rows) = covers_is c rows
covers_is c (FoldLine row ∷ rows) = covers_is c rows
covers_is c (CasingLine row ∷ rows) = covers_is c rows
covers_is c (AliasLine row ∷ rows) = covers_is c rows
covers_is c (MissingLine row ∷ rows) = covers_is c rows

-- ---- values

module _ (c : ℕ) (default value : List ℕ) where
  none_gives : (rows : List Row) → list_any (gives_some c) rows ≡ false → list_any (gives_value value c) rows ≡ false
  none_gives [] e = refl
  none_gives (ValueLine row ∷ rows) e =
      let p = or_parts (within c row.span) (list_any (gives_some c) rows) e in
      rw (p.0, none_gives rows p.1) (both_false (bytes_eq row.value value))
    where
      both_false : (b : Bool) → (b && false) || false ≡ false
      both_false true = refl
      both_false false = refl
  none_gives (DataLine row ∷ rows) e = none_gives rows e
  none_gives (ExclusionLine row ∷ rows) e = none_gives rows e
  none_gives (FoldLine row ∷ rows) e = none_gives rows e
  none_gives (CasingLine row ∷ rows) e = none_gives rows e
  none_gives (AliasLine row ∷ rows) e = none_gives rows e
  none_gives (MissingLine row ∷ rows) e = none_gives rows e

  -- some row gives the value, or none gives any and the value is the default
  abbrev pub gives_or_default : List Row → Bool
  gives_or_default rows = list_any (gives_value value c) rows || (not (list_any (gives_some c) rows) && bytes_eq default value)

  pub value_is : (rows : List Row) → AreApart (gives_some c) rows → gives_or_default rows ≡ bytes_eq (value_in default (find (gives_some c) rows)) value
  value_is [] apart = refl
  value_is (ValueLine row ∷ rows) apart = by (within c row.span) (bytes_eq row.value value) refl refl (value_is rows apart.1)
    where
      by : (t b : Bool) → within c row.span ≡ t → bytes_eq row.value value ≡ b → gives_or_default rows ≡ bytes_eq (value_in default (find (gives_some c) rows)) value → gives_or_default (ValueLine row ∷ rows) ≡ bytes_eq (value_in default (find (gives_some c) (ValueLine row ∷ rows))) value
      by true true e same later = rw (e, same) refl
      by true false e same later = rw (e, same, none_gives rows (apart.0 e)) refl
      by false true e same later = rw (e, same) later
      by false false e same later = rw (e, same) later
  value_is (DataLine row ∷ rows) apart = value_is rows apart.1
  value_is (ExclusionLine row ∷ rows) apart = value_is rows apart.1
  value_is (FoldLine row ∷ rows) apart = value_is rows apart.1
  value_is (CasingLine row ∷ rows) apart = value_is rows apart.1
  value_is (AliasLine row ∷ rows) apart = value_is rows apart.1
  value_is (MissingLine row ∷ rows) apart = value_is rows apart.1
