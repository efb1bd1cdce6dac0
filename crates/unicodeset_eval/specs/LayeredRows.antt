-- The rows of a file as layers of numbers.
-- layer_of row         a row as a layer: its number, for its span
-- layers_of values     the missing rows of a file as layers, and over them the other rows
-- is_other row         the row has another number than 0, that of the default
-- layers_name          the number that the layers give to a code point is that of its value
-- missing_stays        where no missing row has another number than 0, what missing rows give is the default
use Rattle.std.proofs.Common.{◌≡◌, ℕ, Bool, true, false, if◌then◌else◌, List, [], ◌∷◌, ◌++◌, Option, Some, fold, map, find, refl, sym, ap, subst, ◌∙◌, arith, nat_lt, slice_get, unwrap_or}
use Rattle.std.specs.List.{list_any}
use Rattle.std.proofs.lemmas.Bool.{or_parts}
use Rattle.std.proofs.lemmas.Bool.Decides.{nat_tests}
use Rattle.std.proofs.lemmas.List.Sums.{fold-append}
use Rattle.layered_table.specs.Layers.{covered, word_at}
use Rattle.layered_table.specs.declared.painting.Layer.{Layer}
use Rattle.ucd_points.specs.Bounds.{Bounds, within}
use Rattle.ucd_facts.specs.Values.{gives_some, missing_value, taken_missing, value_at, value_in}
use Rattle.ucd_facts.specs.declared.row.ValueRow.{ValueRow}
use Rattle.ucd_facts.specs.declared.row.Row.{Row}
use Rattle.ucd_facts.specs.declared.row.Row.TheVariants.{Unit as DataLine, Value as ValueLine, Exclusion as ExclusionLine, Fold as FoldLine, Casing as CasingLine, Alias as AliasLine, Missing as MissingLine}
use Rattle.property_aliases.specs.Numbers.{AreNumbered, AreValues, IsNumbered, names_in}
use Rattle.property_aliases.specs.Sources.{missing_rows, numbered, value_names, value_rows}
use Rattle.property_aliases.specs.declared.file_values.FileValues.{FileValues}
use Rattle.property_aliases.specs.declared.file_values.NumberedRow.{NumberedRow}
use Rattle.release_rows.specs.ValuesApart.{AreApart}
use Rattle.unicodeset_eval.specs.Numbers.{default_is_first}
use Rattle.unicodeset_eval.specs.ValueRows.{covers, covers_is}

abbrev pub layer_of : NumberedRow → Layer
layer_of row = record { word = row.number; span = row.span }

abbrev pub layers_of : FileValues → List Layer
layers_of values = map layer_of values.missing.items ++ map layer_of values.rows.items

abbrev pub is_other : NumberedRow → Bool
is_other row = nat_lt 0 row.number

-- ---- the number of a code point

module _ (names : List (List ℕ)) (c : ℕ) where
  abbrev pub onto : ℕ → List NumberedRow → ℕ
  onto w ns = fold (covered c) w (map layer_of ns)

  one_missing : (w : ℕ) (v : List ℕ) (n : NumberedRow) (row : ValueRow) → IsNumbered names n row → slice_get names w ≡ Some v → slice_get names (covered c w (layer_of n)) ≡ Some (if within c row.span then row.value else v)
  one_missing w v n row is e =
      subst (λ (s : Bounds). slice_get names (if within c s then n.number else w) ≡ Some (if within c row.span then row.value else v)) (sym is.span) (by (within c row.span))
    where
      by : (b : Bool) → slice_get names (if b then n.number else w) ≡ Some (if b then row.value else v)
      by true = is.number
      by false = e

  -- the last missing row that covers c
  pub missing_name : (w : ℕ) (v : List ℕ) (rows : List Row) (ns : List NumberedRow) → AreNumbered names ns (missing_rows rows) → slice_get names w ≡ Some v → slice_get names (onto w ns) ≡ Some (missing_value rows v c)
  missing_name w v [] [] are e = e
  missing_name w v [] (n ∷ ns) are e = absurd are
  missing_name w v (MissingLine row ∷ rows) [] are e = absurd are
  missing_name w v (MissingLine row ∷ rows) (n ∷ ns) are e = missing_name (covered c w (layer_of n)) (taken_missing c v (MissingLine row)) rows ns are.1 (one_missing w v n row are.0 e)
  missing_name w v (ValueLine row ∷ rows) ns are e = missing_name w v rows ns are e
  missing_name w v (DataLine row ∷ rows) ns are e = missing_name w v rows ns are e
  missing_name w v (ExclusionLine row ∷ rows) ns are e = missing_name w v rows ns are e
  missing_name w v (FoldLine row ∷ rows) ns are e = missing_name w v rows ns are e
  missing_name w v (CasingLine row ∷ rows) ns are e = missing_name w v rows ns are e
  missing_name w v (AliasLine row ∷ rows) ns are e = missing_name w v rows ns are e

  none_over : (w : ℕ) (ns : List NumberedRow) (given : List ValueRow) → AreNumbered names ns given → list_any (covers c) given ≡ false → onto w ns ≡ w
  none_over w [] [] are e = refl
  none_over w [] (row ∷ given) are e = absurd are
  none_over w (n ∷ ns) [] are e = absurd are
  none_over w (n ∷ ns) (row ∷ given) are e =
      let p = or_parts (within c row.span) (list_any (covers c) given) e in
      ap (λ (s : Bounds). onto (if within c s then n.number else w) ns) are.0.span
      ∙ ap (λ (b : Bool). onto (if b then n.number else w) ns) p.0
      ∙ none_over w ns given are.1 p.1

  -- the row that covers c
  pub value_name : (w : ℕ) (v : List ℕ) (rows : List Row) (ns : List NumberedRow) → AreNumbered names ns (value_rows rows) → AreApart (gives_some c) rows → slice_get names w ≡ Some v → slice_get names (onto w ns) ≡ Some (value_in v (find (gives_some c) rows))
  value_name w v [] [] are apart e = e
  value_name w v [] (n ∷ ns) are apart e = absurd are
  value_name w v (ValueLine row ∷ rows) [] are apart e = absurd are
  value_name w v (ValueLine row ∷ rows) (n ∷ ns) are apart e =
      subst (λ (s : Bounds). slice_get names (onto (if within c s then n.number else w) ns) ≡ Some (value_in v (find (gives_some c) (ValueLine row ∷ rows)))) (sym are.0.span)
      (by (within c row.span) refl (value_name w v rows ns are.1 apart.1 e))
    where
      by : (b : Bool) → within c row.span ≡ b → slice_get names (onto w ns) ≡ Some (value_in v (find (gives_some c) rows))
          → slice_get names (onto (if within c row.span then n.number else w) ns) ≡ Some (value_in v (find (gives_some c) (ValueLine row ∷ rows)))
      by true is later = rw is (ap (slice_get names) (none_over n.number ns (value_rows rows) are.1 (covers_is c rows ∙ apart.0 is)) ∙ are.0.number)
      by false is later = rw is later
  value_name w v (MissingLine row ∷ rows) ns are apart e = value_name w v rows ns are apart.1 e
  value_name w v (DataLine row ∷ rows) ns are apart e = value_name w v rows ns are apart.1 e
  value_name w v (ExclusionLine row ∷ rows) ns are apart e = value_name w v rows ns are apart.1 e
  value_name w v (FoldLine row ∷ rows) ns are apart e = value_name w v rows ns are apart.1 e
  value_name w v (CasingLine row ∷ rows) ns are apart e = value_name w v rows ns are apart.1 e
  value_name w v (AliasLine row ∷ rows) ns are apart e = value_name w v rows ns are apart.1 e

module _ (values : FileValues) (default : List ℕ) (rows : List Row) (are : AreValues values (numbered default rows) rows) where
  pub first_is_default : slice_get (names_in values.names) 0 ≡ Some default
  first_is_default = ap (λ (ns : List (List ℕ)). slice_get ns 0) are.names_are ∙ default_is_first default (value_names rows)

  pub layers_name : (c : ℕ) → AreApart (gives_some c) rows → slice_get (names_in values.names) (word_at (layers_of values) 0 c) ≡ Some (value_at rows default c)
  layers_name c apart =
      let names : List (List ℕ) = names_in values.names in
      let below : ℕ = onto names c 0 values.missing.items in
      ap (slice_get names) (fold-append (covered c) 0 (map layer_of values.missing.items) (map layer_of values.rows.items))
      ∙ value_name names c below (missing_value rows default c) rows values.rows.items are.rows_are apart
      (missing_name names c 0 default rows values.missing.items are.missing_are first_is_default)

-- ---- missing rows with the default alone

not_other : (n : ℕ) → nat_lt 0 n ≡ false → n ≡ 0
not_other n e = grind (arith, nat_tests)

all_default : (names : List (List ℕ)) (c : ℕ) (ns : List NumberedRow) → list_any is_other ns ≡ false → onto names c 0 ns ≡ 0
all_default names c [] e = refl
all_default names c (n ∷ ns) e =
    let p = or_parts (is_other n) (list_any is_other ns) e in
    ap (λ (w : ℕ). onto names c (if within c n.span then w else 0) ns) (not_other n.number p.0) ∙ same (within c n.span) ∙ all_default names c ns p.1
  where
    same : (b : Bool) → onto names c (if b then 0 else 0) ns ≡ onto names c 0 ns
    same true = refl
    same false = refl

pub missing_stays : (values : FileValues) (default : List ℕ) (rows : List Row) → AreValues values (numbered default rows) rows → list_any is_other values.missing.items ≡ false → (c : ℕ) → missing_value rows default c ≡ default
missing_stays values default rows are none c =
    let names : List (List ℕ) = names_in values.names in
    let first : slice_get names 0 ≡ Some default = first_is_default values default rows are in
    let last : slice_get names (onto names c 0 values.missing.items) ≡ Some (missing_value rows default c) = missing_name names c 0 default rows values.missing.items are.missing_are first in
    ap (λ (o : Option (List ℕ)). unwrap_or o []) (sym last ∙ ap (slice_get names) (all_default names c values.missing.items none) ∙ first)
