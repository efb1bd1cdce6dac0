-- The sets of values are those of the definition.
-- numbered_is   of a file where no two rows cover a code point: the rows that give a name, and what no row covers for the name that the
--               missing rows give
-- listed_is     of PropList.txt: the rows that give a name
-- some_names    values behind a default are some
use Rattle.std.proofs.Common.{◌≡◌, ℕ, ◌<◌, Bool, false, not, ◌&&◌, ◌||◌, List, length, Option, Some, None, refl, ap, ◌∙◌, arith, slice_get, bytes_eq}
use Rattle.std.specs.List.{list_any}
use Rattle.std.specs.Option.{option_map_or}
use Rattle.ucd_facts.specs.Facts.{gives_value}
use Rattle.ucd_facts.specs.Values.{gives_some, missing_value, value_at}
use Rattle.ucd_facts.specs.declared.row.Row.{Row}
use Rattle.std.proofs.lemmas.Option.{slice_get_within}
use Rattle.property_aliases.specs.Numbers.{AreValues, names_in}
use Rattle.property_aliases.specs.Sources.{listed_names, numbered, value_names, value_rows}
use Rattle.property_aliases.specs.declared.file_values.FileValues.{FileValues}
use Rattle.release_rows.specs.ValuesApart.{AreApart}
use Rattle.unicodeset_eval.specs.Given.{given, given_or_default, length_map}
use Rattle.unicodeset_eval.specs.Numbers.{default_is_first}
use Rattle.unicodeset_eval.specs.Tests.{is_listed, is_numbered}
use Rattle.unicodeset_eval.specs.ValueRows.{covers, covers_is, gives, gives_is, value_is}

same_at : (f g : List ℕ → Bool) (o : Option (List ℕ)) → ((name : List ℕ) → f name ≡ g name) → option_map_or f o false ≡ option_map_or g o false
same_at f g None h = refl
same_at f g (Some name) h = h name

pub numbered_is : (rows : List Row) (default : List ℕ) (i c : ℕ) → AreApart (gives_some c) rows → given_or_default (missing_value rows default c) (numbered default rows) (value_rows rows) i c ≡ is_numbered (numbered default rows) i (value_at rows default c)
numbered_is rows default i c apart =
    same_at (λ name. list_any (gives name c) (value_rows rows) || (not (list_any (covers c) (value_rows rows)) && bytes_eq (missing_value rows default c) name)) (λ name. bytes_eq (value_at rows default c) name)
    (slice_get (numbered default rows) i)
    (λ name.
    ap (λ b. b || (not (list_any (covers c) (value_rows rows)) && bytes_eq (missing_value rows default c) name)) (gives_is name c rows)
    ∙ ap (λ b. list_any (gives_value name c) rows || (not b && bytes_eq (missing_value rows default c) name)) (covers_is c rows)
    ∙ value_is c (missing_value rows default c) name rows apart)

pub listed_is : (rows : List Row) (i c : ℕ) → given (listed_names rows) (value_rows rows) i c ≡ is_listed rows i c
listed_is rows i c = same_at (λ name. list_any (gives name c) (value_rows rows)) (λ name. list_any (gives_value name c) rows) (slice_get (listed_names rows) i) (λ name. gives_is name c rows)

pub some_names : (values : FileValues) (default : List ℕ) (rows : List Row) → AreValues values (numbered default rows) rows → 0 < length values.names.keys
some_names values default rows are =
    let names = names_in values.names in
    let first : slice_get names 0 ≡ Some default = ap (λ (ns : List (List ℕ)). slice_get ns 0) are.names_are ∙ default_is_first default (value_names rows) in
    let some : 0 < length names = slice_get_within names 0 default first in
    let long = length_map (λ k. k.items) values.names.keys in
    omega (arith, some, long)
