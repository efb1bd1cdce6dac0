-- The code points that stand in the middle of a word, as they are found. UAX #29, section 4.1; UAX #44, section 4.2.10.
--
-- gives_mid_word c row        a row with such a value that covers c; no missing row does
-- is_missing_row_of_mid_word row     a missing row with such a value
-- layer_of row                the layer with the row's code points, and 1 for such a value, else 0
-- missing_layer row           that of a missing row; given_layer row: that of another row with a value
-- layer_over c layer word     the word of a layer that covers c; else the word that is there
use Rattle.std.specs.Prelude.{ℕ, Bool, false, ◌&&◌, Option, Some, None}
use Rattle.ucd_points.specs.Bounds.{within}
use Rattle.ucd_facts.specs.Values.{is_mid_word}
use Rattle.ucd_facts.specs.declared.row.Row.{Row}
use Rattle.ucd_facts.specs.declared.row.ValueRow.{ValueRow}
use Rattle.ucd_facts.specs.declared.row.Row.TheVariants.{Value as ValueLine, Missing as MissingLine}
use Rattle.layered_table.specs.Layers.{covered}
use Rattle.layered_table.specs.declared.painting.Layer.{Layer}
use Rattle.fact_tables.specs.Word.{one_if}

abbrev pub gives_mid_word : ℕ → Row → Bool
gives_mid_word c (ValueLine row) = is_mid_word row.value && within c row.span
gives_mid_word c _ = false

abbrev pub is_missing_row_of_mid_word : Row → Bool
is_missing_row_of_mid_word (MissingLine row) = is_mid_word row.value
is_missing_row_of_mid_word _ = false

abbrev pub layer_of : ValueRow → Layer
layer_of row = record { word = one_if (is_mid_word row.value); span = row.span }

abbrev pub missing_layer : Row → Option Layer
missing_layer (MissingLine row) = Some (layer_of row)
missing_layer _ = None

abbrev pub given_layer : Row → Option Layer
given_layer (ValueLine row) = Some (layer_of row)
given_layer _ = None

abbrev pub layer_over : ℕ → Option Layer → ℕ → ℕ
layer_over c (Some layer) word = covered c word layer
layer_over c None word = word
