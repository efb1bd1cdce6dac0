-- The code points that stand in the middle of a word.
use Rattle.std.proofs.Common.{◌≡◌, ℕ, ◌+◌, ◌<◌, Bool, true, false, cond, ◌&&◌, ◌||◌, List, [], ◌∷◌, length, take, get_or, find, Option, Some, refl, sym, ap, ◌∙◌}
use Rattle.std.specs.List.{list_any}
use Rattle.std.proofs.lemmas.Bool.{or_parts}
use Rattle.std.proofs.lemmas.List.Sums.{fold_more}
use Rattle.layered_table.specs.declared.painting.Layer.{Layer}
use Rattle.ucd_points.specs.Bounds.{within}
use Rattle.ucd_facts.specs.Values.{default_word_break, gives_some, is_mid_word, mid_word_at, missing_value, taken_missing, value_in}
use Rattle.ucd_facts.specs.declared.row.Row.{Row}
use Rattle.ucd_facts.specs.declared.row.Row.TheVariants.{Unit as DataLine, Value as ValueLine, Exclusion as ExclusionLine, Fold as FoldLine, Casing as CasingLine, Alias as AliasLine, Missing as MissingLine}
use Rattle.release_rows.specs.ValuesApart.{AreApart}
use Rattle.code_facts.specs.MidWords.{gives_mid_word, is_missing_row_of_mid_word, layer_over, missing_layer}
use Rattle.fact_tables.specs.Word.{one_if}

-- ---- where no missing row has such a value

module _ (c : ℕ) where
  none_gives : (rows : List Row) → list_any (gives_some c) rows ≡ false → list_any (gives_mid_word c) rows ≡ false
  none_gives [] none = refl
  none_gives (ValueLine row ∷ rows) none =
      let p = or_parts (within c row.span) (list_any (gives_some c) rows) none in
      rw (p.0, none_gives rows p.1) (by (is_mid_word row.value))
    where
      by : (b : Bool) → (b && false) || false ≡ false
      by true = refl
      by false = refl
  none_gives (DataLine row ∷ rows) none = none_gives rows none
  none_gives (ExclusionLine row ∷ rows) none = none_gives rows none
  none_gives (FoldLine row ∷ rows) none = none_gives rows none
  none_gives (CasingLine row ∷ rows) none = none_gives rows none
  none_gives (AliasLine row ∷ rows) none = none_gives rows none
  none_gives (MissingLine row ∷ rows) none = none_gives rows none

  -- rows that are apart, and a default that is no such value
  given_is : (default : List ℕ) → is_mid_word default ≡ false → (rows : List Row) → AreApart (gives_some c) rows → list_any (gives_mid_word c) rows ≡ is_mid_word (value_in default (find (gives_some c) rows))
  given_is default plain [] apart = sym plain
  given_is default plain (ValueLine row ∷ rows) apart = by (within c row.span) (λ covers. none_gives rows (apart.0 covers)) (given_is default plain rows apart.1)
    where
      given : (mid rest : Bool) → rest ≡ false → ((mid && true) || rest) ≡ mid
      given true rest none = refl
      given false rest none = none

      hidden : (mid rest : Bool) → ((mid && false) || rest) ≡ rest
      hidden true rest = refl
      hidden false rest = refl

      by : (covers : Bool) → (covers ≡ true → list_any (gives_mid_word c) rows ≡ false) → list_any (gives_mid_word c) rows ≡ is_mid_word (value_in default (find (gives_some c) rows))
          → ((is_mid_word row.value && covers) || list_any (gives_mid_word c) rows) ≡ is_mid_word (value_in default (cond covers (Some (ValueLine row)) (find (gives_some c) rows)))
      by true none same = given (is_mid_word row.value) (list_any (gives_mid_word c) rows) (none refl)
      by false none same = hidden (is_mid_word row.value) (list_any (gives_mid_word c) rows) ∙ same
  given_is default plain (DataLine row ∷ rows) apart = given_is default plain rows apart.1
  given_is default plain (ExclusionLine row ∷ rows) apart = given_is default plain rows apart.1
  given_is default plain (FoldLine row ∷ rows) apart = given_is default plain rows apart.1
  given_is default plain (CasingLine row ∷ rows) apart = given_is default plain rows apart.1
  given_is default plain (AliasLine row ∷ rows) apart = given_is default plain rows apart.1
  given_is default plain (MissingLine row ∷ rows) apart = given_is default plain rows apart.1

  taken_plain : (default : List ℕ) (row : Row) → is_mid_word default ≡ false → is_missing_row_of_mid_word row ≡ false → is_mid_word (taken_missing c default row) ≡ false
  taken_plain default (MissingLine row) plain none = by (within c row.span)
    where
      by : (covers : Bool) → is_mid_word (cond covers row.value default) ≡ false
      by true = none
      by false = plain
  taken_plain default (DataLine row) plain none = plain
  taken_plain default (ValueLine row) plain none = plain
  taken_plain default (ExclusionLine row) plain none = plain
  taken_plain default (FoldLine row) plain none = plain
  taken_plain default (CasingLine row) plain none = plain
  taken_plain default (AliasLine row) plain none = plain

  missing_plain : (rows : List Row) (default : List ℕ) → is_mid_word default ≡ false → list_any is_missing_row_of_mid_word rows ≡ false → is_mid_word (missing_value rows default c) ≡ false
  missing_plain [] default plain none = plain
  missing_plain (row ∷ rows) default plain none =
      let p = or_parts (is_missing_row_of_mid_word row) (list_any is_missing_row_of_mid_word rows) none in
      missing_plain rows (taken_missing c default row) (taken_plain default row plain p.0) p.1

  pub plain_is : (rows : List Row) → AreApart (gives_some c) rows → list_any is_missing_row_of_mid_word rows ≡ false → list_any (gives_mid_word c) rows ≡ mid_word_at rows c
  plain_is rows apart none = given_is (missing_value rows default_word_break c) (missing_plain rows default_word_break refl none) rows apart

  -- ---- layers

  covered_by : (covers : Bool) (value other : List ℕ) (word : ℕ) → word ≡ one_if (is_mid_word other) → cond covers (one_if (is_mid_word value)) word ≡ one_if (is_mid_word (cond covers value other))
  covered_by true value other word was = refl
  covered_by false value other word was = was

  -- a missing row lies over those above it
  pub missing_over : (default : List ℕ) (word : ℕ) (row : Row) → word ≡ one_if (is_mid_word default) → layer_over c (missing_layer row) word ≡ one_if (is_mid_word (taken_missing c default row))
  missing_over default word (MissingLine row) was = covered_by (within c row.span) row.value default word was
  missing_over default word (DataLine row) was = was
  missing_over default word (ValueLine row) was = was
  missing_over default word (ExclusionLine row) was = was
  missing_over default word (FoldLine row) was = was
  missing_over default word (CasingLine row) was = was
  missing_over default word (AliasLine row) was = was

  -- the layer of one more missing row, and of one more other row
  pub missing_more : (rows : List Row) (i : ℕ) (d row : Row) (word new : ℕ) (layer : Option Layer) → i < length rows → row ≡ get_or rows i d → new ≡ layer_over c layer word → layer ≡ missing_layer row
      → word ≡ one_if (is_mid_word (missing_value (take i rows) default_word_break c)) → new ≡ one_if (is_mid_word (missing_value (take (i + 1) rows) default_word_break c))
  missing_more rows i d row word new layer inside is over of was =
      over ∙ ap (λ o. layer_over c o word) (of ∙ ap missing_layer is)
      ∙ missing_over (missing_value (take i rows) default_word_break c) word (get_or rows i d) was
      ∙ sym (ap (λ value. one_if (is_mid_word value)) (fold_more (taken_missing c) default_word_break rows i d inside))
