-- The texts of the names of keys.
use Rattle.std.proofs.Common.{◌≡◌, ℕ, zero, suc, ◌-◌, ◌<◌, ◌≤◌, true, false, not, ◌&&◌, leb, eqb, List, [], ◌∷◌, ◌++◌, take, refl, ap, ◌∙◌, arith, append_assoc, lit≤, sym, inl, inr, codes, append-nil}
use Rattle.std.specs.List.{All, list_all, list_any, slice_split, flat_map, join_with_byte}
use Rattle.std.proofs.lemmas.Bool.{and_parts, ne_eqb, or_parts, not-true}
use Rattle.std.proofs.lemmas.List.Elements.{All-nil, All-cons, All-head, All-tail, All-take, All-weaker}
use Rattle.std.proofs.lemmas.List.Splits.{slice_split_none, slice_split_at}
use Rattle.ucd_points.specs.Fields.{field, is_semicolon, is_name, is_name_byte}
use Rattle.ucd_points.specs.HexText.{hex_text}
use Rattle.ucd_points.specs.HexTextLaws.{IsUpperHex}
use Rattle.ucd_points.specs.HexTextProofs.{hex_text_is_upper_case}
use Rattle.ucd_facts.specs.OtherLines.{is_name_or_empty}
use Rattle.ucd_facts.specs.RowValues.{IsAliasName, AliasOk, RowOk}
use Rattle.ucd_points.specs.declared.files.SourceFile.TheVariants.{UnicodeData, PropList, Scripts, WordBreakProperty, CompositionExclusions, CaseFolding, SpecialCasing, PropertyAliases, PropertyValueAliases}
use Rattle.ucd_facts.specs.declared.row.AliasRow.{AliasRow}
use Rattle.ucd_facts.specs.declared.row.CasingRow.{CasingRow}
use Rattle.ucd_facts.specs.declared.row.Row.TheVariants.{Casing as CasingLine, Alias as AliasLine}
use Rattle.source_rows.specs.Keys.{condition_names, alias_count, missing_names, key_names, SourceFile}
use Rattle.release_rows.specs.Names.{first_names}
use Rattle.release_rows.specs.Places.{names_of}

-- no byte is a `;`
abbrev pub Plain : List ℕ → Type 0
Plain n = All (λ b. is_semicolon b ≡ false) n

plain_byte : (b : ℕ) → is_name_byte b ≡ true → is_semicolon b ≡ false
plain_byte b h = not-true (eqb b 59) (and_parts (leb 32 b && leb b 126) (not (eqb b 59)) h).1

plain_bytes : (bs : List ℕ) → list_all is_name_byte bs ≡ true → Plain bs
plain_bytes [] h = All-nil (λ b. is_semicolon b ≡ false)
plain_bytes (b ∷ bs) h = let parts = and_parts (is_name_byte b) (list_all is_name_byte bs) h in All-cons (λ b. is_semicolon b ≡ false) b bs (plain_byte b parts.0) (plain_bytes bs parts.1)

plain_from : (bs : List ℕ) → list_any is_semicolon bs ≡ false → Plain bs
plain_from [] h = All-nil (λ b. is_semicolon b ≡ false)
plain_from (b ∷ bs) h = let parts = or_parts (is_semicolon b) (list_any is_semicolon bs) h in All-cons (λ b. is_semicolon b ≡ false) b bs parts.0 (plain_from bs parts.1)

plain_name : (n : List ℕ) → is_name_or_empty n ≡ true → Plain n
plain_name [] h = All-nil (λ b. is_semicolon b ≡ false)
plain_name (b ∷ bs) h = plain_bytes (b ∷ bs) h

-- a value is the one name of its text
pub one_name : (n : List ℕ) → is_name n ≡ true → names_of n ≡ n ∷ []
one_name [] h = absurd cc
one_name (b ∷ bs) h = slice_split_none is_semicolon (b ∷ bs) (plain_bytes (b ∷ bs) h)

-- so are conditions, and there is no name where there are none
pub some_conditions : (n : List ℕ) → list_any is_semicolon n ≡ false → names_of n ≡ condition_names n
some_conditions [] h = refl
some_conditions (b ∷ bs) h = slice_split_none is_semicolon (b ∷ bs) (plain_from (b ∷ bs) h)

-- ---- names with `;` between them

-- each name behind a `;`
abbrev pub names_behind : List (List ℕ) → List ℕ
names_behind ns = flat_map (λ n. 59 ∷ n) ns

-- a name, and those behind it
joined_names : (n : List ℕ) (ns : List (List ℕ)) → n ++ names_behind ns ≡ join_with_byte 59 (n ∷ ns)
joined_names n [] = append-nil n
joined_names n (m ∷ ms) = ap (λ (bs : List ℕ). n ++ 59 ∷ bs) (joined_names m ms)

-- a name, and as many of those behind it as the count leaves
pub first_and_behind : (count : ℕ) (n : List ℕ) (ns : List (List ℕ)) → 1 ≤ count → n ++ names_behind (take (count - 1) ns) ≡ first_names count (n ∷ ns)
first_and_behind zero n ns some = absurd (omega (arith, some))
first_and_behind (suc count) n ns some =
    let less : suc count - 1 ≡ count = omega arith in
    rw less (joined_names n (take count ns))

split_names : (n : List ℕ) (ns : List (List ℕ)) → Plain n → All Plain ns → slice_split is_semicolon (n ++ names_behind ns) ≡ n ∷ ns
split_names n [] one more = ap (λ (bs : List ℕ). slice_split is_semicolon bs) (append-nil n) ∙ slice_split_none is_semicolon n one
split_names n (m ∷ ms) one more = slice_split_at is_semicolon n 59 (m ++ names_behind ms) one refl ∙ ap (λ (rest : List (List ℕ)). n ∷ rest) (split_names m ms (All-head Plain m ms more) (All-tail Plain m ms more))

all_plain : (ns : List (List ℕ)) → All IsAliasName ns → All Plain ns
all_plain [] h = All-nil Plain
all_plain (n ∷ ns) h = All-cons Plain n ns (plain_name n (All-head IsAliasName n ns h).name) (all_plain ns (All-tail IsAliasName n ns h))

pub first_names_are : (count : ℕ) (n : List ℕ) (ns : List (List ℕ)) → 1 ≤ count → is_name n ≡ true → All IsAliasName (n ∷ ns) → names_of (first_names count (n ∷ ns)) ≡ take count (n ∷ ns)
first_names_are zero n ns some name all = absurd (omega (arith, some))
first_names_are (suc count) [] ns some name all = absurd cc
first_names_are (suc count) (b ∷ bs) ns some name all =
    let cut = split_names (b ∷ bs) (take count ns) (plain_bytes (b ∷ bs) name) (All-take Plain count ns (all_plain ns (All-tail IsAliasName (b ∷ bs) ns all))) in
    ap (λ (text : List ℕ). names_of text) (sym (joined_names (b ∷ bs) (take count ns))) ∙ cut

-- one more name behind those so far
pub more_names : (text n : List ℕ) (left : ℕ) (ns : List (List ℕ)) → 0 < left → ((text ++ 59 ∷ []) ++ n) ++ names_behind (take (left - 1) ns) ≡ text ++ names_behind (take left (n ∷ ns))
more_names text n zero ns some = absurd (omega (arith, some))
more_names text n (suc left) ns some =
    let less : suc left - 1 ≡ left = omega arith in
    rw less (append_assoc (text ++ 59 ∷ []) n (names_behind (take left ns)) ∙ append_assoc text (59 ∷ []) (n ++ names_behind (take left ns)))

-- the conditions of a casing that its file can have
pub casing_text : (file : SourceFile) (row : CasingRow) → RowOk file (CasingLine row) → names_of row.conditions ≡ condition_names row.conditions
casing_text SpecialCasing row ok = some_conditions row.conditions ok.no_semicolon
casing_text UnicodeData row ok = absurd ok
casing_text PropList row ok = absurd ok
casing_text Scripts row ok = absurd ok
casing_text WordBreakProperty row ok = absurd ok
casing_text CompositionExclusions row ok = absurd ok
casing_text CaseFolding row ok = absurd ok
casing_text PropertyAliases row ok = absurd ok
casing_text PropertyValueAliases row ok = absurd ok

-- the names of a missing row's key
plain_digits : (c : ℕ) → Plain (hex_text c)
plain_digits c = All-weaker IsUpperHex (λ b. is_semicolon b ≡ false) plain_digit (hex_text c) (hex_text_is_upper_case c)
  where
    plain_digit : (b : ℕ) → IsUpperHex b → is_semicolon b ≡ false
    plain_digit b (inl low) = ne_eqb b 59 (λ e. omega (arith, low.1, e))
    plain_digit b (inr high) = ne_eqb b 59 (λ e. omega (arith, high.0, e))

pub missing_text : (c : ℕ) → names_of (codes "@missing;" ++ hex_text c) ≡ missing_names c
missing_text c =
    slice_split_at is_semicolon (codes "@missing") 59 (hex_text c) (plain_from (codes "@missing") refl) refl
    ∙ ap (λ (rest : List (List ℕ)). codes "@missing" ∷ rest) (slice_split_none is_semicolon (hex_text c) (plain_digits c))

-- ---- rows of names

alias_by : (count : ℕ) (row : AliasRow) → 1 ≤ count → AliasOk count row → names_of (first_names count row.names) ≡ take count row.names
alias_by count row some ok = by_names row.names ok.first ok.each
  where
    by_names : (ns : List (List ℕ)) → is_name (field ns 0) ≡ true → All IsAliasName ns → names_of (first_names count ns) ≡ take count ns
    by_names [] first each = absurd cc
    by_names (n ∷ ns) first each = first_names_are count n ns some first each

-- the names in the key of a row of names that its file can have
pub alias_text : (file : SourceFile) (row : AliasRow) → RowOk file (AliasLine row) → names_of (first_names (alias_count file) row.names) ≡ key_names file (AliasLine row)
alias_text PropertyAliases row ok = alias_by 2 row (lit≤ tt) ok
alias_text PropertyValueAliases row ok = alias_by 3 row (lit≤ tt) ok
alias_text UnicodeData row ok = absurd ok
alias_text PropList row ok = absurd ok
alias_text Scripts row ok = absurd ok
alias_text WordBreakProperty row ok = absurd ok
alias_text CompositionExclusions row ok = absurd ok
alias_text CaseFolding row ok = absurd ok
alias_text SpecialCasing row ok = absurd ok
