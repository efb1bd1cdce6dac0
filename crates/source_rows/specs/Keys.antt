-- What a row is found by, and the order of what it is found by.
-- row_span row              the code points that the row speaks of; the one of a folding or a casing. A row of names has 0
-- one_point c               the code points from c to c
-- condition_names bs        the conditions as one name; no name where there are none
-- value_names file value    the value as one name in PropList.txt; no name in every other file
-- alias_count file          how many names of an alias row its key has: two in PropertyAliases.txt, three in
--                           PropertyValueAliases.txt
-- missing_names c           the names in the key of a missing row whose span ends with c: `@missing`, and the digits of c
-- key_names file row        the names in the row's key: the property of PropList.txt, the status of a folding, the conditions
--                           of a casing where there are any, the first two or three names of an alias row, and those of a missing
--                           row, so that its key is its whole span
-- key_code row              the first code point of the row; None of a row of names
-- key_of file row           the key: that code point, and those names
-- same_texts a b            the same texts, byte by byte
-- same_code a b             the same code point, or none in both
-- equal_keys a b            the same names, and the same code point
-- code_number code          the code point; 0 where there is none
-- key_cmp a b               by the code point, and then by the names, one after the other, each by its bytes. So a name is
--                           before each longer one that begins with it
-- is_before a b             a comes before b in this order
use Rattle.std.specs.Prelude.{ℕ, Bool, true, false, ◌&&◌, List, [], ◌∷◌, take, Option, Some, None, ◌==◌, codes, bytes_eq}
use Rattle.std.specs.Cmp.Lexicographic.{pointwise, slice_cmp}
use Rattle.std.specs.Ordering.{ordering_then, nat_cmp, is_lt}
use Rattle.std.specs.declared.cmp.Ordering.{Ordering}
use Rattle.ucd_points.specs.Bounds.{Bounds}
use Rattle.ucd_points.specs.HexText.{hex_text}
use Rattle.ucd_facts.specs.Names.{status_code}
pub use Rattle.ucd_points.specs.declared.files.SourceFile.{SourceFile}
use Rattle.ucd_points.specs.declared.files.SourceFile.TheVariants.{PropList, PropertyAliases}
pub use Rattle.ucd_facts.specs.declared.row.Row.{Row}
use Rattle.ucd_facts.specs.declared.row.Row.TheVariants.{Unit as DataLine, Value as ValueLine, Exclusion as ExclusionLine, Fold as FoldLine, Casing as CasingLine, Alias as AliasLine, Missing as MissingLine}
use Rattle.source_rows.specs.declared.key.Key.{Key}

abbrev one_point : ℕ → Bounds
one_point c = record { lo = c; hi = c }

abbrev pub row_span : Row → Bounds
row_span (DataLine row) = row.span
row_span (ValueLine row) = row.span
row_span (ExclusionLine row) = row.span
row_span (FoldLine row) = one_point row.code
row_span (CasingLine row) = one_point row.code
row_span (AliasLine row) = one_point 0
row_span (MissingLine row) = row.span

abbrev pub condition_names : List ℕ → List (List ℕ)
condition_names [] = []
condition_names (b ∷ bs) = (b ∷ bs) ∷ []

abbrev pub value_names : SourceFile → List ℕ → List (List ℕ)
value_names PropList value = value ∷ []
value_names _ value = []

abbrev pub alias_count : SourceFile → ℕ
alias_count PropertyAliases = 2
alias_count _ = 3

abbrev pub missing_names : ℕ → List (List ℕ)
missing_names c = codes "@missing" ∷ hex_text c ∷ []

abbrev pub key_names : SourceFile → Row → List (List ℕ)
key_names file (ValueLine row) = value_names file row.value
key_names file (FoldLine row) = (status_code row.status ∷ []) ∷ []
key_names file (CasingLine row) = condition_names row.conditions
key_names file (AliasLine row) = take (alias_count file) row.names
key_names file (DataLine row) = []
key_names file (ExclusionLine row) = []
key_names file (MissingLine row) = missing_names row.span.hi

abbrev pub key_code : Row → Option ℕ
key_code (DataLine row) = Some row.span.lo
key_code (ValueLine row) = Some row.span.lo
key_code (ExclusionLine row) = Some row.span.lo
key_code (FoldLine row) = Some row.code
key_code (CasingLine row) = Some row.code
key_code (AliasLine row) = None
key_code (MissingLine row) = Some row.span.lo

abbrev pub key_of : SourceFile → Row → Key
key_of file row = record { code = key_code row; names = key_names file row }

-- ---- equal keys

abbrev pub same_texts : List (List ℕ) → List (List ℕ) → Bool
same_texts a b = pointwise bytes_eq a b

abbrev pub same_code : Option ℕ → Option ℕ → Bool
same_code (Some a) (Some b) = a == b
same_code None None = true
same_code _ _ = false

abbrev pub equal_keys : Key → Key → Bool
equal_keys a b = same_texts a.names b.names && same_code a.code b.code

-- ---- keys in order

abbrev pub code_number : Option ℕ → ℕ
code_number (Some c) = c
code_number None = 0

abbrev pub key_cmp : Key → Key → Ordering
key_cmp a b = ordering_then (nat_cmp (code_number a.code) (code_number b.code)) (slice_cmp (slice_cmp nat_cmp) a.names b.names)

abbrev pub is_before : Key → Key → Bool
is_before a b = is_lt (key_cmp a b)
