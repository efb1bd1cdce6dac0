-- Which texts stand for which keys, and the first rule that a text breaks.
-- ReadsCodeKey fs key           a code point
-- ReadsPropertyKey fs key       a code point, and a name
-- ReadsFoldKey fs key           a code point, and a status; the key has its letter
-- ReadsCasingKey fs key         a code point, and conditions or none; no conditions may be an empty field or no field
-- ReadsAliasKey count fs key    so many names; a name after the first may be empty
-- ReadsMissingKey fs key        a span, which is the key of a missing row
-- ReadsValueKey missing fs key  that key, of a missing line; a code point of every other line
-- ReadsKeyLine file bytes key   the fields stand for the key of a row of the file; behind the mark `# @missing:` for that of a
--                               missing row
-- ReadsKey file bytes key       the text of a key, without a LF, stands for the key. Outside of UnicodeData.txt a comment is no
--                               part of it
-- key_at c names                the key of this code point and these names
-- code_key, missing_key, value_key, property_key, fold_key, casing_key, alias_key   the key, or the first rule that the fields break: their number (G03)
--                               and then the fields in order, each with the rule that it has in a row
-- key_line_or_fault file bytes  the same, by the file
-- key_or_fault file bytes       the same of a text; bytes with a LF have G03
-- ReadsKeyAs result expected    a result is what was expected; no claim if memory ran out
-- KeysAreRead                   a key is given exactly where the text stands for that key
use Rattle.std.specs.Prelude.{◌≡◌, ◌↔◌, ℕ, ◌≤◌, Bool, true, false, List, [], ◌∷◌, length, Some, None, Result, Ok, Err, ◌==◌, nat_le, if◌then◌else◌}
use Rattle.std.specs.List.{list_all}
use Rattle.ucd_points.specs.Answers.{AnswersBy}
use Rattle.ucd_points.specs.Lines.{holds_line_feed}
use Rattle.ucd_points.specs.Bounds.{Bounds}
use Rattle.ucd_points.specs.Fields.{fields, field, point_of, SpellsSpan, span_of, is_name}
use Rattle.ucd_points.specs.MissingLines.{is_missing}
use Rattle.ucd_facts.specs.Mappings.{conditions_of}
use Rattle.ucd_facts.specs.Names.{status_of, status_code}
use Rattle.ucd_facts.specs.OtherLines.{is_name_or_empty}
use Rattle.ucd_points.specs.declared.files.SourceFile.TheVariants.{UnicodeData, PropList, Scripts, WordBreakProperty, CompositionExclusions, CaseFolding, SpecialCasing, PropertyAliases, PropertyValueAliases}
use Rattle.ucd_facts.specs.declared.row.FoldStatus.{FoldStatus}
use Rattle.source_rows.specs.Faults.{fault_of}
use Rattle.source_rows.specs.Keys.{condition_names, missing_names, SourceFile}
use Rattle.source_rows.specs.OtherFaults.{names_of}
use Rattle.source_rows.specs.Steps.{or_fault}
use Rattle.source_rows.specs.declared.fault.RowFault.{RowFault}
use Rattle.source_rows.specs.declared.fault.RowFault.TheVariants.{G03, G04, G08, G11}
use Rattle.source_rows.specs.declared.fault.RowStop.{RowStop}
use Rattle.source_rows.specs.declared.key.Key.{Key}

-- ---- which texts stand for which keys

pub record ReadsCodeKey (fs : List (List ℕ)) (key : Key) : Type 0 where
  pub count : length fs ≡ 1
  pub point : ℕ
  pub spelled : point_of (field fs 0) ≡ Some point
  pub code : key.code ≡ Some point
  pub names : key.names ≡ []

pub record ReadsPropertyKey (fs : List (List ℕ)) (key : Key) : Type 0 where
  pub count : length fs ≡ 2
  pub point : ℕ
  pub spelled : point_of (field fs 0) ≡ Some point
  pub code : key.code ≡ Some point
  pub named : is_name (field fs 1) ≡ true
  pub names : key.names ≡ field fs 1 ∷ []

pub record ReadsFoldKey (fs : List (List ℕ)) (key : Key) : Type 0 where
  pub count : length fs ≡ 2
  pub point : ℕ
  pub spelled : point_of (field fs 0) ≡ Some point
  pub code : key.code ≡ Some point
  pub status : FoldStatus
  pub lettered : status_of (field fs 1) ≡ Some status
  pub names : key.names ≡ (status_code status ∷ []) ∷ []

pub record ReadsCasingKey (fs : List (List ℕ)) (key : Key) : Type 0 where
  pub most : length fs ≤ 2
  pub point : ℕ
  pub spelled : point_of (field fs 0) ≡ Some point
  pub code : key.code ≡ Some point
  pub conditions : List ℕ
  pub worded : conditions_of (field fs 1) ≡ Some conditions
  pub names : key.names ≡ condition_names conditions

pub record ReadsAliasKey (count : ℕ) (fs : List (List ℕ)) (key : Key) : Type 0 where
  pub as_many : length fs ≡ count
  pub first : is_name (field fs 0) ≡ true
  pub others : list_all is_name_or_empty fs ≡ true
  pub code : key.code ≡ None
  pub names : key.names ≡ fs

pub record ReadsMissingKey (fs : List (List ℕ)) (key : Key) : Type 0 where
  pub count : length fs ≡ 1
  pub span : Bounds
  pub spelled : SpellsSpan (field fs 0) span
  pub code : key.code ≡ Some span.lo
  pub names : key.names ≡ missing_names span.hi

abbrev pub ReadsValueKey : Bool → List (List ℕ) → Key → Type 0
ReadsValueKey true fs key = ReadsMissingKey fs key
ReadsValueKey false fs key = ReadsCodeKey fs key

abbrev pub ReadsKeyLine : SourceFile → List ℕ → Key → Type 0
ReadsKeyLine UnicodeData bytes key = ReadsCodeKey (fields UnicodeData bytes) key
ReadsKeyLine PropList bytes key = ReadsPropertyKey (fields PropList bytes) key
ReadsKeyLine Scripts bytes key = ReadsValueKey (is_missing Scripts bytes) (fields Scripts bytes) key
ReadsKeyLine WordBreakProperty bytes key = ReadsValueKey (is_missing WordBreakProperty bytes) (fields WordBreakProperty bytes) key
ReadsKeyLine CompositionExclusions bytes key = ReadsCodeKey (fields CompositionExclusions bytes) key
ReadsKeyLine CaseFolding bytes key = ReadsFoldKey (fields CaseFolding bytes) key
ReadsKeyLine SpecialCasing bytes key = ReadsCasingKey (fields SpecialCasing bytes) key
ReadsKeyLine PropertyAliases bytes key = ReadsAliasKey 2 (fields PropertyAliases bytes) key
ReadsKeyLine PropertyValueAliases bytes key = ReadsAliasKey 3 (fields PropertyValueAliases bytes) key

abbrev pub ReadsKey : SourceFile → List ℕ → Key → Type 0
ReadsKey file bytes key = (holds_line_feed bytes ≡ false) × ReadsKeyLine file bytes key

-- ---- the key, or the first rule

abbrev pub key_at : ℕ → List (List ℕ) → Key
key_at c names = record { code = Some c; names = names }

unfoldable pub code_key : List (List ℕ) → Result Key RowFault
code_key fs = if length fs == 1 then or_fault G04 (point_of (field fs 0)) (λ c. Ok (key_at c [])) else Err G03

unfoldable pub missing_key : List (List ℕ) → Result Key RowFault
missing_key fs = if length fs == 1 then or_fault G04 (span_of (field fs 0)) (λ s. Ok (key_at s.lo (missing_names s.hi))) else Err G03

abbrev pub value_key : Bool → List (List ℕ) → Result Key RowFault
value_key true fs = missing_key fs
value_key false fs = code_key fs

unfoldable pub property_key : List (List ℕ) → Result Key RowFault
property_key fs =
    if length fs == 2
    then or_fault G04 (point_of (field fs 0)) (λ c. if is_name (field fs 1) then Ok (key_at c (field fs 1 ∷ [])) else Err G11)
    else Err G03

unfoldable pub fold_key : List (List ℕ) → Result Key RowFault
fold_key fs =
    if length fs == 2
    then or_fault G04 (point_of (field fs 0)) (λ c. or_fault G08 (status_of (field fs 1)) (λ s. Ok (key_at c ((status_code s ∷ []) ∷ []))))
    else Err G03

unfoldable pub casing_key : List (List ℕ) → Result Key RowFault
casing_key fs =
    if nat_le (length fs) 2
    then or_fault G04 (point_of (field fs 0)) (λ c. or_fault G11 (conditions_of (field fs 1)) (λ conditions. Ok (key_at c (condition_names conditions))))
    else Err G03

unfoldable pub alias_key : ℕ → List (List ℕ) → Result Key RowFault
alias_key count fs = if length fs == count then (if is_name (field fs 0) then or_fault G11 (names_of fs) (λ names. Ok (record { code = None; names = names })) else Err G11) else Err G03

abbrev pub key_line_or_fault : SourceFile → List ℕ → Result Key RowFault
key_line_or_fault UnicodeData bytes = code_key (fields UnicodeData bytes)
key_line_or_fault PropList bytes = property_key (fields PropList bytes)
key_line_or_fault Scripts bytes = value_key (is_missing Scripts bytes) (fields Scripts bytes)
key_line_or_fault WordBreakProperty bytes = value_key (is_missing WordBreakProperty bytes) (fields WordBreakProperty bytes)
key_line_or_fault CompositionExclusions bytes = code_key (fields CompositionExclusions bytes)
key_line_or_fault CaseFolding bytes = fold_key (fields CaseFolding bytes)
key_line_or_fault SpecialCasing bytes = casing_key (fields SpecialCasing bytes)
key_line_or_fault PropertyAliases bytes = alias_key 2 (fields PropertyAliases bytes)
key_line_or_fault PropertyValueAliases bytes = alias_key 3 (fields PropertyValueAliases bytes)

unfoldable pub key_or_fault : SourceFile → List ℕ → Result Key RowFault
key_or_fault file bytes = if holds_line_feed bytes then Err G03 else key_line_or_fault file bytes

abbrev pub ReadsKeyAs : Result Key RowStop → Result Key RowFault → Type 0
ReadsKeyAs result expected = AnswersBy (λ key. key) fault_of result expected

abbrev pub KeysAreRead : Type 0
KeysAreRead = (file : SourceFile) (bytes : List ℕ) (key : Key) → (key_or_fault file bytes ≡ Ok key) ↔ ReadsKey file bytes key
