-- The row values that a file can have are those that some bytes are read as.
use Rattle.std.proofs.Common.{◌≡◌, ℕ, ◌≤◌, Bool, true, false, List, [], ◌∷◌, length, unwrap_or, refl, sym, ap, subst, ◌∙◌, arith, inl, inr, Ok}
use Rattle.std.specs.List.{All, list_all, before_first}
use Rattle.std.proofs.lemmas.Bool.{and_parts}
use Rattle.std.proofs.lemmas.List.Elements.{All-nil, All-cons, All-head, All-tail}
use Rattle.ucd_points.specs.Lines.{is_lf, holds_line_feed, without_return}
use Rattle.ucd_points.specs.Fields.{fields, field, is_semicolon, is_hash, is_name, is_range_name}
use Rattle.ucd_points.specs.MissingLines.{missing_rest}
use Rattle.ucd_facts.specs.DataLines.{ReadsValues, ReadsSingle, ReadsPair}
use Rattle.ucd_facts.specs.OtherLines.{ReadsValue, ReadsExclusion, ReadsFold, ReadsCasing, ReadsAlias, is_name_or_empty}
use Rattle.ucd_facts.specs.Grammar.{ReadsLine, ReadsRange, IsRange, Reads}
use Rattle.ucd_facts.specs.RowTexts.{row_text}
use Rattle.ucd_facts.specs.RowValues.{IsSpan, IsKept, IsTrimmed, IsValueName, SingleOk, NameOk, DataOk, ValueOk, ExclusionOk, FoldOk, CasingOk, IsAliasName, AliasOk, RowOk}
use Rattle.ucd_points.specs.declared.files.SourceFile.TheVariants.{UnicodeData, PropList, Scripts, WordBreakProperty, CompositionExclusions, CaseFolding, SpecialCasing, PropertyAliases, PropertyValueAliases}
use Rattle.ucd_facts.specs.declared.row.OtherFields.{OtherFields}
use Rattle.ucd_facts.specs.declared.row.DataRow.{DataRow}
use Rattle.ucd_facts.specs.declared.row.ValueRow.{ValueRow}
use Rattle.ucd_facts.specs.declared.row.ExclusionRow.{ExclusionRow}
use Rattle.ucd_facts.specs.declared.row.FoldRow.{FoldRow}
use Rattle.ucd_facts.specs.declared.row.CasingRow.{CasingRow}
use Rattle.ucd_facts.specs.declared.row.AliasRow.{AliasRow}
use Rattle.ucd_facts.specs.declared.row.Row.TheVariants.{Unit as DataLine, Value as ValueLine, Exclusion as ExclusionLine, Fold as FoldLine, Casing as CasingLine, Alias as AliasLine, Missing as MissingLine}
use Rattle.source_rows.specs.Fields.{fields_of, row_fields}
use Rattle.source_rows.specs.Laws.{PossibleRowsAreReadable}
use Rattle.source_rows.proofs.Lacks.{Lacks}
use Rattle.source_rows.proofs.Seams.{lacks_before}
use Rattle.source_rows.proofs.FieldValues.{fields_kept, fields_lack, at_field, empty_kept, lacks_take, lacks_return}
use Rattle.source_rows.proofs.MissingLines.{rest_lacks}
use Rattle.source_rows.proofs.ReadValues.{is_point, is_span, is_mapping, decomposition_ok, case_ok, class_ok, not_unassigned, spaced_lacks, conditions_again}
use Rattle.source_rows.proofs.WordTexts.{conditions_are}
use Rattle.source_rows.specs.Faults.{row_or_fault, SourceFile, Row}
use Rattle.source_rows.proofs.Grammar.{rows_are_read}
use Rattle.source_rows.proofs.RoundTrips.{text_reads}

-- ---- UnicodeData.txt

kept_field : (text : List ℕ) (n : ℕ) → Lacks is_lf text → IsKept (field (fields_of text) n)
kept_field text n h = at_field IsKept (fields_of text) n empty_kept (fields_kept text h)

data_ok : (text : List ℕ) (row : DataRow) → Lacks is_lf text → ReadsValues (fields_of text) row → IsSpan row.span → NameOk row.range row → DataOk row
data_ok text row h v span name = record {
  span = span;
  name = name;
  category = not_unassigned (field (fields_of text) 2) row.category v.category;
  class = class_ok (field (fields_of text) 3) row.class v.class;
  decomposition = decomposition_ok (field (fields_of text) 5) row.kind row.mapping v.decomposition;
  upper = case_ok (field (fields_of text) 12) row.upper v.upper;
  lower = case_ok (field (fields_of text) 13) row.lower v.lower;
  title = case_ok (field (fields_of text) 14) row.title v.title;
  f4 = subst (λ (k : OtherFields). IsKept k.f4) (sym v.kept) (kept_field text 4 h);
  f6 = subst (λ (k : OtherFields). IsKept k.f6) (sym v.kept) (kept_field text 6 h);
  f7 = subst (λ (k : OtherFields). IsKept k.f7) (sym v.kept) (kept_field text 7 h);
  f8 = subst (λ (k : OtherFields). IsKept k.f8) (sym v.kept) (kept_field text 8 h);
  f9 = subst (λ (k : OtherFields). IsKept k.f9) (sym v.kept) (kept_field text 9 h);
  f10 = subst (λ (k : OtherFields). IsKept k.f10) (sym v.kept) (kept_field text 10 h);
  f11 = subst (λ (k : OtherFields). IsKept k.f11) (sym v.kept) (kept_field text 11 h);
}

single_ok : (text : List ℕ) (row : DataRow) → Lacks is_lf text → ReadsSingle (fields_of text) row → DataOk row
single_ok text row h r =
    let lo = is_point (field (fields_of text) 0) row.span.lo r.code in
    let named = kept_field text 1 h in
    let alone : SingleOk row = record { one = r.one; name = ap is_name r.name ∙ r.is_named; trimmed = subst (λ (bs : List ℕ). IsTrimmed bs) (sym r.name) named.trimmed; no_range = ap is_range_name r.name ∙ r.no_range } in
    data_ok text row h r.values (omega (arith, r.one), omega (arith, r.one)) (subst (λ (b : Bool). NameOk b row) (sym r.single) alone)

pair_ok : (text : List ℕ) (last : List (List ℕ)) (row : DataRow) → Lacks is_lf text → ReadsPair (fields_of text) last row → DataOk row
pair_ok text last row h r =
    let hi = is_point (field last 0) row.span.hi r.last_code in
    data_ok text row h r.values (r.ordered, hi) (subst (λ (b : Bool). NameOk b row) (sym r.range) r.label)

range_ok : (bytes : List ℕ) (row : DataRow) → ReadsRange bytes row → DataOk row
unfolding fields
range_ok bytes row r = pair_ok (without_return r.front) (fields UnicodeData r.last) row (lacks_return is_lf r.front r.one_line) r.pair

-- ---- the other files

-- the text before a comment
abbrev before : List ℕ → List ℕ
before text = before_first is_hash text

no_feed_before : (text : List ℕ) → Lacks is_lf text → Lacks is_lf (before text)
no_feed_before text h = lacks_take is_lf _ text h

hash_field : (text : List ℕ) (n : ℕ) → Lacks is_hash (field (fields_of (before text)) n)
hash_field text n = at_field (Lacks is_hash) (fields_of (before text)) n refl (fields_lack is_hash (before text) (lacks_before is_hash text))

value_ok : (text : List ℕ) (row : ValueRow) → Lacks is_lf text → ReadsValue (fields_of (before text)) row → ValueOk row
value_ok text row h r =
    let named = kept_field (before text) 1 (no_feed_before text h) in
    let value : IsValueName (field (fields_of (before text)) 1) = record { name = r.name; trimmed = named.trimmed; no_hash = hash_field text 1 } in
    record { span = is_span (field (fields_of (before text)) 0) row.span r.span; value = subst (λ (bs : List ℕ). IsValueName bs) (sym r.value) value }

exclusion_ok : (text : List ℕ) (row : ExclusionRow) → ReadsExclusion (fields_of (before text)) row → ExclusionOk row
exclusion_ok text row r = is_span (field (fields_of (before text)) 0) row.span r.span

fold_ok : (text : List ℕ) (row : FoldRow) → ReadsFold (fields_of (before text)) row → FoldOk row
fold_ok text row r = record { code = is_point (field (fields_of (before text)) 0) row.code r.code; mapping = is_mapping (field (fields_of (before text)) 2) row.mapping r.mapping; length_fits = r.length_fits }

casing_ok : (text : List ℕ) (row : CasingRow) → Lacks is_lf text → ReadsCasing (fields_of (before text)) row → CasingOk row
casing_ok text row h r =
    let f = field (fields_of (before text)) 4 in
    let kept = kept_field (before text) 4 (no_feed_before text h) in
    let same = (conditions_are f row.conditions r.conditions).1 in
    record {
      code = is_point (field (fields_of (before text)) 0) row.code r.code;
      lower = is_mapping (field (fields_of (before text)) 1) row.lower r.lower;
      title = is_mapping (field (fields_of (before text)) 2) row.title r.title;
      upper = is_mapping (field (fields_of (before text)) 3) row.upper r.upper;
      conditions = conditions_again f row.conditions r.conditions;
      no_semicolon = subst (λ (bs : List ℕ). Lacks is_semicolon bs) same (spaced_lacks is_semicolon f refl kept.no_semicolon);
      no_hash = subst (λ (bs : List ℕ). Lacks is_hash bs) same (spaced_lacks is_hash f refl (hash_field text 4));
    }

each_name : (fs : List (List ℕ)) → All IsKept fs → All (Lacks is_hash) fs → list_all is_name_or_empty fs ≡ true → All IsAliasName fs
each_name [] k h n = All-nil IsAliasName
each_name (f ∷ fs) k h n =
    let first = All-head IsKept f fs k in
    let named = and_parts (is_name_or_empty f) (list_all is_name_or_empty fs) n in
    All-cons IsAliasName f fs (record { name = named.0; trimmed = first.trimmed; no_hash = All-head (Lacks is_hash) f fs h }) (each_name fs (All-tail IsKept f fs k) (All-tail (Lacks is_hash) f fs h) named.1)

alias_ok : (least : ℕ) (text : List ℕ) (row : AliasRow) → Lacks is_lf text → ReadsAlias least (fields_of (before text)) row → AliasOk least row
alias_ok least text row h r =
    let fs = fields_of (before text) in
    let names : All IsAliasName fs = each_name fs (fields_kept (before text) (no_feed_before text h)) (fields_lack is_hash (before text) (lacks_before is_hash text)) r.others in
    record { count = subst (λ (ns : List (List ℕ)). least ≤ length ns) (sym r.names) r.count; first = ap (λ (ns : List (List ℕ)). is_name (field ns 0)) r.names ∙ r.first; each = subst (λ (ns : List (List ℕ)). All IsAliasName ns) (sym r.names) names }

-- ---- all files

-- of a missing line the text is what stands behind its mark
values_ok : (file : SourceFile) (bytes : List ℕ) (row : ValueRow) → Lacks is_lf bytes → ReadsValue (row_fields file bytes) row → ValueOk row
values_ok file bytes row h r = value_ok (unwrap_or (missing_rest file bytes) bytes) row (rest_lacks is_lf file bytes h) r

line_ok : (file : SourceFile) (bytes : List ℕ) (row : Row) → holds_line_feed bytes ≡ false → ReadsLine file bytes row → RowOk file row
unfolding fields missing_rest
line_ok UnicodeData bytes (DataLine row) h r = single_ok bytes row h r
line_ok PropList bytes (ValueLine row) h r = value_ok bytes row h r
line_ok Scripts bytes (ValueLine row) h r = values_ok Scripts bytes row h r.1
line_ok Scripts bytes (MissingLine row) h r = values_ok Scripts bytes row h r.1
line_ok WordBreakProperty bytes (ValueLine row) h r = values_ok WordBreakProperty bytes row h r.1
line_ok WordBreakProperty bytes (MissingLine row) h r = values_ok WordBreakProperty bytes row h r.1
line_ok CompositionExclusions bytes (ExclusionLine row) h r = exclusion_ok bytes row r
line_ok CaseFolding bytes (FoldLine row) h r = fold_ok bytes row r
line_ok SpecialCasing bytes (CasingLine row) h r = casing_ok bytes row h r
line_ok PropertyAliases bytes (AliasLine row) h r = alias_ok 2 bytes row h r
line_ok PropertyValueAliases bytes (AliasLine row) h r = alias_ok 3 bytes row h r
line_ok _ bytes _ h r = absurd r

lines_ok : (file : SourceFile) (bytes : List ℕ) (row : Row) → IsRange file bytes row → RowOk file row
lines_ok UnicodeData bytes (DataLine row) r = range_ok bytes row r
lines_ok UnicodeData bytes _ r = absurd r
lines_ok _ bytes row r = absurd r

read_ok : (file : SourceFile) (bytes : List ℕ) (row : Row) → Reads file bytes row → RowOk file row
read_ok file bytes row (inl line) = line_ok file bytes row line.0 line.1
read_ok file bytes row (inr range) = lines_ok file bytes row range

pub rows_are_ok : PossibleRowsAreReadable
rows_are_ok file row = (λ ok. (row_text file row, text_reads file row ok), λ some. read_ok file some.0 row some.1)

-- what was read as a row
pub row_ok : (file : SourceFile) (bytes : List ℕ) (row : Row) → row_or_fault file bytes ≡ Ok row → RowOk file row
row_ok file bytes row h = read_ok file bytes row ((rows_are_read file bytes row).0 h)
