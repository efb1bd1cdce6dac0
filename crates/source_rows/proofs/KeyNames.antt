-- The names of a row's key and its group stand in its content.
use Rattle.std.proofs.Common.{ℕ, List, [], ◌∷◌, take, refl, sym, ap, inl, inr}
use Rattle.ucd_points.specs.Fields.{fields, field}
use Rattle.ucd_facts.specs.Grammar.{Reads, ReadsLine, IsRange}
use Rattle.ucd_facts.specs.NameProofs.{statuses_are_spelled}
use Rattle.ucd_points.specs.declared.files.SourceFile.TheVariants.{UnicodeData, PropList, Scripts, WordBreakProperty, CompositionExclusions, CaseFolding, SpecialCasing, PropertyAliases, PropertyValueAliases}
use Rattle.ucd_facts.specs.declared.row.Row.TheVariants.{Unit as DataLine, Value as ValueLine, Exclusion as ExclusionLine, Fold as FoldLine, Casing as CasingLine, Alias as AliasLine, Missing as MissingLine}
use Rattle.source_rows.specs.Keys.{condition_names, SourceFile, Row}
use Rattle.source_rows.specs.KeyNames.{AnswersContent, ContentsHaveKeys}
use Rattle.source_rows.proofs.Grammar.{rows_are_read}
use Rattle.source_rows.proofs.Spans.{given}
use Rattle.source_rows.proofs.WordTexts.{conditions_are}

line_answers : (file : SourceFile) (content : List ℕ) (row : Row) → ReadsLine file content row → AnswersContent file content row
line_answers UnicodeData content (DataLine row) r = record { names = refl; group = refl; code = refl }
line_answers PropList content (ValueLine row) r = record { names = ap (λ (v : List ℕ). v ∷ []) r.value; group = r.value; code = refl }
line_answers Scripts content (ValueLine row) r = record { names = rw r.0 refl; group = rw r.0 r.1.value; code = refl }
line_answers Scripts content (MissingLine row) r = record { names = rw (r.0, given (field (fields Scripts content) 0) row.span r.1.span) refl; group = rw r.0 refl; code = refl }
line_answers WordBreakProperty content (ValueLine row) r = record { names = rw r.0 refl; group = rw r.0 r.1.value; code = refl }
line_answers WordBreakProperty content (MissingLine row) r = record { names = rw (r.0, given (field (fields WordBreakProperty content) 0) row.span r.1.span) refl; group = rw r.0 refl; code = refl }
line_answers CompositionExclusions content (ExclusionLine row) r = record { names = refl; group = refl; code = refl }
line_answers CaseFolding content (FoldLine row) r = record { names = ap (λ (v : List ℕ). v ∷ []) (sym ((statuses_are_spelled (field (fields CaseFolding content) 1) row.status).0 r.status)); group = refl; code = refl }
line_answers SpecialCasing content (CasingLine row) r = record { names = ap condition_names (sym (conditions_are (field (fields SpecialCasing content) 4) row.conditions r.conditions).1); group = refl; code = refl }
line_answers PropertyAliases content (AliasLine row) r = record { names = ap (take 2) r.names; group = refl; code = refl }
line_answers PropertyValueAliases content (AliasLine row) r = record { names = ap (take 3) r.names; group = ap (λ (fs : List (List ℕ)). field fs 0) r.names; code = refl }
line_answers _ content _ r = absurd r

range_answers : (file : SourceFile) (content : List ℕ) (row : Row) → IsRange file content row → AnswersContent file content row
range_answers UnicodeData content (DataLine row) r = record { names = refl; group = refl; code = refl }
range_answers UnicodeData content _ r = absurd r
range_answers _ content row r = absurd r

read_answers : (file : SourceFile) (content : List ℕ) (row : Row) → Reads file content row → AnswersContent file content row
read_answers file content row (inl line) = line_answers file content row line.1
read_answers file content row (inr range) = range_answers file content row range

pub contents_have_keys : ContentsHaveKeys
contents_have_keys file content row h = read_answers file content row ((rows_are_read file content row).0 h)
