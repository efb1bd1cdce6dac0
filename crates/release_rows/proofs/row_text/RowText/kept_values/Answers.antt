use Rattle.std.proofs.Common.{◌≡◌, ◌≢◌, ℕ, Option, Some, None, sym, ap, ◌∙◌, IfSome}
use Rattle.ucd_points.specs.Bounds.{Bounds}
use Rattle.ucd_facts.specs.RowValues.{RowOk}
use Rattle.ucd_points.specs.declared.files.SourceFile.{SourceFile}
use Rattle.ucd_points.specs.declared.files.SourceFile.TheVariants.{UnicodeData, PropList, Scripts, WordBreakProperty, CompositionExclusions, CaseFolding, SpecialCasing, PropertyAliases, PropertyValueAliases}
use Rattle.ucd_facts.specs.declared.row.DataRow.{DataRow}
use Rattle.ucd_facts.specs.declared.row.Row.{Row}
use Rattle.ucd_facts.specs.declared.row.Row.TheVariants.{Unit as DataLine, Value as ValueLine, Exclusion as ExclusionLine, Fold as FoldLine, Casing as CasingLine, Alias as AliasLine, Missing as MissingLine}
use Rattle.source_rows.specs.PointValues.{Gives}
use Rattle.source_rows.specs.declared.point_values.PointValues.{PointValues}
use Rattle.release_rows.specs.Briefs.{brief_of, no_brief}
use Rattle.release_rows.specs.Given.{ShowsGiven}
use Rattle.release_rows.specs.StoredItems.{HasSpan, IsBriefOf, read_as}
use Rattle.release_rows.specs.declared.brief.Brief.{Brief}
use Rattle.release_rows.proofs.row_text.RowText.kept_values.Goals as goal

span_is : (s : Bounds) (a : ℕ) → a ≡ s.lo → a ≡ s.hi → s ≡ record { lo = a; hi = a }
span_is s a lo hi = sym (ap (λ (n : ℕ). record { lo = n; hi = a }) lo ∙ ap (λ (n : ℕ). record { lo = s.lo; hi = n }) hi)

-- the span of a row of one code point
one_point : (file : SourceFile) (row : DataRow) (first : ℕ) → RowOk file (DataLine row) → HasSpan (Some (DataLine row)) first first → row.span ≡ record { lo = first; hi = first }
one_point UnicodeData row first ok has = span_is row.span first has.0 has.1
one_point PropList row first ok has = absurd ok
one_point Scripts row first ok has = absurd ok
one_point WordBreakProperty row first ok has = absurd ok
one_point CompositionExclusions row first ok has = absurd ok
one_point CaseFolding row first ok has = absurd ok
one_point SpecialCasing row first ok has = absurd ok
one_point PropertyAliases row first ok has = absurd ok
one_point PropertyValueAliases row first ok has = absurd ok

-- what is kept of a row is what the row gives
kept_by : (given : PointValues) (file : SourceFile) (row : Row) (b : Brief) (first : ℕ) → b ≢ no_brief → ((d : DataRow) → b ≡ brief_of (Some (DataLine d)) → d.span ≡ record { lo = first; hi = first } → Gives given d) → IsBriefOf b file row first → RowOk file row → ShowsGiven (Some given) row
kept_by given file (DataLine row) b first some gives kept ok = gives row kept.0 (one_point file row first ok kept.1)
kept_by given file (ValueLine row) b first some gives kept ok = absurd (some kept.0)
kept_by given file (ExclusionLine row) b first some gives kept ok = absurd (some kept.0)
kept_by given file (FoldLine row) b first some gives kept ok = absurd (some kept.0)
kept_by given file (CasingLine row) b first some gives kept ok = absurd (some kept.0)
kept_by given file (AliasLine row) b first some gives kept ok = absurd (some kept.0)
kept_by given file (MissingLine row) b first some gives kept ok = absurd (some kept.0)

if_kept : (r : Option PointValues) (file : SourceFile) (row : Row) (b : Brief) (first : ℕ) → IfSome r (λ given. b ≢ no_brief) → IfSome r (λ given. (d : DataRow) → b ≡ brief_of (Some (DataLine d)) → d.span ≡ record { lo = first; hi = first } → Gives given d) → (b ≢ no_brief → IsBriefOf b file row first) → RowOk file row → IfSome r (λ given. ShowsGiven (Some given) row)
if_kept None file row b first some gives kept ok = tt
if_kept (Some given) file row b first some gives kept ok = kept_by given file row b first some gives (kept some) ok

pub returns : goal.returns
returns c =
    let t = c.self.inside in
    let row = read_as t.file t.content.now in
    let ok : RowOk t.file row = (c.possible_rows_are_readable.ensures t.file row).1 (t.content.now, (c.rows_are_read.ensures t.file t.content.now row).0 c.self.invariant.read) in
    rw (← c.self.view_is) (if_kept c.values.result t.file row t.brief t.first c.values.ensures.some (rw (← c.in_ok-new.ensures.1) c.values.ensures.gives) c.self.invariant.brief ok)
