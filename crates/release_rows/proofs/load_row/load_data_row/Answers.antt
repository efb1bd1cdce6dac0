use Rattle.std.proofs.Common.{◌≡◌, ◌≤◌, [], Result, Ok, Err, sym, ap, ◌∙◌, arith}
use Rattle.ucd_points.specs.Bounds.{Bounds}
use Rattle.ucd_points.specs.declared.files.SourceFile.TheVariants.{UnicodeData}
use Rattle.ucd_facts.specs.declared.row.Row.TheVariants.{Unit as DataLine, Value as ValueLine, Exclusion as ExclusionLine, Fold as FoldLine, Casing as CasingLine, Alias as AliasLine, Missing as MissingLine}
use Rattle.source_rows.specs.PointValues.{PointValuesAs}
use Rattle.source_rows.specs.Faults.{row_or_fault, Row}
use Rattle.source_rows.specs.declared.fault.RowFault.{RowFault}
use Rattle.source_rows.specs.declared.point_values.PointValues.{PointValues}
use Rattle.release_rows.specs.Briefs.{brief_by}
use Rattle.release_rows.specs.LoadedRows.{EntersAs}
use Rattle.release_rows.specs.Places.{names_of, names_in}
use Rattle.release_rows.specs.declared.brief.Brief.{Brief}
use Rattle.release_rows.specs.declared.loaded_row.LoadedRow.{LoadedRow}
use Rattle.release_rows.proofs.load_row.load_data_row.Goals as goal

abbrev brief_given : PointValues → Brief
brief_given given = brief_by given.values.category given.values.class given.values.decomposition.kind given.values.decomposition.mapping given.values.upper given.values.lower given.values.title

-- the code points of what is given are those of the row
entered : (given : PointValues) (expected : Result Row RowFault) (e : LoadedRow) → PointValuesAs (Ok given) expected → names_in e.place ≡ [] → e.place.code ≡ given.span.lo → e.last ≡ given.span.hi → e.place.code ≤ e.last → e.reach ≡ given.span.hi → e.brief ≡ brief_given given → EntersAs UnicodeData (Ok e) expected
entered given (Ok (DataLine row)) e gives names code last ordered reach brief = record {
  names = names;
  code = code ∙ ap (λ (s : Bounds). s.lo) (sym gives.span);
  last = last ∙ ap (λ (s : Bounds). s.hi) (sym gives.span);
  ordered = ordered;
  reach = reach ∙ ap (λ (s : Bounds). s.hi) (sym gives.span);
  brief = rw (gives.category, gives.class, gives.kind, gives.mapping, gives.upper, gives.lower, gives.title) brief;
}
entered given (Ok (ValueLine row)) e gives names code last ordered reach brief = absurd gives
entered given (Ok (ExclusionLine row)) e gives names code last ordered reach brief = absurd gives
entered given (Ok (FoldLine row)) e gives names code last ordered reach brief = absurd gives
entered given (Ok (CasingLine row)) e gives names code last ordered reach brief = absurd gives
entered given (Ok (AliasLine row)) e gives names code last ordered reach brief = absurd gives
entered given (Ok (MissingLine row)) e gives names code last ordered reach brief = absurd gives
entered given (Err fault) e gives names code last ordered reach brief = absurd gives

pub returns : goal.returns
returns c =
    let e : LoadedRow = record { place = record { names = c.new.result; code = c.first.result }; last = c.last.result; reach = c.last-2.result; brief = c.of_values.result } in
    let ordered : c.first.result ≤ c.last.result = omega (arith, c.last.ensures.value, c.first.ensures.ordered) in
    entered c.in_ok-given.given (row_or_fault UnicodeData c.args.content.now) e c.in_ok-given.ensures (ap names_of c.new.ensures.items) c.first.ensures.value c.last.ensures.value ordered c.last-2.ensures.value c.of_values.ensures
