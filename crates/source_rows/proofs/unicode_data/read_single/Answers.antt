use Rattle.std.proofs.Common.{◌≡◌, ℕ, List, refl, sym, subst, ◌∙◌}
use Rattle.ucd_points.specs.Fields.{fields}
use Rattle.ucd_points.specs.declared.files.SourceFile.TheVariants.{UnicodeData}
use Rattle.source_rows.specs.Fields.{fields_in}
use Rattle.source_rows.specs.DataFaults.{DataTextAs, single_or_fault}
use Rattle.source_rows.proofs.DataSteps.{single_is}
use Rattle.source_rows.proofs.unicode_data.read_single.Goals as goal

pub returns : goal.returns
unfolding fields
returns c =
    let line = fields_in c.fifteen_fields-line.result in
    let same : line ≡ fields UnicodeData c.args.content.now = c.fifteen_fields-line.ensures in
    let e = single_is line c.in-Some.point c.span_of_single_line.result refl (sym c.hex.ensures ∙ c.in-Some.is) (sym c.is_name.ensures ∙ c.if-not-is_name.false) c.span_of_single_line.ensures in
    subst (λ (fs : List (List ℕ)). DataTextAs c.text_or_fault.result (single_or_fault fs)) same (rw e c.text_or_fault.ensures)
