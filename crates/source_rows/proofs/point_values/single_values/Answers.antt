use Rattle.std.proofs.Common.{ℕ, false, List, sym, ap, ◌∙◌}
use Rattle.ucd_points.specs.Fields.{fields, field, point_of, is_name}
use Rattle.ucd_points.specs.declared.files.SourceFile.TheVariants.{UnicodeData}
use Rattle.source_rows.specs.DataFaults.{single_end}
use Rattle.source_rows.proofs.DataSteps.{single_is}
use Rattle.source_rows.proofs.PointSteps.{IsCut, cut_is, cut_values, fifteen, given_is, no_code, no_fields, no_name, tail_none, tail_some, thirteen}
use Rattle.source_rows.proofs.point_values.single_values.Goals as goal

pub returns-in_default : goal.returns-in_default
unfolding fields
returns-in_default c =
    let content = c.args.content.now in
    let tail = c.first_field.result.1.now in
    let cut : IsCut content tail = cut_is content c.first_short_field.result.1.now tail c.first_short_field.ensures.fewer c.first_short_field.ensures.others c.first_field.ensures.fewer c.first_field.ensures.others in
    no_fields (fields UnicodeData content) (λ e. tail_none tail (sym c.values.ensures ∙ c.in_default.is) (thirteen content tail cut e))

pub returns-in_default-hex : goal.returns-in_default-hex
unfolding fields
returns-in_default-hex c =
    let content = c.args.content.now in
    let tail = c.first_field.result.1.now in
    let cut : IsCut content tail = cut_is content c.first_short_field.result.1.now tail c.first_short_field.ensures.fewer c.first_short_field.ensures.others c.first_field.ensures.fewer c.first_field.ensures.others in
    let given = tail_some tail c.in-Some.values (sym c.values.ensures ∙ c.in-Some.is) in
    no_code (fields UnicodeData content) (fifteen content tail cut given.0) (ap point_of (sym c.first_short_field.ensures.first) ∙ sym c.hex.ensures ∙ c.in_default-hex.is)

pub returns-then-not-is_name : goal.returns-then-not-is_name
unfolding fields
returns-then-not-is_name c =
    let content = c.args.content.now in
    let tail = c.first_field.result.1.now in
    let cut : IsCut content tail = cut_is content c.first_short_field.result.1.now tail c.first_short_field.ensures.fewer c.first_short_field.ensures.others c.first_field.ensures.fewer c.first_field.ensures.others in
    let given = tail_some tail c.in-Some.values (sym c.values.ensures ∙ c.in-Some.is) in
    let name = c.first_field.ensures.first ∙ sym (c.first_short_field.ensures.others 0) in
    no_name (fields UnicodeData content) c.in-Some-hex.point (fifteen content tail cut given.0) (ap point_of (sym c.first_short_field.ensures.first) ∙ sym c.hex.ensures ∙ c.in-Some-hex.is)
    (ap is_name (sym name) ∙ sym c.is_name.ensures ∙ c.if-not-is_name.true)

pub returns : goal.returns
unfolding fields
returns c =
    let content = c.args.content.now in
    let fs : List (List ℕ) = fields UnicodeData content in
    let tail = c.first_field.result.1.now in
    let cut : IsCut content tail = cut_is content c.first_short_field.result.1.now tail c.first_short_field.ensures.fewer c.first_short_field.ensures.others c.first_field.ensures.fewer c.first_field.ensures.others in
    let given = tail_some tail c.in-Some.values (sym c.values.ensures ∙ c.in-Some.is) in
    let name = c.first_field.ensures.first ∙ sym (c.first_short_field.ensures.others 0) in
    let point : ℕ = c.in-Some-hex.point in
    let e = single_is fs point c.span_of_single_line.result (fifteen content tail cut given.0) (ap point_of (sym c.first_short_field.ensures.first) ∙ sym c.hex.ensures ∙ c.in-Some-hex.is) (ap is_name (sym name) ∙ sym c.is_name.ensures ∙ c.if-not-is_name.false) (c.span_of_single_line.ensures ∙ ap (single_end point) name) in
    rw (e, c.point_values_or_fault.ensures) (given_is fs false (field fs 1) c.in-Some.values c.span_of_single_line.result (cut_values content tail cut ∙ given.1))
