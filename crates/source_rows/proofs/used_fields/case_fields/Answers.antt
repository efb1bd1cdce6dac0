use Rattle.std.proofs.Common.{sym, ◌∙◌, arith}
use Rattle.source_rows.proofs.FieldCuts.{count_is}
use Rattle.source_rows.proofs.used_fields.case_fields.Goals as goal

pub returns-then-field_count-ne3 : goal.returns-then-field_count-ne3
returns-then-field_count-ne3 c = λ all. omega (arith, count_is c.args.text.now, count_is c.behind_fields-rest.result.now, c.behind_fields-rest.ensures.fewer, c.field_count.ensures, c.if-field_count-ne3.true, all)

pub returns : goal.returns
returns c =
    let o5 = c.behind_fields-rest.ensures.others in
    let o6 = c.first_short_field.ensures.others in
    record {
      count = omega (arith, count_is c.args.text.now, count_is c.behind_fields-rest.result.now, c.behind_fields-rest.ensures.fewer, c.field_count.ensures);
      f12 = c.first_short_field.ensures.first ∙ sym (o5 0);
      f13 = c.first_short_field-2.ensures.first ∙ sym (o5 1 ∙ o6 0);
      f14 = c.first_short_field-3.ensures.first ∙ sym (o5 2 ∙ o6 1 ∙ c.first_short_field-2.ensures.others 0);
    }
