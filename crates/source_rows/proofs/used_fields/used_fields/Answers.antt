use Rattle.std.proofs.Common.{◌≡◌, ℕ, ◌+◌, List, sym, ap, ◌∙◌, arith, count_by}
use Rattle.ucd_points.specs.Fields.{field, is_semicolon}
use Rattle.source_rows.specs.Fields.{fields_of}
use Rattle.source_rows.proofs.FieldCuts.{count_is, others_are, fewer_are}
use Rattle.source_rows.proofs.used_fields.used_fields.Goals as goal

pub returns-in_err-f12 : goal.returns-in_err-f12
returns-in_err-f12 c =
    let n4 = ap (λ (bs : List ℕ). count_by is_semicolon bs) c.cut_at_near_semicolon.ensures.after ∙ fewer_are c.first_short_field-2.result.1.now in
    rw c.from_residual.ensures (λ all. c.in_err-f12.ensures (omega (arith, count_is c.args.tail.now, count_is c.first_short_field-3.result.1.now, c.first_short_field.ensures.fewer, c.first_short_field-2.ensures.fewer, n4, c.first_short_field-3.ensures.fewer, all)))

pub returns : goal.returns
returns c =
    let o2 = c.first_short_field.ensures.others in
    let o3 = c.first_short_field-2.ensures.others in
    let o4 : (n : ℕ) → field (fields_of c.first_short_field-2.result.1.now) (n + 1) ≡ field (fields_of c.cut_at_near_semicolon.result.1.now) n = λ n. rw c.cut_at_near_semicolon.ensures.after (others_are c.first_short_field-2.result.1.now n) in
    let o5 = c.first_short_field-3.ensures.others in
    let n4 = ap (λ (bs : List ℕ). count_by is_semicolon bs) c.cut_at_near_semicolon.ensures.after ∙ fewer_are c.first_short_field-2.result.1.now in
    let cases = c.in_ok-f12.ensures in
    record {
      count = omega (arith, count_is c.args.tail.now, count_is c.first_short_field-3.result.1.now, c.first_short_field.ensures.fewer, c.first_short_field-2.ensures.fewer, n4, c.first_short_field-3.ensures.fewer, cases.count);
      f2 = c.first_short_field.ensures.first;
      f3 = c.first_short_field-2.ensures.first ∙ sym (o2 0);
      f5 = c.first_short_field-3.ensures.first ∙ sym (o2 2 ∙ o3 1 ∙ o4 0);
      f12 = cases.f12 ∙ sym (o2 9 ∙ o3 8 ∙ o4 7 ∙ o5 6);
      f13 = cases.f13 ∙ sym (o2 10 ∙ o3 9 ∙ o4 8 ∙ o5 7);
      f14 = cases.f14 ∙ sym (o2 11 ∙ o3 10 ∙ o4 9 ∙ o5 8);
    }
