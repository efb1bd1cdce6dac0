use Rattle.std.proofs.Common.{refl, sym}
use Rattle.source_rows.specs.Fields.{fields_of}
use Rattle.source_rows.proofs.FieldTakes.{taken}
use Rattle.source_rows.proofs.fifteen.fifteen_fields.Goals as goal

pub returns : goal.returns
returns c =
    let t1 = taken (fields_of c.args.text.now) (fields_of c.first_short_field.result.1.now) c.first_short_field.result.0.now 13 c.requires c.first_short_field.ensures.more in
    let t2 = taken (fields_of c.first_short_field.result.1.now) (fields_of c.first_field.result.1.now) c.first_field.result.0.now 12 t1.1 c.first_field.ensures.more in
    let t3 = taken (fields_of c.first_field.result.1.now) (fields_of c.first_short_field-2.result.1.now) c.first_short_field-2.result.0.now 11 t2.1 c.first_short_field-2.ensures.more in
    let t4 = taken (fields_of c.first_short_field-2.result.1.now) (fields_of c.first_short_field-3.result.1.now) c.first_short_field-3.result.0.now 10 t3.1 c.first_short_field-3.ensures.more in
    let t5 = taken (fields_of c.first_short_field-3.result.1.now) (fields_of c.first_short_field-4.result.1.now) c.first_short_field-4.result.0.now 9 t4.1 c.first_short_field-4.ensures.more in
    let t6 = taken (fields_of c.first_short_field-4.result.1.now) (fields_of c.first_short_field-5.result.1.now) c.first_short_field-5.result.0.now 8 t5.1 c.first_short_field-5.ensures.more in
    let t7 = taken (fields_of c.first_short_field-5.result.1.now) (fields_of c.first_short_field-6.result.1.now) c.first_short_field-6.result.0.now 7 t6.1 c.first_short_field-6.ensures.more in
    let t8 = taken (fields_of c.first_short_field-6.result.1.now) (fields_of c.first_short_field-7.result.1.now) c.first_short_field-7.result.0.now 6 t7.1 c.first_short_field-7.ensures.more in
    let t9 = taken (fields_of c.first_short_field-7.result.1.now) (fields_of c.first_short_field-8.result.1.now) c.first_short_field-8.result.0.now 5 t8.1 c.first_short_field-8.ensures.more in
    let t10 = taken (fields_of c.first_short_field-8.result.1.now) (fields_of c.first_short_field-9.result.1.now) c.first_short_field-9.result.0.now 4 t9.1 c.first_short_field-9.ensures.more in
    let t11 = taken (fields_of c.first_short_field-9.result.1.now) (fields_of c.first_short_field-10.result.1.now) c.first_short_field-10.result.0.now 3 t10.1 c.first_short_field-10.ensures.more in
    let t12 = taken (fields_of c.first_short_field-10.result.1.now) (fields_of c.first_short_field-11.result.1.now) c.first_short_field-11.result.0.now 2 t11.1 c.first_short_field-11.ensures.more in
    let t13 = taken (fields_of c.first_short_field-11.result.1.now) (fields_of c.first_short_field-12.result.1.now) c.first_short_field-12.result.0.now 1 t12.1 c.first_short_field-12.ensures.more in
    let t14 = taken (fields_of c.first_short_field-12.result.1.now) (fields_of c.first_short_field-13.result.1.now) c.first_short_field-13.result.0.now 0 t13.1 c.first_short_field-13.ensures.more in
    let last = c.first_short_field-14.ensures.one t14.1 in
    sym (rw (t1.0, t2.0, t3.0, t4.0, t5.0, t6.0, t7.0, t8.0, t9.0, t10.0, t11.0, t12.0, t13.0, t14.0, last) refl)
