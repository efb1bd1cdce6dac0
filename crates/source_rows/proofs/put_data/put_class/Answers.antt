use Rattle.std.proofs.Common.{◌∙◌, refl, arith}
use Rattle.std.proofs.lemmas.Result.{on_ok_weaker}
use Rattle.source_rows.proofs.ClassDigits.{one, two, three}
use Rattle.source_rows.proofs.put_data.put_class.Goals as goal

pub returns-then-class-lt10 : goal.returns-then-class-lt10
returns-then-class-lt10 c = on_ok_weaker c.push.result (λ e. e ∙ rw (c.decimal_digit.ensures, one c.args.class c.if-class-lt10.true) refl) c.push.ensures.ok

pub returns-then-class-lt100 : goal.returns-then-class-lt100
returns-then-class-lt100 c = on_ok_weaker c.append.result (λ e. e ∙ rw (c.decimal_digit-then-class-lt100.ensures, c.decimal_digit-then-class-lt100-2.ensures, two c.args.class c.if-class-lt10.false c.if-class-lt100.true) refl) c.append.ensures.ok

pub returns : goal.returns
returns c = on_ok_weaker c.append-2.result (λ e. e ∙ rw (c.decimal_digit-2.ensures, c.decimal_digit-3.ensures, c.decimal_digit-4.ensures, three c.args.class c.if-class-lt100.false (omega (arith, c.ranges.class.fits))) refl) c.append-2.ensures.ok
