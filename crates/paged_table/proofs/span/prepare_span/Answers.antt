use Rattle.std.proofs.Common.{◌&&◌, cond, leb, ap, ◌∙◌}
use Rattle.ucd_points.specs.PlainProofs.{on_err_from}
use Rattle.paged_table.proofs.Steps.{values_now-stays, values_next-stays}
use Rattle.paged_table.proofs.span.prepare_span.Goals as goal

pub returns-in_err-list_touched-clause-now : goal.returns-in_err-list_touched-clause-now
returns-in_err-list_touched-clause-now c = values_now-stays c.args.pool.now c.reserve.new.self c.args.now.now c.args.next.now c.requires.apart c.reserve.ensures.live c.reserve.ensures.words

pub returns-in_err-list_touched-clause-err : goal.returns-in_err-list_touched-clause-err
returns-in_err-list_touched-clause-err c = on_err_from c.from_residual-in_err-list_touched.result (values_next-stays c.args.pool.now c.reserve.new.self c.args.now.now c.args.next.now c.requires.apart c.reserve.ensures.live c.reserve.ensures.words)

pub returns-clause-now : goal.returns-clause-now
returns-clause-now c = λ d. c.put_span.ensures.now d ∙ values_now-stays c.args.pool.now c.reserve.new.self c.args.now.now c.args.next.now c.requires.apart c.reserve.ensures.live c.reserve.ensures.words d

pub returns-clause-ok : goal.returns-clause-ok
returns-clause-ok c = λ d.
    c.put_span.ensures.next d
    ∙ ap (λ w. cond (leb c.args.span.lo d && leb d c.args.span.hi) c.args.value w) (values_next-stays c.args.pool.now c.reserve.new.self c.args.now.now c.args.next.now c.requires.apart c.reserve.ensures.live c.reserve.ensures.words d)
