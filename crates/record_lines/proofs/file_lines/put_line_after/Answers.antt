use Rattle.std.proofs.Common.{◌≤◌, length, sym, arith, append-nil}
use Rattle.record_lines.proofs.LineLemmas.{none_behind}
use Rattle.record_lines.proofs.file_lines.put_line_after.Goals as goal

pub returns-then-number-line_count_bound-clause-text : goal.returns-then-number-line_count_bound-clause-text
returns-then-number-line_count_bound-clause-text c =
    let most = c.line_count_bound.ensures in
    let past : length c.args.lines.now.lines ≤ c.args.number = omega (arith, c.if-number-line_count_bound.true) in
    rw (none_behind c.args.file c.args.lines.now.lines c.args.number past) (sym (append-nil c.args.text.now))
