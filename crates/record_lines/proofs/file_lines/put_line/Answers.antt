use Rattle.std.proofs.Common.{sym, ap, ◌∙◌, slice_get, append-nil}
use Rattle.record_lines.proofs.file_lines.put_line.Goals as goal

pub returns-in-Some-clause-text : goal.returns-in-Some-clause-text
returns-in-Some-clause-text c = rw (ap (slice_get c.args.lines.now.lines) (sym c.saturating_sub.ensures) ∙ c.in-Some.ensures.found) c.put_content.ensures

pub returns-in-None-clause-text : goal.returns-in-None-clause-text
returns-in-None-clause-text c = rw (ap (slice_get c.args.lines.now.lines) (sym c.saturating_sub.ensures) ∙ c.in-None.ensures.found) (sym (append-nil c.args.text.now))
