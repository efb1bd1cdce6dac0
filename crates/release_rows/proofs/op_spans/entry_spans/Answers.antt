use Rattle.std.proofs.Common.{◌≡◌, true, false, sym, ◌∙◌}
use Rattle.source_rows.specs.KeyNames.{has_code}
use Rattle.release_rows.proofs.EntrySpans.{stored_no_spans, stored_spans}
use Rattle.release_rows.proofs.op_spans.entry_spans.Goals as goal

pub returns-then-not-has_code : goal.returns-then-not-has_code
returns-then-not-has_code c text stored some =
    let code : has_code c.args.file ≡ false = sym c.has_code.ensures ∙ c.if-not-has_code.true in
    c.new.ensures ∙ sym (stored_no_spans c.args.file text c.args.entry.now c.rows_are_read.ensures c.possible_rows_are_readable.ensures stored some code)

pub returns : goal.returns
returns c text stored some =
    let code : has_code c.args.file ≡ true = sym c.has_code.ensures ∙ c.if-not-has_code.false in
    let is = stored_spans c.args.file text c.args.entry.now c.rows_are_read.ensures c.possible_rows_are_readable.ensures stored some code in
    rw is.2 (c.one_span.ensures is.0 is.1)
