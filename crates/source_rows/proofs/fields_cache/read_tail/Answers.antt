use Rattle.std.proofs.Common.{List, ℕ, sym, ◌∙◌}
use Rattle.source_rows.specs.PointValues.{used_fields_in}
use Rattle.source_rows.specs.Tails.{tail_fields}
use Rattle.source_rows.proofs.PointSteps.{tail_is, tail_lacks, values_same}
use Rattle.source_rows.proofs.fields_cache.read_tail.Goals as goal

pub returns-in_err-line : goal.returns-in_err-line
returns-in_err-line c = c.from_residual.ensures ∙ sym (tail_lacks c.args.tail.now c.in_err-line.ensures)

pub returns : goal.returns
returns c =
    let are = c.in_ok-line.ensures in
    let line : List (List ℕ) = used_fields_in c.in_ok-line.line in
    tail_is c.args.tail.now c.read_used.result are.count (c.read_used.ensures ∙ values_same line (tail_fields c.args.tail.now) are.f2 are.f3 are.f5 are.f12 are.f13 are.f14)
