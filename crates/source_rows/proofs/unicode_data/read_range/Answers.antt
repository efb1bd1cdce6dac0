use Rattle.std.proofs.Common.{◌≡◌, ℕ, List, true, sym, ap, subst, ◌∙◌}
use Rattle.ucd_points.specs.Lines.{without_return}
use Rattle.ucd_points.specs.Fields.{fields}
use Rattle.ucd_points.specs.declared.files.SourceFile.TheVariants.{UnicodeData}
use Rattle.source_rows.specs.Fields.{fields_in, fields_of}
use Rattle.source_rows.specs.Lines.{are_first_fields}
use Rattle.source_rows.specs.DataFaults.{DataTextAs, pair_or_fault}
use Rattle.source_rows.proofs.DataSteps.{pair_is}
use Rattle.source_rows.proofs.unicode_data.read_range.Goals as goal

pub returns : goal.returns
unfolding fields
returns c =
    let line = fields_in c.fifteen_fields-line.result in
    let same : line ≡ fields UnicodeData (without_return c.args.front.now) = c.fifteen_fields-line.ensures ∙ ap (λ (bs : List ℕ). fields_of bs) c.without_return-first.ensures in
    let first : are_first_fields (fields UnicodeData c.without_return-first.result.now) ≡ true = sym c.begins_range.ensures ∙ c.if-not-begins_range.false in
    let begins : are_first_fields line ≡ true = ap (λ (fs : List (List ℕ)). are_first_fields fs) c.fifteen_fields-line.ensures ∙ first in
    let e = pair_is line (fields UnicodeData c.args.last.now) c.in-Some.lo c.label_of-label.result.now c.span_of_range.result begins (sym c.hex.ensures ∙ c.in-Some.is) c.label_of-label.ensures c.span_of_range.ensures in
    let no_feed = sym c.holds_line_feed.ensures ∙ c.if-holds_line_feed.false in
    rw no_feed (subst (λ (fs : List (List ℕ)). DataTextAs c.text_or_fault.result (pair_or_fault fs (fields UnicodeData c.args.last.now))) same (rw e c.text_or_fault.ensures))
