use Rattle.std.proofs.Common.{◌≡◌, ◌||◌, ◌<◌, List, length, sym, ap, subst, ◌∙◌}
use Rattle.std.specs.List.{list_any}
use Rattle.ucd_points.specs.Bounds.{Bounds}
use Rattle.ucd_facts.specs.Facts.{within}
use Rattle.property_aliases.specs.declared.file_values.NumberedRow.{NumberedRow}
use Rattle.unicodeset_eval.specs.Given.{buckets_are}
use Rattle.unicodeset_eval.specs.Numbers.{is_of}
use Rattle.unicodeset_eval.proofs.numbers.spans_by_number.Goals as goal

pub returns-clause-spans : goal.returns-clause-spans
returns-clause-spans c = λ rows are i x.
    let long : length c.in_ok-buckets.buckets.items ≡ length c.args.values.now.names.keys = c.in_ok-buckets.ensures.len ∙ c.count.ensures.count in
    buckets_are (λ k. k.items) c.args.values.now.names.keys c.count.ensures.distinct c.push_rows.new.buckets.items c.args.values.now.rows.items rows x are (c.in_ok-push_rows.ensures.len ∙ long)
    (λ j lt.
    c.in_ok-push_rows.ensures.spans j x (subst (λ n. j < n) (sym long) lt)
    ∙ ap (λ (spans : List Bounds). list_any (within x) spans || list_any (is_of j x) c.rows.result.now) (c.in_ok-buckets.ensures.empty j)
    ∙ ap (λ (all : List NumberedRow). list_any (is_of j x) all) c.rows.ensures)
    i
