use Rattle.std.proofs.Common.{◌≡◌, ◌||◌, ◌<◌, [], ℕ, List, length, sym, ap, subst, ◌∙◌, arith, nat_eq}
use Rattle.std.specs.List.{list_any}
use Rattle.std.proofs.Math.ListN.{get_or-eq_default}
use Rattle.layered_table.specs.Layers.{puts, word_at}
use Rattle.layered_table.specs.declared.painting.Layer.{Layer}
use Rattle.ucd_points.specs.Bounds.{Bounds}
use Rattle.ucd_facts.specs.Facts.{within}
use Rattle.ucd_facts.specs.Values.{value_at}
use Rattle.unicodeset_eval.specs.Given.{numbers_are}
use Rattle.unicodeset_eval.specs.LayeredRows.{layers_name, layers_of}
use Rattle.unicodeset_eval.specs.Numbers.{bucket}
use Rattle.unicodeset_eval.specs.Tests.{is_numbered}
use Rattle.unicodeset_eval.proofs.layers.layered_spans.Goals as goal

pub returns : goal.returns
returns c = λ default rows are apart i x lt.
    let values = c.args.values.now in
    let spans : List (List Bounds) = c.push_pieces.new.buckets.items in
    let long : length c.in_ok-buckets.buckets.items ≡ length values.names.keys = c.in_ok-buckets.ensures.len ∙ c.count.ensures.count in
    let same : length spans ≡ length values.names.keys = c.in_ok-push_pieces.ensures.len ∙ long in
    numbers_are (λ k. k.items) values.names.keys c.count.ensures.distinct (word_at (layers_of values) 0 x) (value_at rows default x) (layers_name values default rows are x (apart x))
    (list_any (within x) (bucket spans i)) i
    (λ below.
    c.in_ok-push_pieces.ensures.spans i x (subst (λ n. i < n) (sym long) below)
    ∙ ap (λ (given : List Bounds). list_any (within x) given || list_any (puts i x) c.as_slice-2.result.now) (c.in_ok-buckets.ensures.empty i)
    ∙ ap (λ (all : List Layer). list_any (puts i x) all) c.as_slice-2.ensures.value
    ∙ c.in_ok-pieces.ensures i x lt
    ∙ ap (λ (layers : List Layer). nat_eq (word_at layers 0 x) i) (c.as_slice.ensures.value ∙ c.in_ok-layers.ensures))
    (λ past. ap (list_any (within x)) (get_or-eq_default spans [] (omega (arith, past, same))))
    ∙ ap (λ (names : List (List ℕ)). is_numbered names i (value_at rows default x)) are.names_are
