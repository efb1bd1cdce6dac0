use Rattle.std.proofs.Common.{◌≡◌, ◌<◌, [], length, get_or, map, sym, ap, ◌∙◌, arith, bytes_eq}
use Rattle.std.proofs.lemmas.List.{get_or_read, get_or-map, length-map}
use Rattle.bench_editors.proofs.KeyLemmas.{names_differ, names_on, told_apart, told_same}
use Rattle.bench_editors.proofs.row_key.are_same.Goals as goal

pub returns-then-ne : goal.returns-then-ne
returns-then-ne c =
    let others = map (λ name. name.items) c.args.others.now in
    let lt : c.names.at < length c.args.names.now = omega arith in
    let less : c.names.at < length c.args.others.now = omega (arith, c.names.invariant.long) in
    let also : c.names.at < length others = omega (arith, length-map c.args.others.now (λ name. name.items)) in
    let name : c.index-names-at.result ≡ get_or c.args.names.now c.names.at [] = get_or_read c.args.names.now c.names.at c.index-names-at.result lt c.index-names-at.is [] in
    let other : get_or others c.names.at [] ≡ c.index-others-at.result.items = get_or-map (λ name. name.items) c.args.others.now c.names.at c.index-others-at.result [] less ∙ ap (λ v. v.items) (sym c.index-others-at.is) in
    names_differ c.args.names.now others c.names.at lt also
    (ap (λ n. bytes_eq n (get_or others c.names.at [])) (sym (c.as_slice.ensures ∙ name)) ∙ ap (bytes_eq c.as_slice.result.now) (other ∙ sym c.as_slice-in-names.ensures.value)
    ∙ told_apart c.ne.result c.as_slice.result.now c.as_slice-in-names.result.now c.ne.ensures c.if-ne.true)
    c.names.invariant.left

pub names-preserved : goal.names-preserved
names-preserved c =
    let others = map (λ name. name.items) c.args.others.now in
    let lt : c.names.at < length c.args.names.now = omega arith in
    let less : c.names.at < length c.args.others.now = omega (arith, c.names.invariant.long) in
    let also : c.names.at < length others = omega (arith, length-map c.args.others.now (λ name. name.items)) in
    let name : c.index-names-at.result ≡ get_or c.args.names.now c.names.at [] = get_or_read c.args.names.now c.names.at c.index-names-at.result lt c.index-names-at.is [] in
    let other : get_or others c.names.at [] ≡ c.index-others-at.result.items = get_or-map (λ name. name.items) c.args.others.now c.names.at c.index-others-at.result [] less ∙ ap (λ v. v.items) (sym c.index-others-at.is) in
    record {
      long = c.names.invariant.long;
      left = names_on c.args.names.now others c.names.at lt also
          (ap (λ n. bytes_eq n (get_or others c.names.at [])) (sym (c.as_slice.ensures ∙ name)) ∙ ap (bytes_eq c.as_slice.result.now) (other ∙ sym c.as_slice-in-names.ensures.value)
          ∙ told_same c.ne.result c.as_slice.result.now c.as_slice-in-names.result.now c.ne.ensures c.if-ne.false)
          c.names.invariant.left;
    }
