use Rattle.std.proofs.Common.{◌≡◌, ◌<◌, ◌++◌, ◌∷◌, [], Bool, true, false, not, length, take, get_or, refl, sym, ap, ◌∙◌, arith, bytes_eq}
use Rattle.std.proofs.lemmas.Bool.Decides.{nat_tests}
use Rattle.std.proofs.lemmas.List.{take_more}
use Rattle.std.proofs.lemmas.Slice.Eq.{bytes_eq-Decides}
use Rattle.stability_policies.proofs.alias_rows.are_same.Goals as goal

not_differs : (b differs : Bool) → differs ≡ not b → differs ≡ false → b ≡ true
not_differs true differs is same = refl
not_differs false differs is same = sym (sym is ∙ same)

pub loop-at-preserved : goal.loop-at-preserved
loop-at-preserved c =
    let a = c.args.a.now in
    let b = c.args.b.now in
    let at = c.loop-at.at in
    let name = c.as_slice.result.now in
    let other = c.as_slice-in-loop-at.result.now in
    let same : name ≡ other = (bytes_eq-Decides name other).0 (not_differs (bytes_eq name other) c.ne.result c.ne.ensures c.if-ne.false) in
    let in_b : at < length b = grind (arith, nat_tests) in
    take_more a at c.index-a-at.result (omega arith) ∙ ap (λ names. names ++ get_or a at c.index-a-at.result ∷ []) c.loop-at.invariant
    ∙ ap (λ n. take at b ++ n ∷ []) (sym c.index-a-at.is ∙ sym c.as_slice.ensures ∙ same ∙ c.as_slice-in-loop-at.ensures ∙ c.index-b-at.is) ∙ sym (take_more b at c.index-b-at.result in_b)
