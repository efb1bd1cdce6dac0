use Rattle.std.proofs.Common.{◌≡◌, ℕ, true, ◌==◌, List, [], length, Ok, ap, sym, ◌∙◌, eqb-true}
use Rattle.std.proofs.lemmas.List.{nil_from_length}
use Rattle.ucd_model.specs.Forms.{appended}
use Rattle.normalisation.specs.FormLemmas.{expansion_alone}
use Rattle.normalisation.proofs.forms.put_expansion.Goals as goal

pub returns-in_ok-push : goal.returns-in_ok-push
returns-in_ok-push g c =
    let mapping : List ℕ = c.mapping_if_counted.result.now in
    let empty : mapping ≡ [] = nil_from_length mapping (eqb-true (length mapping) 0 (sym c.is_empty.ensures ∙ c.if-is_empty.true)) in
    let alone = expansion_alone (g.W.FactView.facts_of c.args.view.now) c.args.compat c.args.c (sym c.mapping_if_counted.ensures ∙ empty) in
    ap (appended (Ok c.args.points.now)) alone ∙ ap (λ zs. Ok zs) (sym c.in_ok-push.ensures.ok)
