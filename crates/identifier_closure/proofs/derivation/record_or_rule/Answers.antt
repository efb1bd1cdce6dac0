use Rattle.std.proofs.Common.{◌≡◌, ℕ, [], ◌∷◌, ap, sym, ◌∙◌}
use Rattle.ucd_facts.specs.Facts.{Facts}
use Rattle.ucd_facts.specs.declared.decomposition.Kind.TheVariants.{Plain}
use Rattle.identifier_closure.specs.PlainProofs.{kind_forms, kind_rule}
use Rattle.identifier_closure.proofs.FormLemmas.{told_of}
use Rattle.identifier_closure.proofs.derivation.record_or_rule.Goals as goal

pub record_with_forms-requires-clause-forms : goal.record_with_forms-requires-clause-forms
record_with_forms-requires-clause-forms g c =
    let F : ℕ → Facts = g.W.FactView.facts_of c.args.view.now in
    let plain : (F c.args.c).kind ≡ Plain = ap (λ (G : Facts). G.kind) (sym c.facts-facts.ensures) ∙ c.in-Plain.is in
    rw (c.of_unmapped-forms.ensures.nfc, c.of_unmapped-forms.ensures.nfkc) (told_of F c.args.c c.of_unmapped-forms.result.changes (c.args.c ∷ []) (c.args.c ∷ []) (c.args.c ∷ []) (kind_forms F c.args.c plain) c.of_unmapped-forms.ensures.changes)

pub record_with_forms-requires-clause-expansions : goal.record_with_forms-requires-clause-expansions
record_with_forms-requires-clause-expansions g c = kind_rule (g.W.FactView.facts_of c.args.view.now) c.args.c (ap (λ (G : Facts). G.kind) (sym c.facts-facts.ensures) ∙ c.in-Plain.is)
