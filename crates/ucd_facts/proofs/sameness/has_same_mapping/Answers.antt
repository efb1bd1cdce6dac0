use Rattle.std.proofs.Common.{◌∙◌, sym, ap}
use Rattle.std.proofs.lemmas.Slice.Eq.{bytes_eq-Decides}
use Rattle.ucd_facts.specs.Facts.{Facts}
use Rattle.ucd_facts.proofs.sameness.has_same_mapping.Goals as goal

pub returns-clause-mapping : goal.returns-clause-mapping
returns-clause-mapping c = λ h. (bytes_eq-Decides c.args.a.now.mapping.now c.args.b.now.mapping.now).0 (sym c.eq.ensures ∙ h)

pub returns-clause-same : goal.returns-clause-same
returns-clause-same c = λ e. c.eq.ensures ∙ (bytes_eq-Decides c.args.a.now.mapping.now c.args.b.now.mapping.now).1 (ap (λ (F : Facts). F.mapping) e)
