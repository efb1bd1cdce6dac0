use Rattle.std.proofs.Common.{◌≤◌, ◌∙◌, sym, ap, arith, option_map}
use Rattle.ucd_facts.specs.EnumerationProofs.{kinds_behind}
use Rattle.ucd_facts.specs.declared.decomposition.Kind.TheVariants.{Compat}
use Rattle.ucd_facts.proofs.decomposition.Kind.at.Goals as goal

pub returns-in_ok-at-in_default : goal.returns-in_ok-at-in_default
returns-in_ok-at-in_default c =
    let from : 2 ≤ c.args.place = omega (arith, c.in_default) in
    sym (kinds_behind c.args.place from ∙ ap (option_map Compat) (sym c.at.ensures ∙ c.in_ok-at-in_default.was))
