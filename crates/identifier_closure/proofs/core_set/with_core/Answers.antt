use Rattle.std.proofs.Common.{refl, ◌∙◌}
use Rattle.ucd_facts.specs.Sets.{core_place}
use Rattle.ucd_facts.specs.Shown.{shown_facts}
use Rattle.identifier_closure.specs.CoreSets.{core_given}
use Rattle.identifier_closure.proofs.CoreSteps.{one_more}
use Rattle.identifier_closure.proofs.core_set.with_core.Goals as goal

pub returns : goal.returns
returns c =
    one_more c.args.set c.with.result (core_place c.args.core) (core_given c.args.c (shown_facts c.args.facts.now) c.args.told) c.args.core refl
    c.requires (c.with.ensures.put ∙ c.has_core_property.ensures) c.with.ensures.rest
