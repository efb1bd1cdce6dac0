use Rattle.std.proofs.Common.{refl}
use Rattle.ucd_facts.specs.Shown.{shown_facts}
use Rattle.identifier_closure.proofs.predicates.is_id_start.Goals as goal

pub returns : goal.returns
returns c = c.is_id_start_by.ensures (shown_facts c.args.facts.now) refl refl
