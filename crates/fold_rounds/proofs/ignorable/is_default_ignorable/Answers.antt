use Rattle.std.proofs.Common.{refl}
use Rattle.ucd_facts.specs.Shown.{shown_facts}
use Rattle.fold_rounds.proofs.ignorable.is_default_ignorable.Goals as goal

pub returns : goal.returns
returns c = c.is_ignorable_by.ensures (shown_facts c.args.facts.now) refl refl
