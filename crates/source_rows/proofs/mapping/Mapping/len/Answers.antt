use Rattle.std.proofs.Common.{sym, ap, ◌∙◌, length}
use Rattle.ucd_facts.specs.Mappings.{words}
use Rattle.source_rows.specs.Mappings.{points_in}
use Rattle.source_rows.proofs.Words.{points_count}
use Rattle.source_rows.proofs.mapping.Mapping.len.Goals as goal

pub returns : goal.returns
returns c =
    let text = c.self.inside.text.now in
    sym c.self.invariant.count ∙ sym (points_count (words text) (points_in text) c.self.invariant.points) ∙ ap length c.self.view_is
