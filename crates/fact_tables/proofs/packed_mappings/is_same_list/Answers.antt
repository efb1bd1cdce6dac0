use Rattle.std.proofs.Common.{◌∙◌, sym}
use Rattle.std.proofs.lemmas.Slice.Eq.{bytes_eq-Decides}
use Rattle.fact_tables.proofs.packed_mappings.is_same_list.Goals as goal

pub returns : goal.returns
returns c = λ h. (bytes_eq-Decides c.args.a.now c.args.b.now).0 (sym c.eq.ensures ∙ h)
