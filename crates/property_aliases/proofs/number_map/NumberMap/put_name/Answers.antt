use Rattle.std.proofs.Common.{ap, ◌∙◌, bytes_eq}
use Rattle.std.specs.Map.{lookup}
use Rattle.property_aliases.specs.Loose.{loose}
use Rattle.property_aliases.specs.LooseNames.{name_bytes}
use Rattle.property_aliases.specs.declared.loose_name.LooseName.TheVariants.{Kept}
use Rattle.property_aliases.proofs.Lookups.{lookup_insert}
use Rattle.property_aliases.proofs.number_map.NumberMap.put_name.Goals as goal

pub returns : goal.returns
returns c = λ other. ap (lookup (λ n. bytes_eq other (loose (name_bytes n)))) c.in_ok-insert.ensures.entries ∙ lookup_insert (λ n. loose (name_bytes n)) c.args.self.now.map.entries (Kept c.args.name) c.args.number other
