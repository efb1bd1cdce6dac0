use Rattle.std.proofs.Common.{◌-◌, Option, sym, ap, unwrap_or}
use Rattle.std.proofs.lemmas.Option.{slice_get_past}
use Rattle.property_aliases.specs.declared.property.Property.{Property}
use Rattle.property_aliases.specs.declared.property.Property.TheVariants.{Listed}
use Rattle.property_aliases.specs.Properties.{built_in}
use Rattle.property_aliases.proofs.indexing.property_by.Goals as goal

-- past those that are built in there is none
pub returns-else-index-properties : goal.returns-else-index-properties
returns-else-index-properties c =
    ap (λ (p : Option Property). unwrap_or p (Listed (c.args.index - 30))) (sym (slice_get_past built_in c.args.index (rw c.built_in-properties.ensures at c.if-index-properties.false)))
