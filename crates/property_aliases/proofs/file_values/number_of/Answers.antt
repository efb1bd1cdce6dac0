use Rattle.std.proofs.Common.{map, sym, ap, ◌∙◌, bytes_eq}
use Rattle.property_aliases.specs.Numbers.{names_in}
use Rattle.property_aliases.specs.Sources.{add_name}
use Rattle.property_aliases.proofs.Lookups.{add_name_is, placed_at}
use Rattle.property_aliases.proofs.file_values.number_of.Goals as goal

pub returns-clause-names : goal.returns-clause-names
returns-clause-names c =
    ap (map (λ k. k.items)) c.in_ok-placed.ensures.keys ∙ add_name_is (λ k. k.items) c.args.names.now.keys c.in_ok-from_slice.field-0
    ∙ ap (add_name (names_in c.args.names.now)) c.in_ok-from_slice.ensures.items

pub returns-clause-number : goal.returns-clause-number
returns-clause-number c =
    let stored = c.in_ok-placed.ensures.stored in
    placed_at (λ k. k.items) c.insert_full.new.self.keys c.in_ok-placed.placed.0 stored.0 c.args.value.now stored.1
    (ap (λ value. bytes_eq value stored.0.items) (sym c.in_ok-from_slice.ensures.items) ∙ stored.2)
