use Rattle.std.proofs.Common.{◌≡◌, ℕ, List, ◌++◌, ap, ◌∙◌, option_map}
use Rattle.property_aliases.specs.Found.{index_in}
use Rattle.property_aliases.specs.Properties.{index_at, index_named}
use Rattle.property_aliases.specs.Resolving.{number_of}
use Rattle.property_aliases.specs.Sources.{sources_of}
use Rattle.property_aliases.specs.Tables.{built_in_names}
use Rattle.property_aliases.specs.declared.aliases.Aliases.{Aliases}
use Rattle.property_aliases.proofs.PlacedNames.{placed}
use Rattle.property_aliases.proofs.aliases.Aliases.with_numbers.Goals as goal

pub returns-clause-aliases : goal.returns-clause-aliases
returns-clause-aliases c =
    let s = sources_of c.args.release.now in
    let a : Aliases = record { numbers = c.args.numbers; places = c.in_ok-places.places } in
    let are = c.requires in
    let named : (key : List ℕ) → index_in a key ≡ index_named s key = λ key.
    ap (option_map index_at) (c.in_ok-places.ensures.properties key ∙ ap (λ (names : List (List ℕ)). number_of (built_in_names ++ names) s.properties key) are.listed.names_are) in
    placed a s named are.listed.names_are are.scripts.names_are are.breaks.names_are c.in_ok-places.ensures.values
