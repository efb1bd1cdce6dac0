use Rattle.std.proofs.Common.{◌≡◌, ℕ, List, subst, ap, ◌∙◌, IfOk, flat_map}
use Rattle.property_aliases.specs.Kinds.{kind_of, number_at}
use Rattle.property_aliases.specs.NumberMaps.{index_in_names}
use Rattle.property_aliases.specs.Properties.{property_by}
use Rattle.property_aliases.specs.ResolvingLaws.{rows_number}
use Rattle.property_aliases.specs.Sources.{alias_rows, unnumbered}
use Rattle.property_aliases.specs.Values.{behind}
use Rattle.release_rows.specs.FileLemmas.{rows_of_numbered}
use Rattle.release_rows.specs.Releases.{items_now, rows_now}
use Rattle.ucd_facts.specs.declared.row.Row.{Row}
use Rattle.ucd_points.specs.declared.files.SourceFile.TheVariants.{PropertyValueAliases}
use Rattle.property_aliases.proofs.value_rows.places_by_property.Goals as goal

pub returns : goal.returns
returns c =
    let same : unnumbered c.rows-rows.result ≡ rows_now c.args.release.now PropertyValueAliases = ap unnumbered c.rows-rows.ensures.rows ∙ rows_of_numbered 1 (items_now c.args.release.now PropertyValueAliases) in
    subst (λ (rows : List Row). IfOk c.numbers_of.result (λ maps. (i : ℕ) (key : List ℕ) → number_at maps.items i key ≡ rows_number (number_at c.args.kinds.now (kind_of (property_by i))) (flat_map (behind (index_in_names c.args.properties.now) i) (alias_rows rows)) key)) same c.numbers_of.ensures
