use Rattle.std.proofs.Common.{◌≡◌, ◌<◌, ℕ, List, map, ap, ◌∙◌, flat_map}
use Rattle.property_aliases.specs.Found.{place_in}
use Rattle.property_aliases.specs.Kinds.{kind_names, kind_of, number_at}
use Rattle.property_aliases.specs.NumberMaps.{index_in_names}
use Rattle.property_aliases.specs.Numbers.{names_in}
use Rattle.property_aliases.specs.Properties.{property_by}
use Rattle.property_aliases.specs.Resolving.{number_of}
use Rattle.property_aliases.specs.ResolvingLaws.{direct, rows_number}
use Rattle.property_aliases.specs.Sources.{alias_rows}
use Rattle.property_aliases.specs.Values.{behind, index_of}
use Rattle.property_aliases.specs.declared.number_map.NumberMap.{NumberMap}
use Rattle.property_aliases.specs.declared.property.Property.{Property}
use Rattle.property_aliases.specs.declared.values.ValueNames.{ValueNames}
use Rattle.property_aliases.proofs.PropertyLaws.{kind_below, property_by_index}
use Rattle.property_aliases.proofs.RowsNumbers.{resolved}
use Rattle.release_rows.specs.Releases.{rows_now}
use Rattle.ucd_points.specs.declared.files.SourceFile.TheVariants.{PropertyValueAliases}
use Rattle.property_aliases.proofs.values.ValueNames.of.Goals as goal

-- the numbers of a property's kind, and those of its rows, are those of its values
placed : (v : ValueNames) (tables : ℕ → List (List ℕ)) (rows : ℕ → List (List (List ℕ)))
    → ((k : ℕ) (key : List ℕ) → k < 7 → number_at v.kinds.items k key ≡ direct (tables k) key)
    → ((i : ℕ) (key : List ℕ) → number_at v.rows.items i key ≡ rows_number (number_at v.kinds.items (kind_of (property_by i))) (rows i) key)
    → (p : Property) (key : List ℕ) → place_in v p key ≡ number_of (tables (kind_of p)) (rows (index_of p)) key
placed v tables rows first second p key =
    resolved (tables (kind_of p)) (rows (index_of p)) (number_at v.kinds.items (kind_of p)) (number_at v.rows.items (index_of p))
    (λ k. first (kind_of p) k (kind_below p))
    (λ k. second (index_of p) k ∙ ap (λ q. rows_number (number_at v.kinds.items (kind_of q)) (rows (index_of p)) k) (property_by_index p))
    key

pub returns : goal.returns
returns c =
    let v : ValueNames = record { kinds = c.in_ok-kinds.kinds; rows = c.in_ok-rows.rows } in
    let index = index_in_names c.args.properties.now in
    let scripts = names_in c.args.numbers.now.scripts.names in
    let breaks = names_in c.args.numbers.now.breaks.names in
    let rows = alias_rows (rows_now c.args.release.now PropertyValueAliases) in
    placed v (kind_names scripts breaks) (λ i. flat_map (behind index i) rows)
    (λ k key lt. c.in_ok-kinds.ensures.places k key lt
    ∙ ap (λ (names : List (List ℕ)). direct (kind_names names (map (λ k. k.items) c.as_slice-2.result.now) k) key) (ap (map (λ k. k.items)) c.as_slice.ensures.keys)
    ∙ ap (λ (names : List (List ℕ)). direct (kind_names scripts names k) key) (ap (map (λ k. k.items)) c.as_slice-2.ensures.keys))
    (λ i key. c.in_ok-rows.ensures i key
    ∙ ap (λ (maps : List NumberMap). rows_number (number_at maps (kind_of (property_by i))) (flat_map (behind index i) rows) key) c.as_slice-3.ensures.value)
