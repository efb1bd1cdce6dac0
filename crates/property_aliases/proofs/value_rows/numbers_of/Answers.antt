use Rattle.std.proofs.Common.{◌≡◌, ℕ, List, ◌∷◌, Option, sym, ap, ◌∙◌, flat_map}
use Rattle.std.proofs.lemmas.List.Concat.{flat_map-append}
use Rattle.ucd_facts.specs.declared.row.Row.{Row}
use Rattle.property_aliases.specs.Kinds.{kind_of, number_at}
use Rattle.property_aliases.specs.NumberMaps.{index_in_names}
use Rattle.property_aliases.specs.Properties.{property_by}
use Rattle.property_aliases.specs.ResolvingLaws.{least, least_least, rows_number}
use Rattle.property_aliases.specs.Sources.{alias_of, alias_rows, unnumbered}
use Rattle.property_aliases.specs.Values.{behind}
use Rattle.property_aliases.proofs.RowsNumbers.{rows_number-append}
use Rattle.property_aliases.proofs.value_rows.numbers_of.Goals as goal

-- the numbers of a row come before those of the rows behind it
one_more : (f : List ℕ → Option ℕ) (b : List (List ℕ) → List (List (List ℕ))) (row : Row) (rest : List Row) (before now : Option ℕ) (key : List ℕ) → now ≡ least before (rows_number f (flat_map b (alias_of row)) key)
    → least now (rows_number f (flat_map b (alias_rows rest)) key) ≡ least before (rows_number f (flat_map b (alias_rows (row ∷ rest))) key)
one_more f b row rest before now key added =
    ap (λ n. least n (rows_number f (flat_map b (alias_rows rest)) key)) added
    ∙ least_least before (rows_number f (flat_map b (alias_of row)) key) (rows_number f (flat_map b (alias_rows rest)) key)
    ∙ ap (least before) (sym (rows_number-append f (flat_map b (alias_of row)) (flat_map b (alias_rows rest)) key))
    ∙ ap (λ (all : List (List (List ℕ))). least before (rows_number f all key)) (sym (flat_map-append b (alias_of row) (alias_rows rest)))

pub rows-preserved : goal.rows-preserved
rows-preserved c i key =
    let row : Row = c.in-Some.row in
    let rest : List Row = unnumbered c.next.new.self in
    let split : unnumbered c.rows.left ≡ row ∷ rest = ap unnumbered c.in-Some.ensures.steps in
    let f : List ℕ → Option ℕ = number_at c.args.kinds.now (kind_of (property_by i)) in
    let b : List (List ℕ) → List (List (List ℕ)) = behind (index_in_names c.args.properties.now) i in
    let before : Option ℕ = number_at c.rows.maps.items i key in
    one_more f b row rest before (number_at c.read_and_add_row.new.maps.items i key) key (c.in_ok-read_and_add_row.ensures i key)
    ∙ ap (λ (left : List Row). least before (rows_number f (flat_map b (alias_rows left)) key)) (sym split)
    ∙ c.rows.invariant i key
