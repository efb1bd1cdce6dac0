use Rattle.std.proofs.Common.{◌≡◌, ◌∷◌, ◌++◌, List, fold, map, sym, ap, ◌∙◌}
use Rattle.std.proofs.lemmas.List.{append_assoc, map-append}
use Rattle.std.proofs.lemmas.List.Sums.{fold-append}
use Rattle.ucd_facts.specs.declared.row.Row.{Row}
use Rattle.property_aliases.specs.Numbers.{names_in}
use Rattle.property_aliases.specs.Sources.{add_name, missing_row_of, missing_rows, unnumbered, value_names, value_row_of, value_rows, valued_row_of, valued_rows}
use Rattle.property_aliases.proofs.file_values.with_rows.Goals as goal

pub rows-preserved : goal.rows-preserved
rows-preserved c =
    let row : Row = c.in-Some.row in
    let rest : List Row = unnumbered c.next.new.self in
    let split : unnumbered c.rows.left ≡ row ∷ rest = ap unnumbered c.in-Some.ensures.steps in
    let before = c.rows.invariant.rows in
    let gone = c.rows.invariant.missing in
    record {
      names = ap (λ ns. fold add_name ns (value_names rest)) c.in_ok-add_row.ensures.names
          ∙ sym (fold-append add_name (names_in c.rows.names) (map (λ r. r.value) (valued_row_of row)) (value_names rest))
          ∙ ap (fold add_name (names_in c.rows.names)) (sym (map-append (λ r. r.value) (valued_row_of row) (valued_rows rest)))
          ∙ ap (λ (left : List Row). fold add_name (names_in c.rows.names) (value_names left)) (sym split)
          ∙ c.rows.invariant.names;
      rows = (
        before.0 ++ value_row_of row,
        c.in_ok-add_row.ensures.rows before.0 before.1,
        append_assoc before.0 (value_row_of row) (value_rows rest) ∙ ap (λ (left : List Row). before.0 ++ value_rows left) (sym split) ∙ before.2,
      );
      missing = (
        gone.0 ++ missing_row_of row,
        c.in_ok-add_row.ensures.missing gone.0 gone.1,
        append_assoc gone.0 (missing_row_of row) (missing_rows rest) ∙ ap (λ (left : List Row). gone.0 ++ missing_rows left) (sym split) ∙ gone.2,
      );
    }
