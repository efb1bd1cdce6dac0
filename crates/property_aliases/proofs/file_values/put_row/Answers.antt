use Rattle.std.proofs.Common.{◌≡◌, ◌∷◌, ◌++◌, [], ℕ, List, Some, refl, sym, subst, slice_get}
use Rattle.ucd_facts.specs.declared.row.ValueRow.{ValueRow}
use Rattle.property_aliases.specs.Numbers.{AreNumbered, names_in}
use Rattle.property_aliases.specs.Sources.{add_name}
use Rattle.property_aliases.specs.declared.file_values.NumberedRow.{NumberedRow}
use Rattle.property_aliases.proofs.NumberedRows.{numbered_more}
use Rattle.property_aliases.proofs.file_values.put_row.Goals as goal

pub returns-clause-rows : goal.returns-clause-rows
returns-clause-rows c = λ above are.
    let row : ValueRow = record { span = c.args.span; value = c.args.value.now } in
    let names : List (List ℕ) = add_name (names_in c.args.names.now) row.value in
    let more : NumberedRow = record { number = c.in_ok-number.number; span = c.args.span } in
    let number = subst (λ (ns : List (List ℕ)). slice_get ns c.in_ok-number.number ≡ Some row.value) c.in_ok-number.ensures.names c.in_ok-number.ensures.number in
    let all = numbered_more (names_in c.args.names.now) c.args.rows.now.items above more row are (record { number = number; span = refl }) in
    subst (λ (ns : List (List ℕ)). AreNumbered ns c.push.new.self.items (above ++ row ∷ [])) (sym c.in_ok-number.ensures.names)
    (subst (λ (rs : List NumberedRow). AreNumbered names rs (above ++ row ∷ [])) (sym c.in_ok-push.ensures.items) all)
