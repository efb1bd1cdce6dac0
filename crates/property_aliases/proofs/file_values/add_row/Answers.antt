use Rattle.std.proofs.Common.{◌++◌, ℕ, List, sym, subst}
use Rattle.std.proofs.lemmas.Result.{on_ok_weaker}
use Rattle.property_aliases.specs.Numbers.{AreNumbered, names_in}
use Rattle.property_aliases.specs.Sources.{missing_row_of, value_row_of}
use Rattle.property_aliases.proofs.NumberedRows.{not_shown, numbered_still, shown_plain}
use Rattle.property_aliases.proofs.file_values.add_row.Goals as goal

pub returns-in-Some-clause-missing : goal.returns-in-Some-clause-missing
returns-in-Some-clause-missing c = on_ok_weaker c.put_row.result (λ more above are.
    let none = shown_plain c.args.row.now c.in-Some.text c.in-Some.ensures in
    subst (λ (names : List (List ℕ)). AreNumbered names c.args.missing.now.items (above ++ missing_row_of c.args.row.now)) (sym more)
    (numbered_still (names_in c.args.names.now) c.in-Some.text.value.now c.args.missing.now.items above (missing_row_of c.args.row.now) none are)) c.put_row.ensures.names

pub returns-in-Some-missing_row_value-clause-rows : goal.returns-in-Some-missing_row_value-clause-rows
returns-in-Some-missing_row_value-clause-rows c = on_ok_weaker c.put_row-in-Some-missing_row_value.result (λ more above are.
    let none = not_shown c.args.row.now c.in_default.ensures in
    subst (λ (names : List (List ℕ)). AreNumbered names c.args.rows.now.items (above ++ value_row_of c.args.row.now)) (sym more)
    (numbered_still (names_in c.args.names.now) c.in-Some-missing_row_value.text.value.now c.args.rows.now.items above (value_row_of c.args.row.now) none are)) c.put_row-in-Some-missing_row_value.ensures.names
