use Rattle.std.proofs.Common.{◌&&◌, ◌||◌, ℕ, List, sym, ap, subst, ◌∙◌, arith, nat_eq}
use Rattle.property_aliases.specs.Numbers.{AreNumbered, names_in}
use Rattle.property_aliases.specs.Sources.{numbered, value_rows}
use Rattle.property_aliases.specs.declared.file_values.NumberedRow.{NumberedRow}
use Rattle.unicodeset_eval.specs.Edges.{has}
use Rattle.unicodeset_eval.specs.Given.{defaults_are, given, given_or_default}
use Rattle.unicodeset_eval.specs.LayeredRows.{first_is_default, missing_stays}
use Rattle.unicodeset_eval.specs.RowSetLaws.{numbered_is}
use Rattle.unicodeset_eval.proofs.row_sets.unlayered_sets.Goals as goal

pub add_at-requires : goal.add_at-requires
add_at-requires c = let len = c.in_ok-sets.ensures.len in let some = c.requires.some in omega (arith, len, some)

pub returns : goal.returns
returns c = λ default rows are apart i x.
    let names : List (List ℕ) = names_in c.args.values.now.names in
    let all : AreNumbered names c.rows.result.now (value_rows rows) = subst (λ (rs : List NumberedRow). AreNumbered names rs (value_rows rows)) (sym c.rows.ensures) are.rows_are in
    defaults_are (λ k. k.items) c.args.values.now.names.keys c.in_ok-sets.ensures.distinct c.add_at.new.sets.items (value_rows rows) default (first_is_default c.args.values.now default rows are) x
    (λ j.
    c.in_ok-add_at.ensures j x
    ∙ ap (λ b. b || (nat_eq 0 j && has c.in_ok-rest.rest x)) (c.in_ok-sets.ensures.has (value_rows rows) are.rows_are j x)
    ∙ ap (λ b. given names (value_rows rows) j x || (nat_eq 0 j && b)) (c.in_ok-rest.ensures names (value_rows rows) all x))
    i
    ∙ ap (λ (ns : List (List ℕ)). given_or_default default ns (value_rows rows) i x) are.names_are
    ∙ ap (λ (name : List ℕ). given_or_default name (numbered default rows) (value_rows rows) i x) (sym (missing_stays c.args.values.now default rows are c.requires.missing x))
    ∙ numbered_is rows default i x (apart x)
