use Rattle.std.proofs.Common.{◌≡◌, [], ℕ, List, fold, map, ap, subst, ◌∙◌, IfOk}
use Rattle.release_rows.specs.FileLemmas.{rows_of_numbered}
use Rattle.release_rows.specs.Releases.{items_now, rows_now}
use Rattle.ucd_facts.specs.declared.row.Row.{Row}
use Rattle.property_aliases.specs.Numbers.{AreValues, names_in}
use Rattle.property_aliases.specs.Sources.{add_name, unnumbered, value_names}
use Rattle.property_aliases.proofs.file_values.values_behind_default.Goals as goal

pub returns : goal.returns
returns c =
    let rows : List Row = rows_now c.args.release.now c.args.file in
    let same : unnumbered c.rows.result ≡ rows = ap unnumbered c.rows.ensures.rows ∙ rows_of_numbered 1 (items_now c.args.release.now c.args.file) in
    let none : names_in c.new-names.result ≡ [] = ap (map (λ k. k.items)) c.new-names.ensures.empty in
    let first : names_in c.number_of.new.names ≡ add_name [] c.args.default.now = c.in_ok-number_of.ensures.names ∙ ap (λ (ns : List (List ℕ)). add_name ns c.args.default.now) none in
    subst (λ (ns : List (List ℕ)). IfOk c.with_rows.result (λ values. AreValues values (fold add_name ns (value_names rows)) rows)) first
    (subst (λ (rs : List Row). IfOk c.with_rows.result (λ values. AreValues values (fold add_name (names_in c.number_of.new.names) (value_names rs)) rs)) same c.with_rows.ensures)
