use Rattle.std.proofs.Common.{◌≡◌, List, ap, subst, ◌∙◌, IfOk}
use Rattle.property_aliases.specs.Sources.{alias_rows, unnumbered}
use Rattle.release_rows.specs.FileLemmas.{rows_of_numbered}
use Rattle.release_rows.specs.Releases.{items_now, rows_now}
use Rattle.ucd_facts.specs.declared.row.Row.{Row}
use Rattle.property_aliases.proofs.rows.alias_rows.Goals as goal

pub returns : goal.returns
returns c =
    let same : unnumbered c.rows.result ≡ rows_now c.args.release.now c.args.file = ap unnumbered c.rows.ensures.rows ∙ rows_of_numbered 1 (items_now c.args.release.now c.args.file) in
    subst (λ (rows : List Row). IfOk c.names_of.result (λ all. all ≡ alias_rows rows)) same c.names_of.ensures
