use Rattle.std.proofs.Common.{ℕ, List, sym, ap, ◌∙◌}
use Rattle.std.proofs.lemmas.Result.{IfOk-weaker}
use Rattle.ucd_facts.specs.declared.row.AliasRow.{AliasRow}
use Rattle.source_rows.specs.Keys.{key_names}
use Rattle.source_rows.specs.RowRefs.{casing_in, row_in}
use Rattle.source_rows.specs.declared.row_ref.RowRef.{RowRef}
use Rattle.release_rows.specs.Names.{first_names}
use Rattle.release_rows.specs.Places.{names_of}
use Rattle.release_rows.proofs.KeyTexts.{alias_text, casing_text}
use Rattle.release_rows.proofs.row_key.key_names_text.Goals as goal

pub returns-in-Casing : goal.returns-in-Casing
returns-in-Casing c =
    let text = casing_text c.args.file (casing_in c.in-Casing.text) (rw c.in-Casing.is at c.requires) in
    IfOk-weaker c.conditions_text.result _ _ (λ bytes e. ap (λ (bs : List ℕ). names_of bs) e ∙ text ∙ sym (ap (λ (r : RowRef). key_names c.args.file (row_in r)) c.in-Casing.is)) c.conditions_text.ensures

pub returns-in_ok-first_names-in-Alias : goal.returns-in_ok-first_names-in-Alias
returns-in_ok-first_names-in-Alias c =
    let row : AliasRow = record { names = c.in-Alias.names } in
    let text = alias_text c.args.file row (rw c.in-Alias.is at c.requires) in
    let first = ap (λ (n : ℕ). first_names n row.names) c.alias_count.ensures.count in
    ap (λ (bs : List ℕ). names_of bs) (c.in_ok-first_names-in-Alias.ensures ∙ first) ∙ text ∙ sym (ap (λ (r : RowRef). key_names c.args.file (row_in r)) c.in-Alias.is)
