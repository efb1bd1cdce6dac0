use Rattle.std.proofs.Common.{◌≡◌, ℕ, List, sym, ap, ◌∙◌, [], ◌∷◌}
use Rattle.std.proofs.lemmas.Result.{on_ok_weaker}
use Rattle.ucd_facts.specs.declared.row.Row.{Row}
use Rattle.record_lines.specs.FileLines.{place_lines}
use Rattle.record_lines.specs.RowLines.{if_speaks, place_of, rows_lines}
use Rattle.record_lines.proofs.ToldLemmas.{none_covered, one_row, same_more}
use Rattle.source_rows.specs.RowRefs.{row_in}
use Rattle.record_lines.proofs.rows.put_row.Goals as goal

pub returns-then-not-covers_any-clause-told : goal.returns-then-not-covers_any-clause-told
returns-then-not-covers_any-clause-told c =
    let a = c.args in
    let told = a.told.now in
    let lines = place_lines a.file a.lines.now.lines (place_of (a.line, a.row.now)) in
    sym (same_more (rows_lines a.file a.lines.now.lines ((a.line, a.row.now) ∷ [])) (if_speaks a.row.now lines) (one_row a.file a.lines.now.lines a.line a.row.now) told
    ∙ none_covered a.row.now lines told (sym c.covers_any.ensures ∙ c.if-not-covers_any.true))

pub returns-clause-told : goal.returns-clause-told
returns-clause-told c =
    let a = c.args in
    let told = a.told.now in
    let lines = place_lines a.file a.lines.now.lines (place_of (a.line, a.row.now)) in
    let same : row_in c.row-row.result ≡ a.row.now = c.row-row.ensures in
    let by-row = λ (row : Row). place_lines a.file a.lines.now.lines (place_of (a.line, row)) in
    let text : c.as_slice.result.now ≡ lines = c.as_slice.ensures ∙ c.in_ok-text.ensures.text ∙ ap by-row same in
    on_ok_weaker c.put_lines_by_point.result
    (λ put. put ∙ same_more (if_speaks (row_in c.row-row.result) c.as_slice.result.now) (rows_lines a.file a.lines.now.lines ((a.line, a.row.now) ∷ []))
    (λ k. ap (λ (row : Row). if_speaks row c.as_slice.result.now k) same ∙ ap (λ (t : List ℕ). if_speaks a.row.now t k) text ∙ sym (one_row a.file a.lines.now.lines a.line a.row.now k)) told)
    c.put_lines_by_point.ensures
