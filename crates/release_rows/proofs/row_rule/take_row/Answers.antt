use Rattle.std.proofs.Common.{Option, subst}
use Rattle.release_rows.specs.LoadedRows.{EntersSome}
use Rattle.release_rows.specs.declared.loaded_row.LoadedRow.{LoadedRow}
use Rattle.release_rows.proofs.Growing.{takes_row}
use Rattle.release_rows.proofs.row_rule.take_row.Goals as goal

pub returns : goal.returns
returns c = λ above row holds start enters.
    let e = c.in-Some.field-0 in
    let entered = subst (λ (o : Option LoadedRow). EntersSome c.args.file o row) c.in-Some.is enters in
    rw (c.rule_by.ensures) (takes_row c.args.file above row c.args.keys.now c.take.new.self c.args.before e c.in_ok-conflict.conflict c.breaks_ascent-back.result holds start entered
    c.in_ok-conflict.ensures.rule c.in_ok-conflict.ensures.keys c.breaks_ascent-back.ensures)
