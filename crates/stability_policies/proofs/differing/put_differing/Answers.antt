use Rattle.std.proofs.Common.{◌++◌, drop, ap, ◌∙◌, arith}
use Rattle.stability_policies.specs.NamedRows.{named}
use Rattle.stability_policies.proofs.LeftRows.{all_left, left_whole, rest_whole, step_left, step_moves}
use Rattle.stability_policies.proofs.differing.put_differing.Goals as goal

pub rows-init : goal.rows-init
rows-init c = record {
  left = left_whole (c.args.before.now.items ++ named c.args.old.now) (c.args.after.now.items ++ named c.args.new.now) c.requires.old c.requires.new;
  old_within = omega arith;
  new_within = omega arith;
}

pub rows-preserved : goal.rows-preserved
rows-preserved c =
    let moves = step_moves c.in_ok-step.step in
    record {
      left = rw (c.old_rows_taken-at_old.ensures, c.new_rows_taken-at_new.ensures)
          (step_left (c.args.before.now.items ++ named c.args.old.now) (c.args.after.now.items ++ named c.args.new.now) c.rows.before.items c.take_same_or_first.new.before.items c.rows.after.items c.take_same_or_first.new.after.items
          c.rows.at_old c.rows.at_new c.args.old.now c.args.new.now c.index-old-at_old.result c.index-new-at_new.result c.in_ok-step.step (omega (arith, c.rows-test.true)) (omega (arith, c.if-at_new-new.true))
          c.index-old-at_old.is c.index-new-at_new.is c.in_ok-step.ensures.taken c.rows.invariant.left);
      old_within = omega (arith, moves.0, c.old_rows_taken-at_old.ensures, c.rows-test.true);
      new_within = omega (arith, moves.1, c.new_rows_taken-at_new.ensures, c.if-at_new-new.true);
    }

pub rows-smaller : goal.rows-smaller
rows-smaller c =
    let moves = step_moves c.in_ok-step.step in
    omega (arith, moves.0, moves.1, moves.2, c.old_rows_taken-at_old.ensures, c.new_rows_taken-at_new.ensures, c.rows-test.true, c.if-at_new-new.true)

pub returns : goal.returns
returns c =
    all_left (c.args.before.now.items ++ named c.args.old.now) (c.args.after.now.items ++ named c.args.new.now) c.rows.before.items c.put_names.new.into.items c.rows.after.items c.put_names-2.new.into.items
    (drop c.rows.at_old c.args.old.now) (drop c.rows.at_new c.args.new.now)
    (c.in_ok-put_names.ensures ∙ ap (λ rows. c.rows.before.items ++ named rows) (rest_whole c.rows.at_old c.args.old.now))
    (c.in_ok-put_names-2.ensures ∙ ap (λ rows. c.rows.after.items ++ named rows) (rest_whole c.rows.at_new c.args.new.now))
    c.rows.invariant.left
