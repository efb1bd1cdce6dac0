use Rattle.release_rows.proofs.Backward.{taken_out}
use Rattle.std.proofs.Common.{◌∙◌}
use Rattle.release_rows.proofs.back.take_out_all.Goals as goal

pub items-preserved : goal.items-preserved
items-preserved c =
    let kept = c.items.invariant in
    let step = taken_out c.items.items.next c.take_out.new.self.next _ c.args.at c.items.left kept.within c.items-test.true kept.so_far c.in_ok-take_out.ensures.next in
    record { file = c.take_out.ensures.file ∙ kept.file; now = c.take_out.ensures.now ∙ kept.now; within = step.0; so_far = step.1 }
