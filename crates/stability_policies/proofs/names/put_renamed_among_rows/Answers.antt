use Rattle.std.proofs.Common.{◌≡◌, ◌++◌, OnOk, List, subst}
use Rattle.std.specs.List.{range_with_len}
use Rattle.ucd_points.specs.Limits.{point_count}
use Rattle.stability_policies.specs.NamedRows.{AreLeft, named}
use Rattle.stability_policies.specs.declared.breaks.Break.{Break}
use Rattle.stability_policies.specs.declared.breaks.Break.TheVariants.{At}
use Rattle.stability_policies.specs.declared.named_row.NamedRow.{NamedRow}
use Rattle.stability_policies.specs.declared.policy.Policy.TheVariants.{P02}
use Rattle.stability_policies.proofs.LeftRows.{breaks_left}
use Rattle.stability_policies.proofs.names.put_renamed_among_rows.Goals as goal

pub returns : goal.returns
returns c =
    let left : AreLeft (named c.args.old.now) (named c.args.new.now) c.put_differing.new.before.items c.put_differing.new.after.items =
    subst (λ (xs : List NamedRow). AreLeft (xs ++ named c.args.old.now) (named c.args.new.now) c.put_differing.new.before.items c.put_differing.new.after.items) c.new-before.ensures.items
    (subst (λ (ys : List NamedRow). AreLeft (c.new-before.result.items ++ named c.args.old.now) (ys ++ named c.args.new.now) c.put_differing.new.before.items c.put_differing.new.after.items) c.new-after.ensures.items c.in_ok-put_differing.ensures) in
    subst (λ (more : List Break). OnOk c.put_renamed_among_names.result (c.put_renamed_among_names.new.into ≡ c.args.into.now ++ more))
    (breaks_left (At P02) (range_with_len 0 point_count) (named c.args.old.now) (named c.args.new.now) c.put_differing.new.before.items c.put_differing.new.after.items left)
    (rw (c.as_slice.ensures.value, c.as_slice-2.ensures.value) at c.put_renamed_among_names.ensures)
