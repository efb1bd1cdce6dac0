use Rattle.std.proofs.Common.{◌≡◌, ◌++◌, OnOk, List, subst, ◌∙◌}
use Rattle.stability_policies.specs.declared.breaks.Break.{Break}
use Rattle.stability_policies.proofs.NameLemmas.{names_break}
use Rattle.stability_policies.proofs.names.put_renamed.Goals as goal

pub returns : goal.returns
returns c =
    subst (λ (more : List Break). OnOk c.put_renamed_among_rows.result (c.put_renamed_among_rows.new.into ≡ c.args.into.now ++ more))
    (names_break c.args.old.now c.args.new.now c.deref.result.now c.deref-2.result.now (c.deref.ensures.value ∙ c.in_ok-before.ensures.rows) (c.deref-2.ensures.value ∙ c.in_ok-after.ensures.rows))
    c.put_renamed_among_rows.ensures
