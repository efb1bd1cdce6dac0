use Rattle.std.proofs.Common.{ℕ, List, [], ◌∷◌, subst, ◌∙◌}
use Rattle.std.proofs.lemmas.Result.{on_ok_weaker}
use Rattle.run_endings.specs.Planning.{Puts}
use Rattle.ucdshop_more_core.specs.Paths.{steps_in}
use Rattle.ucdshop_more_core.proofs.outputs.put_steps.Goals as goal

pub returns : goal.returns
returns c =
    on_ok_weaker c.put_text.result
    (λ puts releases follows. subst (λ (bytes : List ℕ). Puts (record { path = steps_in c.args.folder.now; bytes = bytes } ∷ []) c.args.outputs.now.items c.put_text.new.outputs.items)
    (c.as_slice.ensures ∙ follows.steps) puts)
    c.put_text.ensures
