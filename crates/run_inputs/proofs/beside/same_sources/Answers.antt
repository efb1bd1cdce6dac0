use Rattle.std.proofs.Common.{sym, ◌∙◌, arith}
use Rattle.run_inputs.proofs.SameSources.{same_at}
use Rattle.run_inputs.proofs.beside.same_sources.Goals as goal

-- what is held of one file differs, so what is held of all does
pub returns-then-not-is_same_text : goal.returns-then-not-is_same_text
returns-then-not-is_same_text c =
    let test = c.files-test.true in (
      λ no. absurd cc,
      λ same. sym c.if-not-is_same_text.true ∙ c.is_same_text.ensures.1 (c.held_at.ensures ∙ same_at c.args.held.now c.args.first c.args.second c.files.place (omega arith) same ∙ sym c.held_at-in-files.ensures),
    )
