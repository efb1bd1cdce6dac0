use Rattle.std.proofs.Common.{◌≡◌, ℕ, List, [], ◌∷◌, ◌++◌, length, ap, subst, sym, refl, ◌∙◌, nat_lt}
use Rattle.norm_conformance.specs.declared.miss.Miss.{Miss}
use Rattle.run_endings.specs.Planning.{HaveLines}
use Rattle.run_endings.specs.Writing.{files_of}
use Rattle.run_endings.specs.declared.output.Output.{Output}
use Rattle.ucdshop_more_core.specs.MissTexts.{misses_of, misses_text}
use Rattle.ucdshop_more_core.specs.Paths.{misses_in}
use Rattle.ucdshop_more_core.specs.Printed.{conform_summary}
use Rattle.ucdshop_more_core.proofs.conform_plan.conform_plan.Goals as goal

pub returns : goal.returns
returns c =
    let output = c.args.output.now in
    let trial = c.args.trial.now in
    let shown = c.as_slice.result.now in
    let count : c.len-count.result ≡ length (misses_of trial) = c.len-count.ensures ∙ ap (λ (found : List Miss). length found) c.in_ok-found.ensures in
    record {
      files = c.in_ok-put_text.ensures.put
          ∙ ap (λ (outputs : List Output). files_of outputs ++ record { path = misses_in output; bytes = shown } ∷ []) c.new-outputs.ensures.items
          ∙ ap (λ (bytes : List ℕ). record { path = misses_in output; bytes = bytes } ∷ []) (c.as_slice.ensures ∙ c.in_ok-text.ensures ∙ ap misses_text c.in_ok-found.ensures);
      lines = c.in_ok-put_text.ensures.lines (subst HaveLines (sym c.new-outputs.ensures.items) refl);
      summary = c.in_ok-summary.ensures ∙ ap (λ (n : ℕ). conform_summary n c.len-count.result) c.len.ensures ∙ ap (conform_summary (length trial.cases.list)) count;
      done = ap (nat_lt 0) count;
    }
