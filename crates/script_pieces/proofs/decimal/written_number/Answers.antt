use Rattle.std.proofs.Common.{ℕ, List, sym, subst, ◌∙◌}
use Rattle.std.specs.Str.Parse.{ParsesUnsigned}
use Rattle.script_pieces.proofs.DecimalLemmas.{not_plain, not_text, read}
use Rattle.script_pieces.proofs.decimal.written_number.Goals as goal

pub returns-then-not-has_no_spare_prefix-clause-written : goal.returns-then-not-has_no_spare_prefix-clause-written
returns-then-not-has_no_spare_prefix-clause-written c = not_plain c.args.word.now (sym c.has_no_spare_prefix.ensures ∙ c.if-not-has_no_spare_prefix.true)

pub returns-in_default-clause-written : goal.returns-in_default-clause-written
returns-in_default-clause-written c = not_text c.args.word.now c.in_default.ensures.cases.0

pub returns-clause-written : goal.returns-clause-written
returns-clause-written c =
    rw c.ok.ensures.value (read c.args.word.now c.parse.result (sym c.has_no_spare_prefix.ensures ∙ c.if-not-has_no_spare_prefix.false)
    (subst (λ (word : List ℕ). ParsesUnsigned 32 10 word c.parse.result) c.in-Ok.ensures.cases.0 c.parse.ensures.value.0))
