use Rattle.std.proofs.Common.{◌≡◌, ℕ, List, [], take}
use Rattle.ucd_facts.specs.declared.row.Row.{Row}
use Rattle.fact_tables.specs.CaseImages.{cases_at}
use Rattle.code_facts.specs.CaseImages.{all_images}
use Rattle.code_facts.proofs.case_rows.casings_over.Given as goal

-- the casings that the rows before this one give, beside the foldings
abbrev pub invariant-rows : goal.invariant-rows
invariant-rows l = (given : List Row) → ((c : ℕ) → cases_at l.fn.foldings c ≡ all_images given [] c) → (c : ℕ) → cases_at l.images c ≡ all_images given (take l.text-index l.rows) c
