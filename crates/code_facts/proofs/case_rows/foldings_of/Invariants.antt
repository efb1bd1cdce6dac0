use Rattle.std.proofs.Common.{◌≡◌, ℕ, [], take}
use Rattle.fact_tables.specs.CaseImages.{cases_at}
use Rattle.code_facts.specs.CaseImages.{all_images}
use Rattle.code_facts.proofs.case_rows.foldings_of.Given as goal

-- the foldings that the rows before this one give
abbrev pub invariant-rows : goal.invariant-rows
invariant-rows l = (c : ℕ) → cases_at l.images c ≡ all_images (take l.text-index l.rows) [] c
