-- The law of the steps.
-- IsCut F     a number past the code points has no mapping
-- AskedLead   where there are steps to each code point from those that it mentions, one comes to a code point from each that its
--             derivation asks about
use Rattle.std.specs.Prelude.{◌≡◌, ℕ, ◌≤◌, Bool, true}
use Rattle.ucd_facts.specs.Facts.{Facts}
use Rattle.ucd_facts.specs.Uniform.{IsPlain}
use Rattle.ucd_facts.specs.Answers.{is_asked}
use Rattle.ucd_facts.specs.declared.query.Query.{Query}
use Rattle.mention_index.specs.Reached.{about}
use Rattle.query_laws.specs.Questions.{asked}
use Rattle.mention_index.specs.Steps.{HasSteps, Leads}

abbrev pub IsCut : (ℕ → Facts) → Type 0
IsCut F = (c : ℕ) → 1114112 ≤ c → IsPlain c (F c)

abbrev pub AskedLead : Type 0
AskedLead = (step : ℕ → ℕ → Bool) (F : ℕ → Facts) → IsCut F → HasSteps step F → (c : ℕ) (q : Query) → is_asked (asked F c) q ≡ true → Leads step c (about q)
