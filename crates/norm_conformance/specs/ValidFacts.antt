-- Facts of valid rows.
-- AreOfValidRows F    F is the facts of the rows of a release, and no code point breaks a rule of a valid release
use Rattle.std.specs.Prelude.{◌≡◌, ℕ, None}
use Rattle.ucd_facts.specs.Facts.{Facts, Sources, facts}
use Rattle.ucd_model.specs.Validity.{first_broken}

pub record AreOfValidRows (F : ℕ → Facts) : Type 0 where
  pub rows : Sources
  pub facts_are : F ≡ facts rows
  pub valid : first_broken F ≡ None
