-- Views that belong to the rows of a release.
-- Belongs F R release   the facts F are those of the rows now, and the records R are derived of them
-- IsValid release       no code point breaks a rule of a valid release
use Rattle.std.specs.Prelude.{◌≡◌, ℕ, None}
use Rattle.release_rows.specs.Releases.{ReleaseItems, rows_now}
use Rattle.ucd_facts.specs.Facts.{Facts, facts}
use Rattle.ucd_model.specs.Records.{Record, record_at}
use Rattle.ucd_model.specs.Validity.{first_broken}

pub record Belongs (F : ℕ → Facts) (R : ℕ → Record) (release : ReleaseItems) : Type 0 where
  pub facts_are : F ≡ facts (rows_now release)
  pub records_are : R ≡ record_at F

abbrev pub IsValid : ReleaseItems → Type 0
IsValid release = first_broken (facts (rows_now release)) ≡ None
