-- A derived file is a matter of the records below its bound alone.
-- TextsFollowRecords   where R and S give the same record of each code point below n, the text of each file is the same
use Rattle.std.specs.Prelude.{◌≡◌, ℕ, ◌<◌}
use Rattle.ucd_model.specs.DerivedFiles.{derived_text}
use Rattle.ucd_model.specs.Records.{Record}
use Rattle.ucd_facts.specs.declared.files.DerivedFile.{DerivedFile}

abbrev pub TextsFollowRecords : Type 0
TextsFollowRecords = (n : ℕ) (file : DerivedFile) (R S : ℕ → Record) → ((c : ℕ) → c < n → R c ≡ S c) → derived_text n file R ≡ derived_text n file S
