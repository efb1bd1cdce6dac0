-- The laws of the facts of rows that files can have.
-- KindsAreMapped     where each row of UnicodeData.txt is one that the file can have, a code point with a kind of mapping has a
--                    mapping: its mapping is not empty
use Rattle.std.specs.Prelude.{◌≡◌, ◌≢◌, ℕ, false, [], All}
use Rattle.ucd_facts.specs.Facts.{Sources, facts, is_plain}
use Rattle.ucd_facts.specs.RowValues.{RowOk}
use Rattle.ucd_points.specs.declared.files.SourceFile.TheVariants.{UnicodeData}

abbrev pub KindsAreMapped : Type 0
KindsAreMapped = (rows : Sources) → All (RowOk UnicodeData) (rows UnicodeData) → (c : ℕ) → is_plain (facts rows c).kind ≡ false → (facts rows c).mapping ≢ []
