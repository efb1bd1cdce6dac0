-- Records that are kept in a list of spans, for tests.
-- entry_or rest entry      the record of the entry that was found, and rest where there is none
-- sample_record s rest c   the record of c: that of the first entry of s whose span covers c, and without one the default, rest
use Rattle.std.specs.Prelude.{ℕ, List, Option, Some, None, find}
use Rattle.ucd_points.specs.Bounds.{Bounds}
use Rattle.ucd_facts.specs.Facts.{within}
use Rattle.ucd_model.specs.Records.{Record, kept_record}
use Rattle.ucd_model.specs.declared.records.Record.{Record as KeptRecord}

abbrev pub entry_or : KeptRecord → Option (Bounds × KeptRecord) → KeptRecord
entry_or rest (Some entry) = entry.1
entry_or rest None = rest

abbrev pub sample_record : List (Bounds × KeptRecord) → KeptRecord → ℕ → Record
sample_record entries rest c = kept_record (entry_or rest (find (λ entry. within c entry.0) entries))
