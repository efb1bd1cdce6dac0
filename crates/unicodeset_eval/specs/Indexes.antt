-- What an index says of code points.
-- index_holds record_of index test c   what the index says of c by the records and sets that it keeps; never past 10FFFF
use Rattle.std.specs.Prelude.{ℕ, Bool, ◌&&◌, nat_lt}
use Rattle.ucd_points.specs.Limits.{point_count}
use Rattle.ucd_model.specs.Records.{Record}
use Rattle.ucd_model.specs.declared.records.Records.{Ghosts}
use Rattle.property_aliases.specs.declared.property.Test.{Test}
use Rattle.unicodeset_eval.specs.Found.{says}
use Rattle.unicodeset_eval.specs.declared.index.SetIndex.{SetIndex}

abbrev pub index_holds : {B : Type 0} {d : Ghosts B} → (B → ℕ → Record) → SetIndex B d → Test → ℕ → Bool
index_holds record_of index test c = nat_lt c point_count && says (record_of index.bench.now) index.rows.now test c
