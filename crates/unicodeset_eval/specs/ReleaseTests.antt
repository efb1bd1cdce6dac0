-- What tests say by the rows of a release.
-- release_tests R rows test c   whether c is a code point of which the test holds, where R has the record of each code point
use Rattle.std.specs.Prelude.{ℕ, Bool, ◌&&◌, nat_lt}
use Rattle.property_aliases.specs.declared.property.Test.{Test}
use Rattle.ucd_facts.specs.Facts.{Sources}
use Rattle.ucd_points.specs.Limits.{point_count}
use Rattle.ucd_model.specs.Records.{Record}
use Rattle.unicodeset_eval.specs.Tests.{test_holds}

abbrev pub release_tests : (ℕ → Record) → Sources → Test → ℕ → Bool
release_tests R rows test c = nat_lt c point_count && test_holds R rows test c
