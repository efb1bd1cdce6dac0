-- What a bench shows.
-- bench_facts release          the facts of the release's rows now
-- bench_record release c       the record of c that is derived of these facts
-- bench_word release c         the packed word of these facts of c
-- EndsAlike R s                the code point behind the span s, if there is one, has another record than the first of s
-- IsUnbroken release           no code point breaks a rule of a valid release
-- NamesBroken stop F           the stop names the least code point that breaks a rule over the facts F, with its first rule; if
--                              memory ran out, nothing is claimed
-- HasNothingPrepared release   what is next is what is now
use Rattle.std.specs.Prelude.{◌≡◌, ◌≢◌, ℕ, ◌+◌, ◌<◌, Some, None, ⊤}
use Rattle.ucd_points.specs.Bounds.{Bounds}
use Rattle.ucd_points.specs.Limits.{point_count}
use Rattle.ucd_facts.specs.Facts.{Facts, facts}
use Rattle.ucd_model.specs.Records.{Record, record_at}
use Rattle.ucd_model.specs.Validity.{first_broken}
use Rattle.release_rows.specs.Releases.{ReleaseItems, rows_now}
use Rattle.fact_tables.specs.Word.{packed}
use Rattle.edit_session.specs.declared.open_stop.OpenStop.{OpenStop}
use Rattle.edit_session.specs.declared.open_stop.OpenStop.TheVariants.{Invalid, Memory}

abbrev pub bench_facts : ReleaseItems → ℕ → Facts
bench_facts release = facts (rows_now release)

abbrev pub bench_record : ReleaseItems → ℕ → Record
bench_record release = record_at (bench_facts release)

abbrev pub bench_word : ReleaseItems → ℕ → ℕ
bench_word release c = packed (bench_facts release c)

abbrev pub EndsAlike : (ℕ → Record) → Bounds → Type 0
EndsAlike R s = s.hi + 1 < point_count → R (s.hi + 1) ≢ R s.lo

abbrev pub IsUnbroken : ReleaseItems → Type 0
IsUnbroken release = first_broken (bench_facts release) ≡ None

abbrev pub NamesBroken : OpenStop → (ℕ → Facts) → Type 0
NamesBroken (Invalid rule point) F = first_broken F ≡ Some (record { point = point; rule = rule })
NamesBroken Memory F = ⊤

abbrev pub HasNothingPrepared : ReleaseItems → Type 0
HasNothingPrepared release = release.prepared ≡ release.current
