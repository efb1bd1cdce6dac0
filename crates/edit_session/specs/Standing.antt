-- What a bench keeps.
-- IsBench release d    nothing is prepared in the release, and what is derived is that of the facts of its rows, now and next
use Rattle.release_rows.specs.Releases.{ReleaseItems}
use Rattle.edit_session.specs.Benches.{HasNothingPrepared, bench_facts}
use Rattle.edit_session.specs.Derivations.{IsNow, IsStill}
use Rattle.edit_session.specs.declared.derivation.Derivation.{Derivation}

pub record IsBench (release : ReleaseItems) (d : Derivation) : Type 0 where
  pub still : HasNothingPrepared release
  pub now : IsNow (bench_facts release) d
  pub next : IsStill d
