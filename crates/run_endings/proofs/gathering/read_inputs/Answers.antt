use Rattle.std.proofs.Common.{ℕ, [], sym}
use Rattle.std.proofs.lemmas.Option.{slice_get-get_or}
use Rattle.run_endings.specs.Reading.{text_at}
use Rattle.run_endings.proofs.ReadingLemmas.{reads_all}
use Rattle.run_endings.proofs.gathering.read_inputs.Goals as goal

pub returns-in_ok-line-in-Err-FailedAt-clause-unread : goal.returns-in_ok-line-in-Err-FailedAt-clause-unread
returns-in_ok-line-in-Err-FailedAt-clause-unread g c =
    let at : ℕ = c.in-Err-FailedAt.at in
    let failed = rw c.in-Err-FailedAt.field-0-is at c.in-Err-FailedAt.ensures in (
      failed.failed_only,
      record {
        path = text_at c.args.paths.now at;
        place = at;
        needed = slice_get-get_or c.args.paths.now at [] failed.failed_inside;
        told = c.in_ok-line-in-Err-FailedAt.ensures;
        last = λ tells. sym (failed.names_failed tells);
      },
    )

pub returns-in-Ok-clause-read : goal.returns-in-Ok-clause-read
returns-in-Ok-clause-read g c =
    reads_all g.S.Shelf.tells (g.S.Shelf.holds c.args.shelf.now) c.args.paths.now c.in-Ok.held.items c.in-Ok.ensures.contents c.in-Ok.ensures.len c.in-Ok.ensures.cut
