use Rattle.std.proofs.Common.{refl}
use Rattle.release_rows.proofs.FilesEdited.{files_discarded, next_discarded, now_discarded}
use Rattle.release_rows.proofs.release.Release.discard.Goals as goal

pub invariant_of-self : goal.invariant_of-self
invariant_of-self c =
    let files = c.self.inside.files in
    rw (c.discard_all.ensures, now_discarded files, next_discarded files, files_discarded files) (c.self.invariant.0, c.self.invariant.0, c.self.invariant.2)

pub returns : goal.returns
returns c =
    let files = c.self.inside.files in
    rw (c.discard_all.ensures, now_discarded files, next_discarded files, ← c.self.view_is) refl
