use Rattle.std.proofs.Common.{refl}
use Rattle.release_rows.proofs.FilesEdited.{files_committed, next_committed, now_committed}
use Rattle.release_rows.proofs.release.Release.commit.Goals as goal

pub invariant_of-self : goal.invariant_of-self
invariant_of-self c =
    let files = c.self.inside.files in
    rw (c.commit_all.ensures, now_committed files, next_committed files, files_committed files) (c.self.invariant.1, c.self.invariant.1, c.self.invariant.2)

pub returns : goal.returns
returns c =
    let files = c.self.inside.files in
    rw (c.commit_all.ensures, now_committed files, next_committed files, ← c.self.view_is) refl
