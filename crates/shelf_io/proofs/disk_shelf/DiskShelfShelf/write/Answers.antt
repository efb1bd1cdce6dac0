use Rattle.shelf_io.proofs.BesideLemmas.{shown-OnlyPath}
use Rattle.shelf_io.proofs.disk_shelf.DiskShelfShelf.write.Goals as goal

pub returns-clause-others : goal.returns-clause-others
returns-clause-others g c = λ tells. rw (← c.as_slice.ensures, ← c.self.view_is) (shown-OnlyPath _ _ _ (c.write_file-answer.ensures.others tells))
