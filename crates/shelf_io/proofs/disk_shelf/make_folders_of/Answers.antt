use Rattle.shelf_io.proofs.FolderLemmas.{folder_of-None, folder_of-Some}
use Rattle.shelf_io.proofs.disk_shelf.make_folders_of.Goals as goal

pub returns-in_default-clause-made : goal.returns-in_default-clause-made
returns-in_default-clause-made g c = let none = folder_of-None c.args.path.now c.in_default.ensures.cases in λ tells. rw none tt

pub returns-in-Ok-clause-made : goal.returns-in-Ok-clause-made
returns-in-Ok-clause-made g c =
    let found = c.in-Some.ensures.cases in
    let folder = folder_of-Some c.args.path.now found.0 found.1 _ found.2 found.7 in
    λ tells. rw folder (rw (← found.3) (c.in-Ok.ensures.ok tells))
