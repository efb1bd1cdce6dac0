use Rattle.std.proofs.Common.{◌∙◌}
use Rattle.ucdshop_more_core.proofs.ReadingLemmas.{judged_unread, opens_as, refused_as}
use Rattle.run_inputs.specs.Held.{source_held}
use Rattle.run_inputs.specs.Refusals.{folder_verdict}
use Rattle.ucdshop_more_core.proofs.reading.read_folder.Goals as goal

pub returns-clause-opened : goal.returns-clause-opened
returns-clause-opened g c =
    opens_as g.S.Shelf.tells (g.S.Shelf.holds c.args.shelf.now) c.args.folder.now c.as_slice.result.now c.in_ok-held.held.items (c.as_slice.ensures ∙ c.in_ok-paths.ensures) c.in_ok-held.ensures.read
    c.open_folder.result c.open_folder.ensures.files

pub returns-clause-refused : goal.returns-clause-refused
returns-clause-refused g c =
    refused_as g.S.Shelf.tells (g.S.Shelf.holds c.args.shelf.now) c.args.folder.now c.as_slice.result.now c.in_ok-held.held.items (c.as_slice.ensures ∙ c.in_ok-paths.ensures) c.in_ok-held.ensures.read
    c.open_folder.result c.open_folder.ensures.files

pub returns-clause-unread : goal.returns-clause-unread
returns-clause-unread g c =
    judged_unread c.open_folder.result (folder_verdict c.args.folder.now (source_held c.in_ok-held.held.items 0)) _ _ c.open_folder.ensures.files c.in_ok-held.ensures.unread
