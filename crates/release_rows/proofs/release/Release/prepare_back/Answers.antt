use Rattle.std.proofs.Common.{◌≡◌, List, sym, ap, subst, ◌∙◌}
use Rattle.release_rows.specs.Releases.{AllAreKept, ReleaseItems, files_next, files_now, FileItem}
use Rattle.release_rows.proofs.FilesEdited.{files_discarded, next_discarded, now_discarded}
use Rattle.release_rows.proofs.LeadingFiles.{answers_none}
use Rattle.release_rows.proofs.release.Release.prepare_back.Goals as goal

pub invariant_of-self : goal.invariant_of-self
invariant_of-self c =
    let files = c.undo_all-told.new.files in
    let kept : AllAreKept (files_now files) = subst AllAreKept (sym c.undo_all-told.ensures.now) c.self.invariant.0 in
    rw (c.discard_all.ensures, now_discarded files, next_discarded files, files_discarded files) (kept, kept, c.undo_all-told.ensures.files)

-- what is current is prepared again, as it was
pub returns-then-is_err : goal.returns-then-is_err
returns-then-is_err c =
    let files = c.undo_all-told.new.files in
    let old = c.args.self.now in
    let now : files_now files ≡ old.current = c.undo_all-told.ensures.now ∙ ap (λ (r : ReleaseItems). r.current) c.self.view_is in
    let new : ReleaseItems = record { current = files_now c.discard_all.new.files; prepared = files_next c.discard_all.new.files } in
    let is : new ≡ old = rw (c.discard_all.ensures, now_discarded files, next_discarded files, now) (ap (λ (fs : List (List FileItem)). let r : ReleaseItems = record { current = old.current; prepared = fs } in r) (sym c.requires.still)) in
    record { answer = answers_none c.undo_all-told.result c.args.patch.now old new (sym c.is_err.ensures.value ∙ c.if-is_err.true) is }
