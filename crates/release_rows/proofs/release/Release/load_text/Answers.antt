use Rattle.std.proofs.Common.{rules, ◌≡◌, List, Ok, ap, sym, subst, ◌∙◌}
use Rattle.release_rows.specs.FileLemmas.{items_at-with_items_same, items_at-with_items_other}
use Rattle.release_rows.specs.FileItems.{FileItem, bytes_of}
use Rattle.release_rows.specs.Loading.{load_or_fault}
use Rattle.release_rows.specs.Releases.{AreSound, ReleaseItems, items_now, files_now, files_next}
use Rattle.release_rows.proofs.Files.{files_with, now_with, next_with, kept_with, release_with}
use Rattle.release_rows.proofs.release.Release.load_text.Goals as goal

pub invariant_of-self : goal.invariant_of-self
invariant_of-self c =
    let files = c.self.inside.files in
    let lists = c.in_ok-items.items in
    let kept = c.in_ok-items.ensures.sound in
    let next : lists.next ≡ lists.now = c.in_ok-items.ensures.answer.1 in
    rw (c.put.ensures, now_with files c.args.file lists, next_with files c.args.file lists)
    (kept_with (files_now files) c.args.file lists.now c.self.invariant.0 kept, kept_with (files_next files) c.args.file lists.next c.self.invariant.1 (subst (AreSound c.args.file) (sym next) kept), files_with files c.args.file lists c.self.invariant.2 c.in_ok-items.ensures.file)

-- what is loaded stands in the file, now and next
pub returns-clause-answer : goal.returns-clause-answer
returns-clause-answer c =
    let loads : load_or_fault c.args.file c.args.text ≡ Ok c.in_ok-items.items.now = search (rules, c.in_ok-items.ensures.answer.0) in
    rw (loads, c.put.ensures, ← c.self.view_is) (release_with c.self.inside.files c.args.file c.in_ok-items.items c.in_ok-items.ensures.answer.1)

pub returns-clause-items : goal.returns-clause-items
returns-clause-items c =
    let files = c.self.inside.files in
    let lists = c.in_ok-items.items in
    let loads : load_or_fault c.args.file c.args.text ≡ Ok lists.now = search (rules, c.in_ok-items.ensures.answer.0) in
    rw (c.put.ensures, now_with files c.args.file lists)
    (loads ∙ ap (λ (items : List FileItem). Ok items) (sym (items_at-with_items_same (files_now files) c.args.file lists.now c.self.invariant.0.nine)))

pub returns-clause-lossless : goal.returns-clause-lossless
returns-clause-lossless c =
    let files = c.self.inside.files in
    let lists = c.in_ok-items.items in
    rw (c.put.ensures, now_with files c.args.file lists)
    (ap bytes_of (items_at-with_items_same (files_now files) c.args.file lists.now c.self.invariant.0.nine) ∙ c.in_ok-items.ensures.lossless)

pub returns-clause-others : goal.returns-clause-others
returns-clause-others c other apart =
    let files = c.self.inside.files in
    let lists = c.in_ok-items.items in
    rw (c.put.ensures, now_with files c.args.file lists) (items_at-with_items_other (files_now files) c.args.file other lists.now apart)
    ∙ ap (λ (r : ReleaseItems). items_now r other) c.self.view_is
