use Rattle.std.proofs.Common.{◌≡◌, List, Ok, sym, ap, ◌∙◌}
use Rattle.release_rows.specs.FileItems.{FileItem}
use Rattle.release_rows.specs.Loading.{file_or_fault}
use Rattle.release_rows.proofs.load_items.load_items.Goals as goal

pub returns-clause-sound : goal.returns-clause-sound
returns-clause-sound c =
    let answer = rw c.as_slice.ensures at c.in_ok-items.ensures.answer in
    let whole : file_or_fault c.args.file c.args.text ≡ Ok c.new.result.now = answer ∙ ap (λ (items : List FileItem). Ok items) (sym c.new.ensures.now) in
    (c.loaded_files_are_sound.ensures c.args.file c.args.text c.new.result.now whole).0
