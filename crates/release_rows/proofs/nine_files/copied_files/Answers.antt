use Rattle.std.proofs.Common.{◌∙◌, sym, arith}
use Rattle.std.proofs.lemmas.List.{same_lists}
use Rattle.release_rows.proofs.nine_files.copied_files.Goals as goal

pub returns : goal.returns
returns c =
    let all = c.files-test.false in
    let count = c.files.invariant.count in
    same_lists c.files.copies c.args.files.now (count ∙ sym c.type_inv.files) (λ k d lt. c.files.invariant.so_far k d (omega (arith, lt, count, all)))
