use Rattle.std.proofs.Common.{ℕ, List, ◌++◌, take, sym, ap, ◌∙◌}
use Rattle.release_rows.specs.Names.{first_names}
use Rattle.release_rows.proofs.KeyTexts.{names_behind, first_and_behind, more_names}
use Rattle.release_rows.proofs.row_key.first_names.Goals as goal

pub names-init : goal.names-init
names-init c =
    let whole = first_and_behind c.args.count c.in-Some.first.now c.next.new.self c.requires in
    rw c.in_ok-text.ensures.items (whole ∙ ap (λ (ns : List (List ℕ)). first_names c.args.count ns) (sym c.in-Some.ensures.steps))

pub names-preserved : goal.names-preserved
names-preserved c =
    let left = c.names.left in
    let more = more_names c.names.text.items c.in-Some-next.name.now left c.next-in-names.new.self c.names-test.true in
    rw (c.in_ok-extend_from_slice.ensures.items, c.in_ok-push.ensures.items) (more ∙ ap (λ (ns : List (List ℕ)). c.names.text.items ++ names_behind (take left ns)) (sym c.in-Some-next.ensures.steps) ∙ c.names.invariant)
