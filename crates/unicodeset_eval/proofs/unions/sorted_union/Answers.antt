use Rattle.std.proofs.Common.{sym, ap, ◌∙◌}
use Rattle.std.specs.List.{list_any}
use Rattle.std.proofs.lemmas.List.Sorted.{list_any-IsPermutation}
use Rattle.ucd_facts.specs.Facts.{within}
use Rattle.unicodeset_eval.proofs.unions.sorted_union.Goals as goal

-- to sort spans changes none of what lies in them
pub returns : goal.returns
returns c x =
    c.in_ok-set.ensures x
    ∙ ap (list_any (within x)) c.as_slice.ensures.value
    ∙ sym (list_any-IsPermutation (within x) c.in_ok-sorted.sorted.items c.sort_by_key.new.self.items c.sort_by_key.ensures.permutation)
    ∙ ap (list_any (within x)) c.in_ok-sorted.ensures.items
