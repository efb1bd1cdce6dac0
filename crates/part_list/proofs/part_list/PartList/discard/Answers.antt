use Rattle.std.proofs.Common.{◌≡◌, map, sym, ap, subst, ◌∙◌, All}
use Rattle.part_list.specs.Parts.{flat, now_in}
use Rattle.part_list.specs.PartValues.{committed, parts_now, parts_next}
use Rattle.part_list.specs.Hints.{IsHinted}
use Rattle.part_list.proofs.FlatLemmas.{parts_now-discarded, parts_next-discarded}
use Rattle.part_list.proofs.GuideLemmas.{settled_discarded}
use Rattle.part_list.proofs.part_list.PartList.discard.Goals as goal

pub drop_empty_if_shrunk-requires-clause-settled : goal.drop_empty_if_shrunk-requires-clause-settled
drop_empty_if_shrunk-requires-clause-settled g c = subst (λ ps. map committed ps ≡ ps) (sym c.discard_all.ensures) (settled_discarded c.self.inside.parts.items)

pub returns-clause-now : goal.returns-clause-now
returns-clause-now g c =
    c.drop_empty_if_shrunk.ensures.now ∙ ap (λ ps. flat (parts_now ps)) c.discard_all.ensures ∙ ap flat (parts_now-discarded c.self.inside.parts.items) ∙ ap now_in c.self.view_is

pub returns-clause-next : goal.returns-clause-next
returns-clause-next g c =
    c.drop_empty_if_shrunk.ensures.next ∙ ap (λ ps. flat (parts_next ps)) c.discard_all.ensures ∙ ap flat (parts_next-discarded c.self.inside.parts.items) ∙ ap now_in c.self.view_is

-- the tags of what is now are known
pub invariant_of-self : goal.invariant_of-self
invariant_of-self g c =
    let known = subst (All (IsHinted c.self.inside.hints)) (sym (c.drop_empty_if_shrunk.ensures.next ∙ ap (λ ps. flat (parts_next ps)) c.discard_all.ensures ∙ ap flat (parts_next-discarded c.self.inside.parts.items))) c.self.invariant.2 in
    (c.drop_empty_if_shrunk.ensures.covers, λ _. c.drop_empty_if_shrunk.ensures.same, subst (λ xs. All (IsHinted c.self.inside.hints) (flat xs)) (sym c.drop_empty_if_shrunk.ensures.same) known, known)
