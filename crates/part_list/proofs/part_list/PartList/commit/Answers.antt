use Rattle.std.proofs.Common.{◌≡◌, map, sym, ap, subst, ◌∙◌, All}
use Rattle.part_list.specs.Guides.{Covers}
use Rattle.part_list.specs.Parts.{flat, next_in}
use Rattle.part_list.specs.PartValues.{committed, parts_now, parts_next}
use Rattle.part_list.specs.Hints.{IsHinted}
use Rattle.part_list.proofs.FlatLemmas.{parts_now-committed, parts_next-committed}
use Rattle.part_list.proofs.GuideLemmas.{settled_committed}
use Rattle.part_list.proofs.part_list.PartList.commit.Goals as goal

pub drop_empty_if_shrunk-requires-clause-settled : goal.drop_empty_if_shrunk-requires-clause-settled
drop_empty_if_shrunk-requires-clause-settled g c = subst (λ ps. map committed ps ≡ ps) (sym c.commit_all.ensures) (settled_committed c.self.inside.parts.items)

-- what is next stays
pub drop_empty_if_shrunk-requires-clause-covers : goal.drop_empty_if_shrunk-requires-clause-covers
drop_empty_if_shrunk-requires-clause-covers g c = subst (Covers c.self.inside.guides.items) (sym (ap parts_next c.commit_all.ensures ∙ parts_next-committed c.self.inside.parts.items)) c.self.invariant.0

pub returns-clause-now : goal.returns-clause-now
returns-clause-now g c =
    c.drop_empty_if_shrunk.ensures.now ∙ ap (λ ps. flat (parts_now ps)) c.commit_all.ensures ∙ ap flat (parts_now-committed c.self.inside.parts.items) ∙ ap next_in c.self.view_is

pub returns-clause-next : goal.returns-clause-next
returns-clause-next g c =
    c.drop_empty_if_shrunk.ensures.next ∙ ap (λ ps. flat (parts_next ps)) c.commit_all.ensures ∙ ap flat (parts_next-committed c.self.inside.parts.items) ∙ ap next_in c.self.view_is

-- the tags of what is next are known
pub invariant_of-self : goal.invariant_of-self
invariant_of-self g c =
    let known = subst (All (IsHinted c.self.inside.hints)) (sym (c.drop_empty_if_shrunk.ensures.next ∙ ap (λ ps. flat (parts_next ps)) c.commit_all.ensures ∙ ap flat (parts_next-committed c.self.inside.parts.items))) c.self.invariant.3 in
    (c.drop_empty_if_shrunk.ensures.covers, λ _. c.drop_empty_if_shrunk.ensures.same, subst (λ xs. All (IsHinted c.self.inside.hints) (flat xs)) (sym c.drop_empty_if_shrunk.ensures.same) known, known)
