use Rattle.std.proofs.Common.{sym, subst, All}
use Rattle.part_list.specs.Guides.{Covers}
use Rattle.part_list.specs.Parts.{flat}
use Rattle.part_list.specs.PartValues.{parts_now, parts_next}
use Rattle.part_list.specs.Hints.{IsHinted}
use Rattle.part_list.proofs.HintLemmas.{hinted_spliced}
use Rattle.part_list.proofs.part_list.PartList.edit.Goals as goal

-- the tags of what is put are noted
pub invariant_of-self-then-len-gt0 : goal.invariant_of-self-then-len-gt0
invariant_of-self-then-len-gt0 g c =
    let now = subst (λ ps. All (IsHinted c.note.new.self) (flat (parts_now ps))) c.deref.ensures.value c.note.ensures.now in
    let next = subst (λ ps. All (IsHinted c.note.new.self) (flat (parts_next ps))) c.deref.ensures.value c.note.ensures.next in (
      subst (λ ps. Covers c.renew.new.guides.items (parts_next ps)) c.deref-then-len-gt0.ensures.value c.renew.ensures,
      λ never. absurd cc,
      subst (All (IsHinted c.note.new.self)) (sym c.in_ok-edit.ensures.now) now,
      subst (All (IsHinted c.note.new.self)) (sym c.in_ok-edit.ensures.ok) (hinted_spliced c.note.new.self _ _ _ _ next c.note.ensures.put),
    )

pub invariant_of-self-else-len-count : goal.invariant_of-self-else-len-count
invariant_of-self-else-len-count g c =
    let now = subst (λ ps. All (IsHinted c.note.new.self) (flat (parts_now ps))) c.deref.ensures.value c.note.ensures.now in
    let next = subst (λ ps. All (IsHinted c.note.new.self) (flat (parts_next ps))) c.deref.ensures.value c.note.ensures.next in (
      subst (λ ps. Covers c.renew_all.new.guides.items (parts_next ps)) c.deref-else-len-count.ensures.value c.renew_all.ensures,
      λ never. absurd cc,
      subst (All (IsHinted c.note.new.self)) (sym c.in_ok-edit.ensures.now) now,
      subst (All (IsHinted c.note.new.self)) (sym c.in_ok-edit.ensures.ok) (hinted_spliced c.note.new.self _ _ _ _ next c.note.ensures.put),
    )
