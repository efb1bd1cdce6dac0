use Rattle.std.proofs.lemmas.Bool.{and_parts}
use Rattle.std.proofs.lemmas.List.Elements.{All-append}
use Rattle.part_list.specs.Reaches.{IsWithin}
use Rattle.part_list.proofs.OrderLemmas.{few_put, ordered_spliced}
use Rattle.part_list.proofs.ReachLemmas.{all_wider, wider_on, within_spliced}
use Rattle.part_list.proofs.part.Part.splice.Goals as goal

-- the entries that stay are within the old reach, and the new ones within the new
pub invariant_of-self : goal.invariant_of-self
invariant_of-self g c =
    let second = c.with_some-self-inside.ensures in
    let wider = wider_on _ _ _ c.with_some.ensures.wider second.wider in (
      rw (c.in_ok-edit.ensures, c.next.ensures, ← c.self.view_is)
          (within_spliced c.with_some-self-inside.result _ c.args.at c.args.removed _ (all_wider _ _ wider _ c.self.invariant.0)
          (All-append (IsWithin c.with_some-self-inside.result) _ _ (all_wider _ _ second.wider _ c.with_some.ensures.entry) second.entry)),
      λ told.
          let both = and_parts c.self.inside.ordered c.is_ordered_around.result told in
          let within = (rw (← c.self.view_is) at c.requires) in
          let around = (rw (c.as_slice.ensures, c.in_ok-edit.ensures, c.next.ensures, ← c.self.view_is) at c.is_ordered_around.ensures both.1) in
          rw (c.in_ok-edit.ensures, c.next.ensures, ← c.self.view_is)
          (ordered_spliced _ c.args.at c.args.removed _ within (few_put c.args.put.first c.args.put.second) (c.self.invariant.1 both.0) around),
    )
