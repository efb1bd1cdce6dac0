use Rattle.std.proofs.Common.{◌≡◌, ◌+◌, ◌*◌, List, [], ◌∷◌, ◌++◌, ◌∙◌, length, subst, sym, ap, arith, All, length-append}
use Rattle.part_list.specs.declared.reach.Reach.{Reach}
use Rattle.part_list.specs.Guides.{Covers, width}
use Rattle.part_list.specs.Parts.{part_at}
use Rattle.part_list.specs.PartValues.{parts_next}
use Rattle.part_list.specs.Reaches.{IsWithin}
use Rattle.part_list.proofs.GuideLemmas.{covers_more, in_block}
use Rattle.part_list.proofs.guides.renew_all.Goals as goal

-- one more block has bounds
pub blocks-2-preserved : goal.blocks-2-preserved
blocks-2-preserved g c =
    let ps = c.args.parts.now in
    let r = c.joined_reach.result in
    let guides = c.blocks-2.guides.items in
    let before : List Reach = guides ++ r ∷ [] in
    let items : c.push.new.self.items ≡ before = c.in-Ok.ensures.items in
    let long : length c.push.new.self.items ≡ length guides + 1 = ap length items ∙ length-append guides (r ∷ []) in
    let test = c.blocks-2-test.true in
    let start : c.blocks-2.from ≡ length guides * width = c.blocks-2.invariant.block test in
    record {
      within = omega arith;
      block = λ more. omega arith;
      covers = subst (λ gs. Covers gs (parts_next ps)) (sym {a = c.push.new.self.items} {b = before} items)
          (covers_more guides r (parts_next ps) c.blocks-2.invariant.covers
          (λ k small. subst (λ s. All (IsWithin r) (part_at (parts_next ps) (s + k))) start (in_block (IsWithin r) ps c.blocks-2.from c.min-to.result k (omega arith) small (λ more. omega arith) c.joined_reach.ensures)));
    }
