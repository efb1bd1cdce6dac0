use Rattle.std.proofs.Common.{◌≡◌, ℕ, ◌+◌, ◌-◌, ◌*◌, ◌/◌, ◌%◌, subst, arith, All}
use Rattle.part_list.specs.Guides.{width}
use Rattle.part_list.specs.Parts.{part_at}
use Rattle.part_list.specs.PartValues.{parts_next}
use Rattle.part_list.specs.Reaches.{IsWithin}
use Rattle.part_list.proofs.GuideLemmas.{covers_set, in_block}
use Rattle.part_list.proofs.guides.renew.Goals as goal

-- the block of the part has bounds of its parts, and the others keep theirs
pub returns-then-block-len : goal.returns-then-block-len
returns-then-block-len g c =
    let ps = c.args.parts.now in
    let r = c.joined_reach.result in
    let ok = c.args.guides.now.ok in
    let len = c.len.ensures in
    let test = c.if-block-len.true in
    let from : ℕ = c.args.slot - c.args.slot % 16 in
    let start : from ≡ c.args.slot / width * width = omega arith in
    covers_set c.args.guides.now.items r c.args.slot (parts_next ps) (omega arith) c.requires.others
    (λ k small. subst (λ s. All (IsWithin r) (part_at (parts_next ps) (s + k))) start (in_block (IsWithin r) ps from c.min-to.result k (omega arith) small (λ more. omega arith) c.joined_reach.ensures))
