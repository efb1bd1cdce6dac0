use Rattle.std.proofs.Common.{◌<◌, length, ap, ◌∙◌, arith}
use Rattle.std.proofs.lemmas.Result.{on_ok_weaker}
use Rattle.std.proofs.Math.Seq.{map-set_same}
use Rattle.part_list.specs.Puts.{put_entries}
use Rattle.part_list.proofs.FlatLemmas.{parts-spliced}
use Rattle.part_list.proofs.GuideLemmas.{other_parts}
use Rattle.part_list.proofs.fill.splice.Goals as goal

pub returns-clause-now : goal.returns-clause-now
returns-clause-now g c = map-set_same (λ p. p.now) c.args.parts.now.items c.args.spot.slot c.splice.new.self c.index_mut.result.now (c.splice.ensures.now ∙ ap (λ p. p.now) c.index_mut.ensures.value)

-- what is put into one part is put into the list
pub returns-clause-ok : goal.returns-clause-ok
returns-clause-ok g c =
    let ok = c.args.parts.now.ok in
    let part = c.requires.part in
    let slot : c.args.spot.slot < length c.args.parts.now.items = omega arith in
    on_ok_weaker c.splice.result
    (λ is. parts-spliced (λ p. p.next) c.args.parts.now.items c.args.spot.slot c.args.spot.at c.args.removed (put_entries c.args.put) c.index_mut.result.now c.splice.new.self slot
    c.index_mut.ensures.value c.requires.within (ap (λ p. p.next) is))
    c.splice.ensures.ok

-- no other part is another one
pub returns-clause-others : goal.returns-clause-others
returns-clause-others g c = λ k other. other_parts (λ p. p.next) c.args.parts.now.items c.args.spot.slot k c.splice.new.self other
