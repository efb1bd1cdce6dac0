use Rattle.std.proofs.Common.{ap, ◌∙◌, arith, take_all}
use Rattle.property_aliases.specs.Loose.{loose}
use Rattle.property_aliases.proofs.LooseLaws.{loose_again}
use Rattle.property_aliases.proofs.loose.loose.Goals as goal

pub returns-clause-same : goal.returns-clause-same
returns-clause-same c =
    let all = take_all c.bytes.byte-index c.args.name.now (omega (arith, c.bytes-test.false)) in
    ap loose (c.bytes.invariant ∙ ap loose all) ∙ loose_again c.args.name.now
