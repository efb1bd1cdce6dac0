use Rattle.std.proofs.Common.{ap, ◌∙◌, arith, take_all}
use Rattle.layered_table.specs.Layers.{word_at}
use Rattle.layered_table.proofs.painting.table_of_layers.Goals as goal

pub returns : goal.returns
returns c k lt = c.layers.invariant.now k lt
    ∙ ap (λ layers. word_at layers c.args.base k) (take_all c.layers.layer-index c.args.layers.now (omega (arith, c.layers-test.false, c.layers.auto.layer-index-end)))
