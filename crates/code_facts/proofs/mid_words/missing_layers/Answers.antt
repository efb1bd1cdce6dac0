use Rattle.std.proofs.Common.{◌<◌, length, arith}
use Rattle.code_facts.proofs.MidWordLemmas.{missing_more}
use Rattle.code_facts.proofs.mid_words.missing_layers.Goals as goal

pub rows-preserved : goal.rows-preserved
rows-preserved c k =
    let rows = c.args.rows.now in
    let inside : c.rows.text-index < length rows = omega arith in
    missing_more k rows c.rows.text-index c.text-item.result _ _ _ _ inside c.text-item.is (c.in_ok-push_layer.ensures k) (rw c.row-row.ensures at c.missing_layer.ensures) (c.rows.invariant k)
