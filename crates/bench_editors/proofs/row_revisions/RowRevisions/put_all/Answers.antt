use Rattle.std.proofs.Common.{◌<◌, length, IsSome, sym, subst, arith}
use Rattle.bench_editors.specs.RowKeys.{found_in, key_parts, last_in, same_parts}
use Rattle.bench_editors.specs.declared.row_key.RowKey.{RowKey}
use Rattle.bench_editors.proofs.KeyLemmas.{key_stays, put_key}
use Rattle.bench_editors.proofs.row_revisions.RowRevisions.put_all.Goals as goal

pub put-requires : goal.put-requires
put-requires c =
    let lt : c.keys.key-index < length c.args.keys.now = omega arith in
    subst (λ (k : RowKey). IsSome (found_in c.keys.self (key_parts k))) (sym c.key-item.is) (c.keys.invariant.there _ (c.requires c.keys.key-index c.key-item.result lt))

pub keys-preserved : goal.keys-preserved
keys-preserved c =
    let lt : c.keys.key-index < length c.args.keys.now = omega arith in
    record {
      put = λ parts. put_key c.keys.self c.put.new.self c.args.keys.now c.keys.key-index c.key-item.result c.args.revision (last_in c.args.self.now parts) parts lt c.key-item.is (c.put.ensures parts) (c.keys.invariant.put parts);
      there = λ parts some.
          subst IsSome (sym (c.put.ensures parts)) (key_stays (same_parts parts (key_parts c.key-item.result)) c.args.revision (found_in c.keys.self parts) (c.keys.invariant.there parts some));
    }
