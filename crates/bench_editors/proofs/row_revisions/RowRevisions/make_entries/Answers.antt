use Rattle.std.proofs.Common.{◌<◌, length, IsSome, subst, ◌∙◌, arith, take_all, All}
use Rattle.std.proofs.lemmas.List.Elements.{All-more}
use Rattle.release_rows.specs.declared.operation.Op.{Op}
use Rattle.bench_editors.specs.Rows.{row_of}
use Rattle.bench_editors.specs.RowKeys.{KeyParts, found_in, row_parts}
use Rattle.bench_editors.proofs.row_revisions.RowRevisions.make_entries.Goals as goal

pub operations-preserved : goal.operations-preserved
operations-preserved c =
    let lt : c.operations.op-index < length c.args.group.now = omega arith in
    let P : Op → Type 0 = λ op. IsSome (found_in c.make_entry.new.self (row_parts (row_of op))) in
    record {
      same = λ parts. c.make_entry.ensures.same parts ∙ c.operations.invariant.same parts;
      there = All-more P c.args.group.now c.operations.op-index c.op-item.result lt (λ k d h. c.make_entry.ensures.kept _ (c.operations.invariant.there k d h))
          (subst P c.op-item.is (subst (λ (parts : KeyParts). IsSome (found_in c.make_entry.new.self parts)) c.in_ok-key_of_op.ensures c.in_ok-make_entry.ensures.there));
    }

pub returns-clause-there : goal.returns-clause-there
returns-clause-there c =
    subst (All (λ (op : Op). IsSome (found_in c.operations.self (row_parts (row_of op))))) (take_all c.operations.op-index c.args.group.now (omega (arith, c.operations-test.false))) c.operations.invariant.there
