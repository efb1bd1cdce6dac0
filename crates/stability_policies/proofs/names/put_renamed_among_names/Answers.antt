use Rattle.std.proofs.Common.{◌≤◌, List, sym, subst, arith, append-nil}
use Rattle.stability_policies.specs.NamedRows.{IsRest, end_at}
use Rattle.stability_policies.specs.declared.breaks.Break.TheVariants.{At}
use Rattle.stability_policies.specs.declared.named_row.NamedRow.{NamedRow}
use Rattle.stability_policies.specs.declared.policy.Policy.TheVariants.{P02}
use Rattle.stability_policies.proofs.NameLemmas.{names_all, names_more, rest_behind, whole_rest}
use Rattle.stability_policies.proofs.names.put_renamed_among_names.Goals as goal

pub stretches-init : goal.stretches-init
stretches-init c = record {
  so_far = sym (append-nil c.args.into.now);
  old = whole_rest c.args.before.now c.requires.before;
  new = whole_rest c.args.after.now c.requires.after;
  within = omega arith;
}

pub stretches-preserved : goal.stretches-preserved
stretches-preserved c =
    let n = c.stretches.number in
    let e = c.min-end.result in
    let from : n ≤ e = omega (arith, c.min-end.ensures, c.end_of_one_name.ensures.from, c.end_of_one_name-in-stretches.ensures.from) in
    let old_end : e ≤ end_at n c.stretches.olds.now = omega (arith, c.min-end.ensures, c.end_of_one_name.ensures.end) in
    let new_end : e ≤ end_at n c.stretches.news.now = omega (arith, c.min-end.ensures, c.end_of_one_name-in-stretches.ensures.end) in
    record {
      so_far = names_more (At P02) c.args.into.now c.stretches.into c.put_if_renamed.new.into c.args.before.now c.args.after.now c.stretches.olds.now c.stretches.news.now n e from old_end new_end
          c.stretches.invariant.old c.stretches.invariant.new c.stretches.invariant.so_far c.in_ok-put_if_renamed.ensures;
      old = subst (λ (rest : List NamedRow). IsRest c.args.before.now e rest) (sym c.rows_from-olds.ensures) (rest_behind c.args.before.now c.stretches.olds.now n e from old_end c.stretches.invariant.old);
      new = subst (λ (rest : List NamedRow). IsRest c.args.after.now e rest) (sym c.rows_from-news.ensures) (rest_behind c.args.after.now c.stretches.news.now n e from new_end c.stretches.invariant.new);
      within = omega (arith, c.min-end.ensures, c.end_of_one_name.ensures.within);
    }

pub returns : goal.returns
returns c = names_all (At P02) c.args.into.now c.stretches.into c.args.before.now c.args.after.now c.stretches.number (omega (arith, c.stretches.invariant.within, c.stretches-test.false)) c.stretches.invariant.so_far
