use Rattle.std.proofs.Common.{sym, ap, subst, ◌∙◌, arith, inl, inr}
use Rattle.std.proofs.lemmas.Bool.{cases_lt}
use Rattle.fact_tables.specs.Copying.{HasKeys}
use Rattle.fact_tables.specs.Index.{is_candidate_word, is_gathered}
use Rattle.fact_tables.specs.PointLists.{lists_now}
use Rattle.fact_tables.specs.declared.data_lists.DataLists.{DataLists}
use Rattle.fact_tables.proofs.copying.gather_pairs.Goals as goal

pub stretches-preserved : goal.stretches-preserved
stretches-preserved c = record {
  from = omega arith;
  within = omega arith;
  grows = λ s y q is. c.in_ok-gather_part.ensures.grows s y q (c.stretches.invariant.grows s y q is);
  listed = λ q low high s y kind is. elim (cases_lt q c.stretches.at) [
    | inl below ↦ c.in_ok-gather_part.ensures.grows s y q (c.stretches.invariant.listed q low below s y kind is)
    | inr from ↦
        let word = c.run-run.ensures.same q (omega arith) (omega arith) ∙ sym c.run-run.ensures.value in
        subst (λ (lists : DataLists). HasKeys (is_gathered c.gather_part.new.keys) (lists_now lists.mappings q) q) c.deref.ensures
        (c.in_ok-gather_part.ensures.listed q (omega arith) (omega arith) (ap is_candidate_word (sym word) ∙ kind)) s y is
  ];
}
