use Rattle.std.proofs.Common.{ℕ, refl, ap, sym, ◌∙◌}
use Rattle.ucd_facts.specs.Facts.{Facts}
use Rattle.fact_tables.specs.FactTables.{words_at, rests_at}
use Rattle.point_store.specs.SlotStore.{values}
use Rattle.fact_tables.specs.declared.now_or_next.NowOrNext.TheVariants.{Now, Next}
use Rattle.fact_tables.specs.KeptFactsLemmas.{same_kept}
use Rattle.fact_tables.proofs.TableLemmas.{sound_same, sound_at}
use Rattle.fact_tables.proofs.fact_tables.FactTables.sweep.Goals as goal

pub invariant_of-self : goal.invariant_of-self
invariant_of-self g c =
    let t = c.args.self.now in
    let rests = c.sweep.new.self in
    let now = sound_same t.index (words_at Now t) (words_at Now t) (values g.T.Table.now rests) (rests_at Now t) (λ k lt. refl) c.sweep.ensures.now (sound_at Now t) in
    let next = sound_same t.index (words_at Next t) (words_at Next t) (values g.T.Table.next rests) (rests_at Next t) (λ k lt. refl) c.sweep.ensures.next (sound_at Next t) in
    let now_is = same_kept (words_at Now t) (words_at Now t) (values g.T.Table.now rests) (rests_at Now t) (λ k lt. refl) c.sweep.ensures.now in
    let next_is = same_kept (words_at Next t) (words_at Next t) (values g.T.Table.next rests) (rests_at Next t) (λ k lt. refl) c.sweep.ensures.next in
    record {
      now_listed = now.listed;
      next_listed = next.listed;
      now_packs = now.packs;
      next_packs = next.packs;
      stays = λ k none. ap (λ (F : ℕ → Facts). F k) now_is ∙ t.stays k none ∙ sym (ap (λ (F : ℕ → Facts). F k) next_is);
    }

pub returns-clause-now : goal.returns-clause-now
returns-clause-now g c =
    c.gather_pairs_anew.ensures.now
    ∙ same_kept (words_at Now c.args.self.now) (words_at Now c.args.self.now) (values g.T.Table.now c.sweep.new.self) (rests_at Now c.args.self.now) (λ k lt. refl) c.sweep.ensures.now

pub returns-clause-next : goal.returns-clause-next
returns-clause-next g c =
    c.gather_pairs_anew.ensures.next
    ∙ same_kept (words_at Next c.args.self.now) (words_at Next c.args.self.now) (values g.T.Table.next c.sweep.new.self) (rests_at Next c.args.self.now) (λ k lt. refl) c.sweep.ensures.next
