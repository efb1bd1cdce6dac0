use Rattle.std.proofs.Common.{ℕ, ap, sym, ◌∙◌}
use Rattle.ucd_facts.specs.Facts.{Facts}
use Rattle.fact_tables.specs.FactTables.{words_at, rests_at}
use Rattle.point_store.specs.SlotStore.{values}
use Rattle.fact_tables.specs.declared.now_or_next.NowOrNext.TheVariants.{Now}
use Rattle.fact_tables.specs.KeptFactsLemmas.{same_kept}
use Rattle.fact_tables.proofs.TableLemmas.{sound_same, sound_at}
use Rattle.fact_tables.proofs.fact_tables.FactTables.discard.Goals as goal

pub invariant_of-self : goal.invariant_of-self
invariant_of-self g c =
    let t = c.args.self.now in
    let now = sound_same t.index (g.T.Table.now c.discard.new.self) (words_at Now t) (values g.T.Table.now c.discard-2.new.self) (rests_at Now t) c.discard.ensures.now c.discard-2.ensures.now (sound_at Now t) in
    let next = sound_same t.index (g.T.Table.next c.discard.new.self) (words_at Now t) (values g.T.Table.next c.discard-2.new.self) (rests_at Now t) c.discard.ensures.discarded c.discard-2.ensures.discarded (sound_at Now t) in
    let now_is = same_kept (g.T.Table.now c.discard.new.self) (words_at Now t) (values g.T.Table.now c.discard-2.new.self) (rests_at Now t) c.discard.ensures.now c.discard-2.ensures.now in
    let next_is = same_kept (g.T.Table.next c.discard.new.self) (words_at Now t) (values g.T.Table.next c.discard-2.new.self) (rests_at Now t) c.discard.ensures.discarded c.discard-2.ensures.discarded in
    record { now_listed = now.listed; next_listed = next.listed; now_packs = now.packs; next_packs = next.packs; stays = λ k none. ap (λ (F : ℕ → Facts). F k) (now_is ∙ sym next_is) }

pub returns-clause-now : goal.returns-clause-now
returns-clause-now g c = same_kept (g.T.Table.now c.discard.new.self) (words_at Now c.args.self.now) (values g.T.Table.now c.discard-2.new.self) (rests_at Now c.args.self.now) c.discard.ensures.now c.discard-2.ensures.now

pub returns-clause-discarded : goal.returns-clause-discarded
returns-clause-discarded g c = same_kept (g.T.Table.next c.discard.new.self) (words_at Now c.args.self.now) (values g.T.Table.next c.discard-2.new.self) (rests_at Now c.args.self.now) c.discard.ensures.discarded c.discard-2.ensures.discarded
