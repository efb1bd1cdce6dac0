use Rattle.std.proofs.Common.{ℕ, ap, sym, ◌∙◌}
use Rattle.ucd_facts.specs.Facts.{Facts}
use Rattle.fact_tables.specs.FactTables.{words_at, rests_at}
use Rattle.point_store.specs.SlotStore.{values}
use Rattle.fact_tables.specs.declared.now_or_next.NowOrNext.TheVariants.{Next}
use Rattle.fact_tables.specs.KeptFactsLemmas.{same_kept}
use Rattle.fact_tables.proofs.TableLemmas.{sound_same, sound_at}
use Rattle.fact_tables.proofs.fact_tables.FactTables.commit.Goals as goal

pub invariant_of-self : goal.invariant_of-self
invariant_of-self g c =
    let t = c.args.self.now in
    let now = sound_same t.index (g.T.Table.now c.commit.new.self) (words_at Next t) (values g.T.Table.now c.commit-2.new.self) (rests_at Next t) c.commit.ensures.committed c.commit-2.ensures.committed (sound_at Next t) in
    let next = sound_same t.index (g.T.Table.next c.commit.new.self) (words_at Next t) (values g.T.Table.next c.commit-2.new.self) (rests_at Next t) c.commit.ensures.next c.commit-2.ensures.next (sound_at Next t) in
    let now_is = same_kept (g.T.Table.now c.commit.new.self) (words_at Next t) (values g.T.Table.now c.commit-2.new.self) (rests_at Next t) c.commit.ensures.committed c.commit-2.ensures.committed in
    let next_is = same_kept (g.T.Table.next c.commit.new.self) (words_at Next t) (values g.T.Table.next c.commit-2.new.self) (rests_at Next t) c.commit.ensures.next c.commit-2.ensures.next in
    record { now_listed = now.listed; next_listed = next.listed; now_packs = now.packs; next_packs = next.packs; stays = λ k none. ap (λ (F : ℕ → Facts). F k) (now_is ∙ sym next_is) }

pub returns-clause-committed : goal.returns-clause-committed
returns-clause-committed g c = same_kept (g.T.Table.now c.commit.new.self) (words_at Next c.args.self.now) (values g.T.Table.now c.commit-2.new.self) (rests_at Next c.args.self.now) c.commit.ensures.committed c.commit-2.ensures.committed

pub returns-clause-next : goal.returns-clause-next
returns-clause-next g c = same_kept (g.T.Table.next c.commit.new.self) (words_at Next c.args.self.now) (values g.T.Table.next c.commit-2.new.self) (rests_at Next c.args.self.now) c.commit.ensures.next c.commit-2.ensures.next
