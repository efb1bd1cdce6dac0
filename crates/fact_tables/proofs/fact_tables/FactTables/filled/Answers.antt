use Rattle.std.proofs.Common.{ℕ, ap, sym, ◌∙◌}
use Rattle.ucd_facts.specs.Facts.{Facts}
use Rattle.point_store.specs.SlotStore.{values}
use Rattle.fact_tables.specs.KeptFactsLemmas.{same_kept}
use Rattle.fact_tables.proofs.TableLemmas.{made_point, sound_made}
use Rattle.fact_tables.proofs.fact_tables.FactTables.filled.Goals as goal

pub invariant_of-result : goal.invariant_of-result
invariant_of-result g c =
    let t = c.args.made.now in
    let index = c.in_ok-index.index in
    let is = c.in_ok-index.ensures in
    let words = c.fill.new.words in
    let rests = c.fill.new.rests in
    let now = sound_made index t (g.T.Table.now words) (values g.T.Table.now rests) is.words_now is.rests_now is.listed c.requires.words in
    let next = sound_made index t (g.T.Table.next words) (values g.T.Table.next rests) is.words_next is.rests_next is.listed c.requires.words in
    let same = same_kept (g.T.Table.now words) (g.T.Table.next words) (values g.T.Table.now rests) (values g.T.Table.next rests)
    (λ k lt. is.words_now k lt ∙ sym (is.words_next k lt)) (λ k lt. is.rests_now k lt ∙ sym (is.rests_next k lt)) in
    record { now_listed = now.listed; next_listed = next.listed; now_packs = now.packs; next_packs = next.packs; stays = λ k none. ap (λ (F : ℕ → Facts). F k) same }

pub returns-clause-now : goal.returns-clause-now
returns-clause-now g c =
    made_point c.args.made.now (g.T.Table.now c.fill.new.words) (values g.T.Table.now c.fill.new.rests) c.in_ok-index.ensures.words_now c.in_ok-index.ensures.rests_now

pub returns-clause-next : goal.returns-clause-next
returns-clause-next g c =
    made_point c.args.made.now (g.T.Table.next c.fill.new.words) (values g.T.Table.next c.fill.new.rests) c.in_ok-index.ensures.words_next c.in_ok-index.ensures.rests_next
