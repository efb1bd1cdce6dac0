use Rattle.std.proofs.Common.{ℕ, ap, sym, ◌∙◌}
use Rattle.ucd_points.specs.PlainProofs.{on_err_from, on_ok_holds}
use Rattle.ucd_facts.specs.Facts.{Facts}
use Rattle.fact_tables.specs.RowTables.{made_facts}
use Rattle.point_store.specs.SlotStore.{values}
use Rattle.fact_tables.specs.FactTables.{words_at, rests_at, facts_at}
use Rattle.fact_tables.specs.declared.now_or_next.NowOrNext.TheVariants.{Now, Next}
use Rattle.fact_tables.specs.KeptFactsLemmas.{same_kept}
use Rattle.fact_tables.proofs.TableLemmas.{sound_same, sound_grows, sound_put, sound_at, put_point, stays_copied}
use Rattle.fact_tables.proofs.fact_tables.FactTables.refill.Goals as goal

pub invariant_of-self : goal.invariant_of-self
invariant_of-self g c =
    let t = c.args.self.now in
    let more = c.put_spans-done.new.index in
    let grown = sound_grows t.index more (words_at Now t) (rests_at Now t) c.put_spans-done.ensures.grows (sound_at Now t) in
    let now = sound_same more (g.T.Table.now c.discard.new.self) (words_at Now t) (values g.T.Table.now c.discard-then-is_err.new.self) (rests_at Now t)
    (λ k lt. c.discard.ensures.now k lt ∙ c.put_spans-done.ensures.words_now k lt) (λ k lt. c.discard-then-is_err.ensures.now k lt ∙ c.put_spans-done.ensures.rests_now k lt) grown in
    let next = sound_same more (g.T.Table.next c.discard.new.self) (words_at Now t) (values g.T.Table.next c.discard-then-is_err.new.self) (rests_at Now t)
    (λ k lt. c.discard.ensures.discarded k lt ∙ c.put_spans-done.ensures.words_now k lt) (λ k lt. c.discard-then-is_err.ensures.discarded k lt ∙ c.put_spans-done.ensures.rests_now k lt) grown in
    let now_is = same_kept (g.T.Table.now c.discard.new.self) (words_at Now t) (values g.T.Table.now c.discard-then-is_err.new.self) (rests_at Now t)
    (λ k lt. c.discard.ensures.now k lt ∙ c.put_spans-done.ensures.words_now k lt) (λ k lt. c.discard-then-is_err.ensures.now k lt ∙ c.put_spans-done.ensures.rests_now k lt) in
    let next_is = same_kept (g.T.Table.next c.discard.new.self) (words_at Now t) (values g.T.Table.next c.discard-then-is_err.new.self) (rests_at Now t)
    (λ k lt. c.discard.ensures.discarded k lt ∙ c.put_spans-done.ensures.words_now k lt) (λ k lt. c.discard-then-is_err.ensures.discarded k lt ∙ c.put_spans-done.ensures.rests_now k lt) in
    record { now_listed = now.listed; next_listed = next.listed; now_packs = now.packs; next_packs = next.packs; stays = λ k none. ap (λ (F : ℕ → Facts). F k) (now_is ∙ sym next_is) }

pub invariant_of-self-2 : goal.invariant_of-self-2
invariant_of-self-2 g c =
    let t = c.args.self.now in
    let more = c.put_spans-done.new.index in
    let fine = sym c.is_err.ensures.value ∙ c.if-is_err.false in
    let now = sound_same more (g.T.Table.now c.put_spans-done.new.words) (words_at Now t) (values g.T.Table.now c.put_spans-done.new.rests) (rests_at Now t)
    c.put_spans-done.ensures.words_now c.put_spans-done.ensures.rests_now (sound_grows t.index more (words_at Now t) (rests_at Now t) c.put_spans-done.ensures.grows (sound_at Now t)) in
    let next = sound_put t.index more c.args.made.now c.args.spans.now (words_at Next t) (g.T.Table.next c.put_spans-done.new.words) (rests_at Next t) (values g.T.Table.next c.put_spans-done.new.rests)
    (on_ok_holds c.put_spans-done.result _ fine c.put_spans-done.ensures.words) (on_ok_holds c.put_spans-done.result _ fine c.put_spans-done.ensures.rests) c.put_spans-done.ensures.grows (on_ok_holds c.put_spans-done.result _ fine c.put_spans-done.ensures.listed)
    c.requires.words (sound_at Next t) in
    record {
      now_listed = now.listed;
      next_listed = next.listed;
      now_packs = now.packs;
      next_packs = next.packs;
      stays = stays_copied c.in_ok-touched.touched c.args.spans.now c.in_ok-touched.ensures (facts_at Now t) (facts_at Next t) (made_facts c.args.made.now)
          (g.T.Table.now c.put_spans-done.new.words) (g.T.Table.next c.put_spans-done.new.words) (values g.T.Table.now c.put_spans-done.new.rests) (values g.T.Table.next c.put_spans-done.new.rests)
          (same_kept (g.T.Table.now c.put_spans-done.new.words) (words_at Now t) (values g.T.Table.now c.put_spans-done.new.rests) (rests_at Now t) c.put_spans-done.ensures.words_now c.put_spans-done.ensures.rests_now)
          c.requires.ready
          (put_point c.args.made.now c.args.spans.now (words_at Next t) (g.T.Table.next c.put_spans-done.new.words) (rests_at Next t) (values g.T.Table.next c.put_spans-done.new.rests)
          (on_ok_holds c.put_spans-done.result _ fine c.put_spans-done.ensures.words) (on_ok_holds c.put_spans-done.result _ fine c.put_spans-done.ensures.rests));
    }

pub returns-then-is_err-clause-now : goal.returns-then-is_err-clause-now
returns-then-is_err-clause-now g c =
    same_kept (g.T.Table.now c.discard.new.self) (words_at Now c.args.self.now) (values g.T.Table.now c.discard-then-is_err.new.self) (rests_at Now c.args.self.now)
    (λ k lt. c.discard.ensures.now k lt ∙ c.put_spans-done.ensures.words_now k lt) (λ k lt. c.discard-then-is_err.ensures.now k lt ∙ c.put_spans-done.ensures.rests_now k lt)

pub returns-then-is_err-clause-err : goal.returns-then-is_err-clause-err
returns-then-is_err-clause-err g c =
    on_err_from c.put_spans-done.result
    (same_kept (g.T.Table.next c.discard.new.self) (words_at Now c.args.self.now) (values g.T.Table.next c.discard-then-is_err.new.self) (rests_at Now c.args.self.now)
    (λ k lt. c.discard.ensures.discarded k lt ∙ c.put_spans-done.ensures.words_now k lt) (λ k lt. c.discard-then-is_err.ensures.discarded k lt ∙ c.put_spans-done.ensures.rests_now k lt)
    ∙ sym c.requires.ready)

pub returns-clause-now : goal.returns-clause-now
returns-clause-now g c =
    same_kept (g.T.Table.now c.put_spans-done.new.words) (words_at Now c.args.self.now) (values g.T.Table.now c.put_spans-done.new.rests) (rests_at Now c.args.self.now) c.put_spans-done.ensures.words_now c.put_spans-done.ensures.rests_now

pub returns-clause-ok : goal.returns-clause-ok
returns-clause-ok g c k lt =
    let t = c.args.self.now in
    let fine = sym c.is_err.ensures.value ∙ c.if-is_err.false in
    put_point c.args.made.now c.args.spans.now (words_at Next t) (g.T.Table.next c.put_spans-done.new.words) (rests_at Next t) (values g.T.Table.next c.put_spans-done.new.rests)
    (on_ok_holds c.put_spans-done.result _ fine c.put_spans-done.ensures.words) (on_ok_holds c.put_spans-done.result _ fine c.put_spans-done.ensures.rests) k lt
