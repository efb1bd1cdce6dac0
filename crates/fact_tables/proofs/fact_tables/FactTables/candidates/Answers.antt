use Rattle.std.proofs.Common.{◌≡◌, ℕ, true, Result, Ok, Err, OnOk, is_ok, sym, subst}
use Rattle.std.proofs.lemmas.Bool.{true≢false}
use Rattle.fact_tables.specs.FactTables.{facts_at}
use Rattle.fact_tables.specs.declared.now_or_next.NowOrNext.TheVariants.{Now}
use Rattle.fact_tables.proofs.SweepLemmas.{GathersBelow, gathers_more, gathers_all}
use Rattle.fact_tables.proofs.TableLemmas.{listed_at}
use Rattle.fact_tables.proofs.fact_tables.FactTables.candidates.Goals as goal

when_ok : {A E : Type 0} (r : Result A E) (X : Type 0) → true ≡ is_ok r → OnOk r X → X
when_ok (Ok a) X fine h = h
when_ok (Err e) X fine h = absurd (true≢false fine)

pub listed-preserved : goal.listed-preserved
listed-preserved g c =
    let t = c.args.self.now in
    subst (λ (n : ℕ). GathersBelow c.gather_if_candidate.new.keys (facts_at Now t) n) (sym c.in_ok-from.ensures.1)
    (gathers_more t.index (facts_at Now t) c.listed.keys c.gather_if_candidate.new.keys c.listed.from c.in-Some.key (listed_at Now t) c.gather_if_candidate.ensures.grows c.in-Some.ensures.2
    (when_ok c.gather_if_candidate.result _ c.in_ok-ok.ensures.variant c.gather_if_candidate.ensures.kept) c.listed.invariant)

pub returns : goal.returns
returns g c =
    let t = c.args.self.now in
    gathers_all t.index (facts_at Now t) c.listed.keys c.listed.from (listed_at Now t) c.in_default.ensures c.listed.invariant
