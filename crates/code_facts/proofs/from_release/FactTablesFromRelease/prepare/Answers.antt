use Rattle.std.proofs.Common.{◌≡◌, ℕ, ◌<◌, [], false, List, refl, sym, ap, subst, ◌∙◌, arith}
use Rattle.std.proofs.lemmas.Result.{on_ok_weaker}
use Rattle.std.proofs.lemmas.Bool.Decides.{nat_tests}
use Rattle.std.proofs.lemmas.List.{nil_from_length}
use Rattle.std.specs.List.{list_any}
use Rattle.ucd_points.specs.Bounds.{Bounds}
use Rattle.ucd_facts.specs.Facts.{Facts, within}
use Rattle.fact_tables.specs.FactTables.{words_at, rests_at, facts_at}
use Rattle.release_rows.specs.Touching.{meets}
use Rattle.code_facts.specs.Locality.{rows_within}
use Rattle.code_facts.specs.RowTables.{ShowsRows}
use Rattle.release_rows.specs.Releases.{rows_next}
use Rattle.fact_tables.specs.declared.now_or_next.NowOrNext.TheVariants.{Now, Next}
use Rattle.code_facts.proofs.FactLemmas.{facts_from_points}
use Rattle.code_facts.proofs.ReleaseLemmas.{shown_packs, put_facts}
use Rattle.code_facts.proofs.from_release.FactTablesFromRelease.prepare.Goals as goal

-- where no span is touched, the facts now are those of the rows next
pub returns-then-is_empty-clause-ok : goal.returns-then-is_empty-clause-ok
returns-then-is_empty-clause-ok g c =
    let t = c.args.self.now in
    let seen : c.as_slice.result.now ≡ [] = nil_from_length c.as_slice.result.now (grind (arith, nat_tests, c.is_empty.ensures, c.if-is_empty.true)) in
    let none : c.args.touched.now ≡ [] = sym c.as_slice.ensures ∙ seen in
    c.requires.ready
    ∙ facts_from_points (words_at Now t) (rests_at Now t) (rows_next c.args.after.now)
    (λ k lt. c.requires.touched k lt (subst (λ (spans : List Bounds). list_any (within k) spans ≡ false) (sym none) refl))

pub refill-requires-clause-words : goal.refill-requires-clause-words
refill-requires-clause-words g c = shown_packs c.in_ok-made.made (rows_within (meets c.as_slice-3.result.now) (rows_next c.args.after.now)) c.in_ok-made.ensures

pub returns-clause-ok : goal.returns-clause-ok
returns-clause-ok g c =
    let t = c.args.self.now in
    let rows = rows_next c.args.after.now in
    on_ok_weaker c.refill.result
    (λ point. put_facts c.in_ok-made.made rows c.as_slice-4.result.now (words_at Next c.refill.new.self) (rests_at Next c.refill.new.self) (facts_at Next t) point (subst (λ (spans : List Bounds). (k : ℕ) → k < 1114112 → ShowsRows c.in_ok-made.made (rows_within (meets spans) rows) k) (c.as_slice-3.ensures ∙ sym c.as_slice-4.ensures) c.in_ok-made.ensures) c.speaking_rows_meet_spans.ensures
    (λ k lt none. ap (λ (F : ℕ → Facts). F k) c.requires.ready
    ∙ c.requires.touched k lt (ap (list_any (within k)) (sym c.as_slice-2.ensures) ∙ sym (c.in_ok-spans.ensures.covered k) ∙ ap (list_any (within k)) (sym c.as_slice-4.ensures) ∙ none)))
    c.refill.ensures.ok
