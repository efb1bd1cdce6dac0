use Rattle.std.proofs.Common.{◌≡◌, refl, ◌∙◌, ◌++◌, ◌+◌, ℕ, List, sym, ap, subst, rules, codes}
use Rattle.std.proofs.lemmas.Result.{on_ok_weaker}
use Rattle.range_table.specs.RunTable.{values_now}
use Rattle.range_table.specs.Values.{point_count-is}
use Rattle.ucd_points.specs.Bounds.{Bounds}
use Rattle.ucd_points.specs.Limits.{point_count}
use Rattle.ucd_model.specs.DerivedText.{section_text}
use Rattle.ucd_model.specs.Labels.{Label}
use Rattle.label_runs.specs.Runs.{IsStretch}
use Rattle.label_runs.specs.Sections.{section_head, IsWritten}
use Rattle.point_stretches.specs.Laws.{alike}
use Rattle.age_chain.specs.Ages.{age_label, age_of, ages_of}
use Rattle.age_chain.proofs.ListingLemmas.{age_stretch}
use Rattle.age_chain.proofs.listing.put_ages.Goals as goal

pub runs-init : goal.runs-init
runs-init c = record {
  same = refl;
  end = c.in_ok-section.ensures.end ∙ sym (ap (λ i. i.from) (c.into_iter-span-iterator.ensures.into_iter_gives ∙ c.stretches_by-span-items.ensures.whole));
  written = c.in_ok-section.ensures.written point_count (λ d. age_label (ages_of (values_now c.args.ages.now) d));
}

pub runs-preserved : goal.runs-preserved
runs-preserved c =
    let values : ℕ → ℕ = values_now c.args.ages.now in
    let next = c.in-Some.ensures.steps in
    let label : c.set_age.new.label ≡ age_label (age_of (values c.in-Some.span.lo)) = c.in_ok-set_age.ensures ∙ ap (λ (n : ℕ). age_label (age_of n)) (c.get.ensures ∙ ap (λ (x : Bounds). values x.lo) c.span.view_is) in
    let stretch : IsStretch point_count (λ d. age_label (ages_of values d)) c.runs.section.end (c.last.result + 1) c.set_age.new.label =
    age_stretch values c.in-Some.span.lo c.in-Some.span.hi c.runs.section.end (c.last.result + 1) c.set_age.new.label (c.runs.invariant.end ∙ sym next.begins) next.ordered next.inside (ap (λ (n : ℕ). n + 1) c.last.ensures.value)
    (alike (c.runs.invariant.same ∙ ap (λ i. i.last_of) (c.into_iter-span-iterator.ensures.into_iter_gives ∙ c.stretches_by-span-items.ensures.whole)) next values (λ lo told lt post. search rules)) label in
    record {
      same = next.by_same ∙ c.runs.invariant.same;
      end = c.in_ok-go_on.ensures.end ∙ ap (λ (n : ℕ). n + 1) c.last.ensures.value ∙ sym next.goes_on;
      written = c.in_ok-go_on.ensures.written point_count (λ d. age_label (ages_of values d)) (c.args.text.now ++ section_head (codes "Age")) stretch c.runs.invariant.written;
    }

pub returns : goal.returns
returns c =
    let f : ℕ → Label = λ d. age_label (ages_of (values_now c.args.ages.now) d) in
    let ends : c.runs.section.end ≡ point_count = c.runs.invariant.end ∙ c.in-None.ensures.steps.0 ∙ sym point_count-is in
    let written = subst (λ (n : ℕ). IsWritten n f (c.args.text.now ++ section_head (codes "Age")) c.runs.section c.runs.text) (sym ends) c.runs.invariant.written in
    on_ok_weaker c.end.result (λ (whole : (f : ℕ → Label) (before name : List ℕ) → IsWritten c.runs.section.end f (before ++ section_head name) c.runs.section c.runs.text → c.end.new.text ≡ before ++ section_text name c.runs.section.end f).
    subst (λ (n : ℕ). c.end.new.text ≡ c.args.text.now ++ section_text (codes "Age") n f) ends (whole f c.args.text.now (codes "Age") written)) c.end.ensures
