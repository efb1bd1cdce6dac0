use Rattle.std.proofs.Common.{◌≡◌, ℕ, List, ap, ◌∙◌, ◌||◌, arith}
use Rattle.ucd_model.specs.Casing.{lower_of, upper_of, fold_of}
use Rattle.ucd_facts.specs.Facts.{Facts, image_points}
use Rattle.ucd_facts.specs.Predicates.{cased}
use Rattle.ucd_facts.specs.Shown.{shown_facts}
use Rattle.case_derivation.specs.Steps.{title_image}
use Rattle.case_derivation.proofs.MatchingLemmas.{mapped_more, titled_more}
use Rattle.case_derivation.proofs.changes.changes_after.Goals as goal

pub members-preserved : goal.members-preserved
members-preserved g c =
    let F : ℕ → Facts = g.W.FactView.facts_of c.args.view.now in
    let s : List ℕ = c.args.s.now in
    let i : ℕ = c.members.c-index in
    let x : ℕ = c.c-item.result in
    let G : Facts = shown_facts c.facts.result in
    let shown : G ≡ F x = c.facts.ensures in
    let left = c.members.left in
    let put = c.unmatched_after-left in
    record {
      lowered = mapped_more s i x (omega arith) c.c-item.is left.lowered put.result.lowered (image_points x G.lower) put.ensures.lowered (lower_of F) (ap (λ (f : Facts). image_points x f.lower) shown) ∙ c.members.invariant.lowered;
      uppered = mapped_more s i x (omega arith) c.c-item.is left.uppered put.result.uppered (image_points x G.upper) put.ensures.uppered (upper_of F) (ap (λ (f : Facts). image_points x f.upper) shown) ∙ c.members.invariant.uppered;
      titled = titled_more s i x (omega arith) c.c-item.is left.titled put.result.titled (image_points x (title_image left.begun G)) put.ensures.titled F left.begun put.result.begun
          (ap (λ (f : Facts). image_points x (title_image left.begun f)) shown) (put.ensures.begun ∙ ap (λ (f : Facts). left.begun || cased f) shown) ∙ c.members.invariant.titled;
      folded = mapped_more s i x (omega arith) c.c-item.is left.folded put.result.folded (image_points x G.fold) put.ensures.folded (fold_of F) (ap (λ (f : Facts). image_points x f.fold) shown) ∙ c.members.invariant.folded;
    }
