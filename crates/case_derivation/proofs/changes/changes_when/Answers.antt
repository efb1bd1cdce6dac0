use Rattle.std.proofs.Common.{◌≡◌, ℕ, Bool, List, ap, sym, not, ◌∙◌, ◌||◌, ◌+◌, ◌-◌, length, take, drop, length-drop, arith, take_all, bytes_eq}
use Rattle.ucd_model.specs.Casing.{lower, upper, fold, lower_of, upper_of, fold_of}
use Rattle.ucd_facts.specs.Facts.{Facts, image_points}
use Rattle.ucd_facts.specs.Predicates.{cased}
use Rattle.ucd_facts.specs.Shown.{shown_facts}
use Rattle.case_derivation.specs.Matching.{matches}
use Rattle.case_derivation.specs.Steps.{titled, title_image}
use Rattle.case_derivation.proofs.MatchingLemmas.{mapped_more, mapped_stays, StaysBy, titled_more, titled_stays, unmapped_stays}
use Rattle.case_derivation.proofs.changes.changes_when.Goals as goal

whole : (s : List ℕ) (i : ℕ) → take (length s - i) (drop i s) ≡ drop i s
whole s i = take_all (length s - i) (drop i s) (omega (arith, length-drop i s))

either : (a b c x y z all : Bool) → a ≡ x → b ≡ y → c ≡ z → all ≡ (a || (b || c)) → all ≡ (x || (y || z))
either a b c x y z all p q r e = cc

pub unmapped-preserved : goal.unmapped-preserved
unmapped-preserved g c =
    let F : ℕ → Facts = g.W.FactView.facts_of c.args.view.now in
    let s : List ℕ = c.args.nfd.now in
    let i : ℕ = c.unmapped.at in
    let x : ℕ = c.index-nfd-at.result in
    let is = c.index-nfd-at.is in
    let stays : StaysBy (F x) = unmapped_stays (F x) (sym c.is_unchanged_by_casing.ensures ∙ c.if-not-is_unchanged_by_casing.false) in
    record {
      lowered = mapped_stays (lower_of F) s i x (omega arith) is (ap (image_points x) stays.lower) ∙ c.unmapped.invariant.lowered;
      uppered = mapped_stays (upper_of F) s i x (omega arith) is (ap (image_points x) stays.upper) ∙ c.unmapped.invariant.uppered;
      titled = titled_stays F s i x (omega arith) is stays ∙ c.unmapped.invariant.titled;
      folded = mapped_stays (fold_of F) s i x (omega arith) is (ap (image_points x) stays.fold) ∙ c.unmapped.invariant.folded;
    }

pub returns-then-not-is_unchanged_by_casing : goal.returns-then-not-is_unchanged_by_casing
returns-then-not-is_unchanged_by_casing g c =
    let F : ℕ → Facts = g.W.FactView.facts_of c.args.view.now in
    let s : List ℕ = c.args.nfd.now in
    let i : ℕ = c.unmapped.at in
    let x : ℕ = c.index-nfd-at.result in
    let is = c.index-nfd-at.is in
    let G : Facts = shown_facts c.facts.result in
    let shown : G ≡ F x = c.facts.ensures in
    let all = c.all_unmatched in
    let put = c.unmatched_after-left in
    let found = c.changes_after.ensures in
    let lowered = found.lowered ∙ ap (λ xs. not (matches put.result.lowered (lower F xs))) (whole s (i + 1)) ∙ ap not (mapped_more s i x (omega arith) is all.result.lowered put.result.lowered (image_points x G.lower) put.ensures.lowered (lower_of F) (ap (λ (f : Facts). image_points x f.lower) shown)
    ∙ all.ensures.lowered _ ∙ ap (bytes_eq (lower F (drop i s))) (whole s i) ∙ c.unmapped.invariant.lowered) in
    let uppered = found.uppered ∙ ap (λ xs. not (matches put.result.uppered (upper F xs))) (whole s (i + 1)) ∙ ap not (mapped_more s i x (omega arith) is all.result.uppered put.result.uppered (image_points x G.upper) put.ensures.uppered (upper_of F) (ap (λ (f : Facts). image_points x f.upper) shown)
    ∙ all.ensures.uppered _ ∙ ap (bytes_eq (upper F (drop i s))) (whole s i) ∙ c.unmapped.invariant.uppered) in
    let titles = found.titled ∙ ap (λ xs. not (matches put.result.titled (titled F put.result.begun xs))) (whole s (i + 1)) ∙ ap not (titled_more s i x (omega arith) is all.result.titled put.result.titled (image_points x (title_image all.result.begun G)) put.ensures.titled F all.result.begun put.result.begun
    (ap (λ (f : Facts). image_points x (title_image all.result.begun f)) shown) (put.ensures.begun ∙ ap (λ (f : Facts). all.result.begun || cased f) shown)
    ∙ all.ensures.titled _ ∙ ap (bytes_eq (titled F all.result.begun (drop i s))) (whole s i) ∙ ap (λ b. bytes_eq (titled F b (drop i s)) (drop i s)) all.ensures.begun ∙ ap (λ b. bytes_eq (titled F b (drop i s)) (drop i s)) c.has_cased-begun.ensures ∙ c.unmapped.invariant.titled) in
    let folded = found.folded ∙ ap (λ xs. not (matches put.result.folded (fold F xs))) (whole s (i + 1)) ∙ ap not (mapped_more s i x (omega arith) is all.result.folded put.result.folded (image_points x G.fold) put.ensures.folded (fold_of F) (ap (λ (f : Facts). image_points x f.fold) shown)
    ∙ all.ensures.folded _ ∙ ap (bytes_eq (fold F (drop i s))) (whole s i) ∙ c.unmapped.invariant.folded) in
    record { lowered = lowered; uppered = uppered; titled = titles; folded = folded; mapped = either _ _ _ _ _ _ _ lowered uppered titles found.mapped }
