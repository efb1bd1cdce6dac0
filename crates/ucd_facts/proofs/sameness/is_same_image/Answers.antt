use Rattle.std.proofs.Common.{◌≡◌, ◌∙◌, sym, ap}
use Rattle.std.proofs.lemmas.Slice.Eq.{bytes_eq-Decides}
use Rattle.ucd_facts.specs.Shown.{image_shown}
use Rattle.ucd_facts.specs.declared.image.Image.TheVariants.{To}
use Rattle.ucd_facts.proofs.sameness.is_same_image.Goals as goal

pub returns-in-Some-Some-clause-equal : goal.returns-in-Some-Some-clause-equal
returns-in-Some-Some-clause-equal c = λ h.
    let equal = (bytes_eq-Decides c.in-Some-Some.a.now c.in-Some-Some.b.now).0 (sym c.eq.ensures ∙ h) in
    ap image_shown c.in-Some-Some.is-0 ∙ ap To equal ∙ sym (ap image_shown c.in-Some-Some.is-1)

pub returns-in-Some-Some-clause-same : goal.returns-in-Some-Some-clause-same
returns-in-Some-Some-clause-same c = λ h.
    let images : To c.in-Some-Some.a.now ≡ To c.in-Some-Some.b.now = sym (ap image_shown c.in-Some-Some.is-0) ∙ h ∙ ap image_shown c.in-Some-Some.is-1 in
    let points : c.in-Some-Some.a.now ≡ c.in-Some-Some.b.now = cc in
    c.eq.ensures ∙ (bytes_eq-Decides c.in-Some-Some.a.now c.in-Some-Some.b.now).1 points
