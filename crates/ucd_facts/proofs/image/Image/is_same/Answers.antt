use Rattle.std.proofs.Common.{◌≡◌, ◌∙◌, true, sym, ap, bytes_eq}
use Rattle.std.proofs.lemmas.Slice.Eq.{bytes_eq-Decides}
use Rattle.ucd_facts.specs.declared.image.Image.TheVariants.{To}
use Rattle.ucd_facts.proofs.image.Image.is_same.Goals as goal

pub returns-in-To-To-clause-equal : goal.returns-in-To-To-clause-equal
returns-in-To-To-clause-equal c = λ h.
    let same : bytes_eq c.as_slice.result.now c.as_slice-in-To-To.result.now ≡ true = sym c.eq.ensures ∙ h in
    let equal : c.in-To-To.a ≡ c.in-To-To.b = sym c.as_slice.ensures ∙ (bytes_eq-Decides c.as_slice.result.now c.as_slice-in-To-To.result.now).0 same ∙ c.as_slice-in-To-To.ensures in
    c.in-To-To.is-0 ∙ ap To equal ∙ sym c.in-To-To.is-1

pub returns-in-To-To-clause-same : goal.returns-in-To-To-clause-same
returns-in-To-To-clause-same c = λ h.
    let images : To c.in-To-To.a ≡ To c.in-To-To.b = sym c.in-To-To.is-0 ∙ h ∙ c.in-To-To.is-1 in
    let points : c.in-To-To.a ≡ c.in-To-To.b = cc in
    c.eq.ensures ∙ (bytes_eq-Decides c.as_slice.result.now c.as_slice-in-To-To.result.now).1 (c.as_slice.ensures ∙ points ∙ sym c.as_slice-in-To-To.ensures)
