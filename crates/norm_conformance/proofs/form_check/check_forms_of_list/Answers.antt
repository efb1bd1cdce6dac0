use Rattle.std.proofs.Common.{◌≡◌, ℕ, Bool, List, Ok, sym, ap, ◌∙◌, bytes_eq}
use Rattle.ucd_facts.specs.Facts.{Facts}
use Rattle.ucd_facts.specs.declared.form.Form.{Form}
use Rattle.ucd_facts.specs.declared.form.Form.TheVariants.{Nfd, Nfc, Nfkd, Nfkc}
use Rattle.normalisation.specs.FormValues.{form_of}
use Rattle.norm_conformance.specs.Misses.{is_form, is_list}
use Rattle.norm_conformance.proofs.ValidForms.{valid_forms}
use Rattle.norm_conformance.proofs.form_check.check_forms_of_list.Goals as goal

pub of-requires : goal.of-requires
of-requires g c = valid_forms (g.W.FactView.facts_of c.args.view.now) c.requires c.args.s.now

-- what is told is whether the form is this list
told : (F : ℕ → Facts) (form : Form) (s points shown t : List ℕ) (r : Bool) → form_of F form s ≡ Ok points → shown ≡ points → r ≡ bytes_eq shown t → r ≡ is_form F form s t
told F form s points shown t r is same e = e ∙ ap (λ l. bytes_eq l t) same ∙ sym (ap (λ v. is_list v t) is)

pub returns : goal.returns
returns g c =
    let F = g.W.FactView.facts_of c.args.view.now in
    let s = c.args.s.now in
    let t = c.args.expected in
    let forms = c.in_ok-forms.forms in
    let are = c.in_ok-forms.ensures in
    record {
      nfd = told F Nfd s forms.nfd c.as_slice.result.now t.nfd.now c.eq.result are.nfd c.as_slice.ensures c.eq.ensures;
      nfc = told F Nfc s forms.nfc c.as_slice-2.result.now t.nfc.now c.eq-2.result are.nfc c.as_slice-2.ensures c.eq-2.ensures;
      nfkd = told F Nfkd s forms.nfkd c.as_slice-3.result.now t.nfkd.now c.eq-3.result are.nfkd c.as_slice-3.ensures c.eq-3.ensures;
      nfkc = told F Nfkc s forms.nfkc c.as_slice-4.result.now t.nfkc.now c.eq-4.result are.nfkc c.as_slice-4.ensures c.eq-4.ensures;
    }
