-- Proof that uniform code points have the same record.
-- uniform_derived   the law of the same name
use Rattle.std.proofs.Common.{◌≡◌, ℕ, Bool, [], Ok, if◌then◌else◌, refl, sym, ap, ◌∙◌}
use Rattle.ucd_facts.specs.Composites.{is_canonical, second_of}
use Rattle.ucd_facts.specs.Facts.{Facts, is_plain}
use Rattle.ucd_facts.specs.declared.image.Image.TheVariants.{Same, To}
use Rattle.ucd_facts.specs.Predicates.{default_ignorable, is_visible_format}
use Rattle.ucd_model.specs.Records.{Record}
use Rattle.ucd_facts.specs.Uniform.{Alike}
use Rattle.ucd_facts.specs.declared.form.Quick.TheVariants.{Yes, No, Maybe}
use Rattle.ucd_facts.specs.declared.property.Core.{Core}
use Rattle.ucd_facts.specs.declared.property.Core.TheVariants.{CaseIgnorable, ChangesWhenLowercased, ChangesWhenUppercased, ChangesWhenTitlecased, ChangesWhenCasefolded, ChangesWhenCasemapped, DefaultIgnorableCodePoint, GraphemeLink}
use Rattle.identifier_closure.specs.PlainProofs.{plain_core, plain_record, plain_derived}
use Rattle.identifier_closure.specs.UniformLaws.{UniformDerived}

core_alike : (core : Core) (c d : ℕ) (G H : Facts) → Alike G H → is_visible_format d ≡ is_visible_format c → plain_core d G core ≡ plain_core c H core
core_alike CaseIgnorable c d G H a v = rw (a.category, a.mid_word) refl
core_alike ChangesWhenLowercased c d G H a v = refl
core_alike ChangesWhenUppercased c d G H a v = refl
core_alike ChangesWhenTitlecased c d G H a v = refl
core_alike ChangesWhenCasefolded c d G H a v = refl
core_alike ChangesWhenCasemapped c d G H a v = refl
core_alike DefaultIgnorableCodePoint c d G H a v = rw (a.category, a.flag, v) refl
core_alike GraphemeLink c d G H a v = rw a.class refl
core_alike _ c d G H a v = rw (a.category, a.flag) refl

record_alike : (c d : ℕ) (G H : Facts) (s t : Bool) → Alike G H → s ≡ t → is_visible_format d ≡ is_visible_format c → plain_record d G s ≡ plain_record c H t
record_alike c d G H s t a second v =
    let ignored : default_ignorable d G ≡ default_ignorable c H = core_alike DefaultIgnorableCodePoint c d G H a v in
    λ i. record {
      category = a.category i;
      class = a.class i;
      kind = a.kind i;
      core = λ core. core_alike core c d G H a v i;
      exclusion = a.excluded i;
      nfd = if is_canonical (a.kind i) then No else Yes;
      nfc = if second i then Maybe else Yes;
      nfkd = if is_plain (a.kind i) then Yes else No;
      nfkc = if second i then Maybe else Yes;
      casefold = if ignored i then To [] else Same;
      simple_casefold = if ignored i then To [] else Same;
      changes_casefold = ignored i;
    }

pub uniform_derived : UniformDerived
uniform_derived F c d p u v =
    plain_derived F d u.plain ∙ ap (λ (R : Record). Ok R) (record_alike c d (F d) (F c) (second_of F d) (second_of F c) u.alike u.second v) ∙ sym (plain_derived F c p)
