-- Whether forms are as expected, as the code keeps it.
-- AreKept F s d c kd kc check   it is told whether the forms D, C, KD and KC of s are these lists
-- AreChecks F case check        it is told of each column of a case whether its forms are as expected
-- kept_in check form            whether this form is as expected
-- kept_at check form k          the same of column k of a case
use Rattle.std.specs.Prelude.{◌≡◌, ℕ, Bool, List, ◌==◌, if◌then◌else◌}
use Rattle.ucd_facts.specs.Facts.{Facts}
use Rattle.ucd_facts.specs.declared.form.Form.{Form}
use Rattle.ucd_facts.specs.declared.form.Form.TheVariants.{Nfd, Nfc, Nfkd, Nfkc}
use Rattle.norm_conformance.specs.Misses.{is_form}
use Rattle.norm_conformance.specs.declared.case.Case.{Case}
use Rattle.norm_conformance.specs.declared.case_check.CaseCheck.{CaseCheck}
use Rattle.norm_conformance.specs.declared.form_check.FormCheck.{FormCheck}

pub record AreKept (F : ℕ → Facts) (s d c kd kc : List ℕ) (check : FormCheck) : Type 0 where
  pub nfd : check.nfd ≡ is_form F Nfd s d
  pub nfc : check.nfc ≡ is_form F Nfc s c
  pub nfkd : check.nfkd ≡ is_form F Nfkd s kd
  pub nfkc : check.nfkc ≡ is_form F Nfkc s kc

pub record AreChecks (F : ℕ → Facts) (case : Case) (check : CaseCheck) : Type 0 where
  pub c1 : AreKept F case.c1 case.c3 case.c2 case.c5 case.c4 check.c1
  pub c2 : AreKept F case.c2 case.c3 case.c2 case.c5 case.c4 check.c2
  pub c3 : AreKept F case.c3 case.c3 case.c2 case.c5 case.c4 check.c3
  pub c4 : AreKept F case.c4 case.c5 case.c4 case.c5 case.c4 check.c4
  pub c5 : AreKept F case.c5 case.c5 case.c4 case.c5 case.c4 check.c5

abbrev pub kept_in : FormCheck → Form → Bool
kept_in check Nfd = check.nfd
kept_in check Nfc = check.nfc
kept_in check Nfkd = check.nfkd
kept_in check Nfkc = check.nfkc

abbrev pub kept_at : CaseCheck → Form → ℕ → Bool
kept_at check form k =
    if k == 1 then kept_in check.c1 form
    else (if k == 2 then kept_in check.c2 form
    else (if k == 3 then kept_in check.c3 form
    else (if k == 4 then kept_in check.c4 form else kept_in check.c5 form)))
