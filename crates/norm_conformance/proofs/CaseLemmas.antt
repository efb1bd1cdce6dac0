-- Cases that are put behind others.
-- onto_case     a case, put to the cases before it
use Rattle.std.proofs.Common.{◌≡◌, ◌||◌, List, [], ◌∷◌, ◌++◌, Result, Ok, Err, refl, sym, ap, append_assoc}
use Rattle.norm_conformance.specs.Cases.{CaseFault, onto, with_case}
use Rattle.norm_conformance.specs.declared.case.Case.{Case}
use Rattle.norm_conformance.specs.declared.case.Cases.{Cases}

pub onto_case : (before after : Cases) (case : Case) (r : Result Cases CaseFault) → after.list ≡ before.list ++ case ∷ [] → after.part_one ≡ before.part_one → onto before (with_case case r) ≡ onto after r
onto_case before after case (Ok cases) list one =
    rw (list, one) (ap (λ (l : List Case). Ok (record { list = l; part_one = before.part_one || cases.part_one })) (sym (append_assoc before.list (case ∷ []) cases.list)))
onto_case before after case (Err fault) list one = refl
