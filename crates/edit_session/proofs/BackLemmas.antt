-- The way back from a group, and what it leads to.
use Rattle.std.proofs.Common.{◌≡◌, List, None, sym, ap, subst, ◌∙◌}
use Rattle.ucd_model.specs.Validity.{first_broken}
use Rattle.release_rows.specs.Patches.{LeadsBack, SpliceItems}
use Rattle.release_rows.specs.Releases.{AllAreKept, ReleaseItems, FileItem}
use Rattle.edit_session.specs.Groups.{files_facts}
use Rattle.edit_session.specs.Reverts.{Keeps}

-- what a bench has is kept and valid, so its way back is
pub keeps_before : (patch : List SpliceItems) (prepared old new : ReleaseItems) → new ≡ record { current = prepared.prepared; prepared = prepared.prepared } → prepared.current ≡ old.current → LeadsBack patch prepared.prepared prepared.current → AllAreKept old.current → first_broken (files_facts old.current) ≡ None → Keeps patch new.current old.current
keeps_before patch prepared old new is same leads kept valid =
    let there : LeadsBack patch prepared.prepared old.current = subst (LeadsBack patch prepared.prepared) same leads in
    let all : Keeps patch prepared.prepared old.current = record {
      leads = there;
      way = record {
        way = record { defined = there.defined; kept = subst AllAreKept (sym there.leads) kept };
        valid = ap (λ (fs : List (List FileItem)). first_broken (files_facts fs)) there.leads ∙ valid;
      };
    } in
    subst (λ (r : ReleaseItems). Keeps patch r.current old.current) (sym is) all
