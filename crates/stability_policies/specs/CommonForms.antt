-- What an empty part of the report means.
-- ListsNone P breaks    no break of the policy P is listed
-- AllAssigned F s       each member of the list s is assigned
-- KeepsForms breaks     nothing of P01, P03, P04 and P05 is listed
use Rattle.std.specs.Prelude.{◌≡◌, ℕ, true, false, List}
use Rattle.std.specs.List.{list_all, list_any}
use Rattle.ucd_facts.specs.Facts.{Facts}
use Rattle.stability_policies.specs.Reports.{is_of}
use Rattle.stability_policies.specs.declared.breaks.Break.{Break}
use Rattle.stability_policies.specs.declared.policy.Policy.{Policy}
use Rattle.stability_policies.specs.declared.policy.Policy.TheVariants.{P01, P03, P04, P05}

abbrev pub ListsNone : Policy → List Break → Type 0
ListsNone policy breaks = list_any (is_of policy) breaks ≡ false

abbrev pub AllAssigned : (ℕ → Facts) → List ℕ → Type 0
AllAssigned F s = list_all (λ c. (F c).assigned) s ≡ true

pub record KeepsForms (breaks : List Break) : Type 0 where
  pub assigned : ListsNone P01 breaks
  pub class : ListsNone P03 breaks
  pub mapping : ListsNone P04 breaks
  pub composites : ListsNone P05 breaks
