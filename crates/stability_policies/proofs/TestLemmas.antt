-- What the sets of core properties tell of the policies on them.
use Rattle.std.proofs.Common.{◌≡◌, ℕ, Bool, ◌&&◌, not, ap, sym, ◌∙◌}
use Rattle.ucd_facts.specs.Facts.{Facts}
use Rattle.ucd_model.specs.Records.{core_at}
use Rattle.ucd_facts.specs.Sets.{has_core}
use Rattle.ucd_facts.specs.declared.property.Core.{Core}
use Rattle.stability_policies.specs.Policies.{breaks}
use Rattle.stability_policies.specs.declared.policy.Policy.{Policy}

-- a core property that is lost, by the sets of both releases
pub lost_core : (policy of : Policy) (O N : ℕ → Facts) (c : ℕ) (x y : ℕ) (core : Core) (broken : Bool) → policy ≡ of → breaks of O N c ≡ (core_at O c core && not (core_at N c core))
    → ((p : Core) → has_core x p ≡ core_at O c p) → ((p : Core) → has_core y p ≡ core_at N c p) → broken ≡ (has_core x core && not (has_core y core)) → broken ≡ breaks policy O N c
lost_core policy of O N c x y core broken is formula old new told =
    told ∙ ap (λ b. b && not (has_core y core)) (old core) ∙ ap (λ b. core_at O c core && not b) (new core) ∙ sym formula ∙ sym (ap (λ p. breaks p O N c) is)
