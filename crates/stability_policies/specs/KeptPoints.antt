-- Code points of which a new release says what an old one says.
-- IsKept c G H P Q   of the point c the old release has the facts G and the core properties P, and the new one H and Q: the row and
--                    the properties are the same, and neither has a decomposition mapping or a mapping to lower case
use Rattle.std.specs.Prelude.{◌≡◌, ℕ, Bool, []}
use Rattle.ucd_facts.specs.Facts.{Facts}
use Rattle.ucd_facts.specs.declared.property.Core.{Core}
use Rattle.ucd_facts.specs.declared.property.Flag.{Flag}

pub record IsKept (c : ℕ) (G H : Facts) (P Q : Core → Bool) : Type 0 where
  pub assigned : G.assigned ≡ H.assigned
  pub category : G.category ≡ H.category
  pub class : G.class ≡ H.class
  pub kind : G.kind ≡ H.kind
  pub flag : (flag : Flag) → G.flag flag ≡ H.flag flag
  pub core : (core : Core) → P core ≡ Q core
  pub old_mapping : G.mapping ≡ []
  pub new_mapping : H.mapping ≡ []
  pub old_lower : G.simple_lower ≡ c
  pub new_lower : H.simple_lower ≡ c
