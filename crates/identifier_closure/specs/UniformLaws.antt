-- Code points without a mapping whose other facts are the same.
-- UniformDerived     their records are the same, where both are format characters that are shown or neither is
use Rattle.std.specs.Prelude.{◌≡◌, ℕ}
use Rattle.ucd_facts.specs.Facts.{Facts}
use Rattle.ucd_facts.specs.Predicates.{is_visible_format}
use Rattle.ucd_model.specs.Records.{derived}
use Rattle.ucd_facts.specs.Uniform.{IsPlain, Uniform}

abbrev pub UniformDerived : Type 0
UniformDerived = (F : ℕ → Facts) (c d : ℕ) → IsPlain c (F c) → Uniform F c d → is_visible_format d ≡ is_visible_format c → derived F d ≡ derived F c
