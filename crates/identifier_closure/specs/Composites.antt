-- Primary composites that a lesser one hides, by facts that are shown.
-- hidden_of F c G       of the point c with the facts G: a lesser primary composite has the same mapping
use Rattle.std.specs.Prelude.{ℕ, Bool, ◌&&◌}
use Rattle.ucd_facts.specs.Composites.{primary_of}
use Rattle.ucd_facts.specs.Facts.{Facts}
use Rattle.ucd_model.specs.Validity.{composite_of, is_other}

abbrev pub hidden_of : (ℕ → Facts) → ℕ → Facts → Bool
hidden_of F c G = primary_of F G && is_other c (composite_of F G.mapping)
