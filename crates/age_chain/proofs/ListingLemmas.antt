-- A run of one age is a stretch of one label, and which code points have one.
use Rattle.std.proofs.Common.{◌≡◌, ℕ, ◌+◌, ◌<◌, ◌≤◌, Bool, true, false, not, ◌==◌, Option, Some, None, refl, sym, ap, ◌∙◌, arith, is_some, if◌then◌else◌}
use Rattle.range_table.specs.Values.{point_count-is}
use Rattle.ucd_points.specs.Limits.{point_count}
use Rattle.ucd_model.specs.Labels.{Label}
use Rattle.label_runs.specs.Runs.{IsStretch}
use Rattle.age_chain.specs.Ages.{age_label, age_of, ages_of}
use Rattle.age_chain.proofs.TableLemmas.{ages_within}

pub age_stretch : (values : ℕ → ℕ) (lo last at end : ℕ) (label : Label) → at ≡ lo → lo ≤ last → last < 1114112 → end ≡ last + 1 → ((k : ℕ) → lo ≤ k → k ≤ last → values k ≡ values lo)
    → label ≡ age_label (age_of (values lo)) → IsStretch point_count (λ c. age_label (ages_of values c)) at end label
age_stretch values lo last at end label here ordered bound next same is = record {
  some = omega arith;
  inside = omega (arith, point_count-is);
  alike = λ k low high. ap age_label (ages_within values k (omega arith) ∙ ap age_of (same k (omega arith) (omega arith))) ∙ sym is;
}

-- ---- which code points have an age

listed_if : (v : ℕ) (none : Bool) → is_some (age_label (if none then None else Some v)) ≡ not none
listed_if v true = refl
listed_if v false = refl

pub aged_if : (values : ℕ → ℕ) (c : ℕ) → c < 1114112 → is_some (age_label (ages_of values c)) ≡ not (values c == 0)
aged_if values c lt = ap (λ (a : Option ℕ). is_some (age_label a)) (ages_within values c lt) ∙ listed_if (values c) (values c == 0)
