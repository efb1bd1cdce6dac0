-- What words and rests keep, code point by code point.
use Rattle.std.proofs.Common.{◌≡◌, ℕ, ◌<◌, ◌≤◌, refl, sym, ap₂, subst, ◌∙◌, inl, inr}
use mathlib.Core.Path.{fun_ext}
use Rattle.std.proofs.lemmas.Bool.{cases_lt, lt-ltb, le-ltb}
use Rattle.ucd_points.specs.Limits.{point_count}
use Rattle.ucd_facts.specs.Facts.{Facts, unassigned}
use Rattle.range_table.specs.Values.{SameValues}
use Rattle.fact_tables.specs.Word.{ReadsBack}
use Rattle.fact_tables.specs.Rest.{RestOf}
use Rattle.fact_tables.specs.KeptFacts.{kept_at, all_kept}

pub kept_inside : (words : ℕ → ℕ) (rests : ℕ → RestOf) (c : ℕ) → c < point_count → all_kept words rests c ≡ kept_at c (words c) (rests c)
unfolding all_kept
kept_inside words rests c lt = rw (lt-ltb c point_count lt) refl

pub kept_outside : (words : ℕ → ℕ) (rests : ℕ → RestOf) (c : ℕ) → point_count ≤ c → all_kept words rests c ≡ unassigned c
unfolding all_kept
kept_outside words rests c le = rw (le-ltb c point_count le) refl

pub point_below : (c : ℕ) → c < 1114112 → c < point_count
unfolding point_count
point_below c lt = lt

pub below_point : (c : ℕ) → c < point_count → c < 1114112
unfolding point_count
below_point c lt = lt

pub kept_point : (words : ℕ → ℕ) (rests : ℕ → RestOf) (c : ℕ) → c < 1114112 → all_kept words rests c ≡ kept_at c (words c) (rests c)
kept_point words rests c lt = kept_inside words rests c (point_below c lt)

-- what a word says is what is kept
word_back : (c word : ℕ) (rest : RestOf) → ReadsBack word (kept_at c word rest)
word_back c word rest = record {
  assigned = refl;
  excluded = refl;
  mid_word = refl;
  category = refl;
  class = refl;
  kind = refl;
  flag = λ f. refl;
}

pub word_reads : (words : ℕ → ℕ) (rests : ℕ → RestOf) (c : ℕ) → c < 1114112 → ReadsBack (words c) (all_kept words rests c)
word_reads words rests c lt = subst (ReadsBack (words c)) (sym (kept_point words rests c lt)) (word_back c (words c) (rests c))

-- facts that are kept are those of a function that agrees at each code point
pub kept_from_points : (words : ℕ → ℕ) (rests : ℕ → RestOf) (F : ℕ → Facts) → ((c : ℕ) → c < 1114112 → kept_at c (words c) (rests c) ≡ F c) → ((c : ℕ) → point_count ≤ c → F c ≡ unassigned c) → all_kept words rests ≡ F
kept_from_points words rests F inside outside =
    fun_ext (λ c. elim (cases_lt c point_count) [
      | inl lt ↦ kept_inside words rests c lt ∙ inside c (below_point c lt)
      | inr le ↦ kept_outside words rests c le ∙ sym (outside c le)
    ])

-- the same words and rests keep the same facts
pub same_kept : (words words' : ℕ → ℕ) (rests rests' : ℕ → RestOf) → SameValues words words' → SameValues rests rests' → all_kept words rests ≡ all_kept words' rests'
same_kept words words' rests rests' same alike =
    kept_from_points words rests (all_kept words' rests')
    (λ c lt. ap₂ (kept_at c) (same c lt) (alike c lt) ∙ sym (kept_point words' rests' c lt))
    (kept_outside words' rests')
