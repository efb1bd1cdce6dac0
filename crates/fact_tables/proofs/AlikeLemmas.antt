-- Code points with the same word have facts that are alike.
use Rattle.std.proofs.Common.{◌≡◌, ℕ, ◌<◌, ◌≤◌, min, ap, ap₂, sym, subst, ◌∙◌, arith}
use Rattle.ucd_facts.specs.Facts.{Facts}
use Rattle.ucd_facts.specs.Sets.{has_flag}
use Rattle.ucd_facts.specs.Uniform.{Alike}
use Rattle.fact_tables.specs.KeptFacts.{kept_at, all_kept}
use Rattle.ucd_points.specs.Stretches.{HoldsTo}
use Rattle.fact_tables.specs.Rest.{RestOf}
use Rattle.fact_tables.specs.Word.{assigned_of_word, excluded_of_word, mid_word_of_word, category_of_word, class_of_word, kind_of_word, flags_of_word}
use Rattle.fact_tables.specs.KeptFactsLemmas.{kept_point}

kept_alike : (c d word word' : ℕ) (rest rest' : RestOf) → word' ≡ word → Alike (kept_at d word' rest') (kept_at c word rest)
kept_alike c d word word' rest rest' e = record {
  assigned = ap assigned_of_word e;
  category = ap category_of_word e;
  class = ap class_of_word e;
  kind = ap kind_of_word e;
  flag = ap (λ w. has_flag (flags_of_word w)) e;
  mid_word = ap mid_word_of_word e;
  excluded = ap excluded_of_word e;
}

pub same_words : (words : ℕ → ℕ) (rests : ℕ → RestOf) (c d : ℕ) → c < 1114112 → d < 1114112 → words d ≡ words c → Alike (all_kept words rests d) (all_kept words rests c)
same_words words rests c d first second e =
    subst (λ (F : Facts). Alike F (all_kept words rests c)) (sym (kept_point words rests d second))
    (subst (λ (G : Facts). Alike (kept_at d (words d) (rests d)) G) (sym (kept_point words rests c first)) (kept_alike c d (words c) (words d) (rests c) (rests d) e))

-- as far as words and rests are the same, so are facts
pub same_to : (words words' : ℕ → ℕ) (rests rests' : ℕ → RestOf) (c a b : ℕ) → min a b < 1114112 → HoldsTo (λ d. words d ≡ words' d) c a → HoldsTo (λ d. rests d ≡ rests' d) c b
    → HoldsTo (λ d. all_kept words rests d ≡ all_kept words' rests' d) c (min a b)
same_to words words' rests rests' c a b lt word rest = record {
  from = let first : c ≤ a = word.from in let second : c ≤ b = rest.from in omega arith;
  each = λ d low high.
      let below : d < 1114112 = omega (arith, high, lt) in
      kept_point words rests d below ∙ ap₂ (kept_at d) (word.each d low (omega (arith, high))) (rest.each d low (omega (arith, high))) ∙ sym (kept_point words' rests' d below);
}
