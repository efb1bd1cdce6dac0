-- Spans are set one behind the other, and pools keep what blocks need.
use Rattle.std.proofs.Common.{◌≡◌, ℕ, ◌+◌, ◌*◌, ◌/◌, ◌%◌, ◌<◌, ◌≤◌, true, cond, leb, ltb, ◌&&◌, List, ◌++◌, length, take, subst, ◌∙◌, arith, Result, Ok, Err, OnErr}
use Rattle.std.proofs.lemmas.Bool.Decides.{nat_tests}
use Rattle.page_pool.specs.Pool.{Pool, is_live, word_of}
use Rattle.paged_table.specs.declared.block.Block.{Block}
use Rattle.paged_table.specs.Blocks.{block_at, values, is_page}
use Rattle.paged_table.specs.Layers.{IsApart}
use Rattle.std.proofs.Math.Seq.{take-append_seam}
use Rattle.std.proofs.lemmas.Bool.{or_right, or_left}
use Rattle.paged_table.proofs.Apart.{value_of-stays}

-- the first block, those between, and the last one
three_spans : (lo hi f l v w c : ℕ) → lo < f + 256 → f + 256 ≤ l → l ≤ hi → cond (leb l c && leb c hi) v (cond (leb (f + 256) c && ltb c l) v (cond (leb lo c && leb c (f + 255)) v w)) ≡ cond (leb lo c && leb c hi) v w
three_spans lo hi f l v w c a b d = grind (arith, nat_tests)

pub span-three : (lo hi first last v w c : ℕ) → first ≡ lo / 256 → last ≡ hi / 256 → first < last → cond (leb (last * 256 + 0) c && leb c (last * 256 + hi % 256)) v (cond (leb ((first + 1) * 256) c && ltb c (last * 256)) v (cond (leb (first * 256 + lo % 256) c && leb c (first * 256 + 255)) v w)) ≡ cond (leb lo c && leb c hi) v w
span-three lo hi first last v w c is too lt =
    let low : first * 256 + lo % 256 ≡ lo = omega arith in
    let high : last * 256 + hi % 256 ≡ hi = omega arith in
    let none : last * 256 + 0 ≡ last * 256 = omega arith in
    let next : (first + 1) * 256 ≡ first * 256 + 256 = omega arith in
    rw (low, high, none, next) (three_spans lo hi (first * 256) (last * 256) v w c (omega arith) (omega arith) (omega arith))

-- a pool with more room
module _ (pool pool' : Pool) (xs ys : List Block) (ok : IsApart pool xs ys) (live : (p : ℕ) → is_live pool' p ≡ is_live pool p) (words : (p a : ℕ) → is_live pool p ≡ true → a < 256 → word_of pool' p a ≡ word_of pool p a) where
  pub values_now-stays : (c : ℕ) → values pool' xs c ≡ values pool xs c
  values_now-stays c = value_of-stays pool pool' (block_at xs (c / 256)) (c % 256) (λ p is. let used = or_left (is_page p (block_at xs (c / 256))) (is_page p (block_at ys (c / 256))) is in record { live = live p ∙ ok.live (c / 256) p used; words = λ a lt. words p a (ok.live (c / 256) p used) lt }) (omega arith)

  pub values_next-stays : (c : ℕ) → values pool' ys c ≡ values pool ys c
  values_next-stays c = value_of-stays pool pool' (block_at ys (c / 256)) (c % 256) (λ p is. let used = or_right (is_page p (block_at xs (c / 256))) (is_page p (block_at ys (c / 256))) is in record { live = live p ∙ ok.live (c / 256) p used; words = λ a lt. words p a (ok.live (c / 256) p used) lt }) (omega arith)

-- a list is written over one of the same length
pub refill : {A : Type 0} (n : ℕ) (ws ys : List A) → length ws ≡ n → take n (ws ++ ys) ≡ ws
refill n ws ys is = subst (λ m. take m (ws ++ ys) ≡ ws) is (take-append_seam ws ys)
