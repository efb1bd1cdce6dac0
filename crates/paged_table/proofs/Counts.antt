-- Which blocks have several values, and how many.
use Rattle.std.proofs.Common.{◌≡◌, ℕ, zero, suc, ◌+◌, ◌*◌, ◌/◌, ◌%◌, ◌<◌, Bool, true, false, not, cond, eqb, List, refl, sym, ap, ◌∙◌, arith, inl, inr, Decides, map-id}
use Rattle.std.specs.List.{count_by, range_with_len}
use Rattle.std.proofs.lemmas.Bool.{cases_lt, cases_Bool, and_from, and_parts, eq-eqb, eqb-true, or_left}
use Rattle.std.proofs.lemmas.List.FromFn.{sum_by-map-range_with_len_more}
use Rattle.page_pool.specs.Pool.{Pool, word_of}
use Rattle.paged_table.specs.declared.block.Block.{Block}
use Rattle.paged_table.specs.declared.block.Block.TheVariants.{One, Page}
use Rattle.paged_table.specs.Blocks.{block_at, value_of, values, is_page}
use Rattle.paged_table.specs.Layers.{IsApart}
use Rattle.paged_table.specs.Pages.{block_width, in_block, IsEvenBlock, all_same, even_block, uneven_count, IsPageOf}

block_width-is : block_width ≡ 256
unfolding block_width
block_width-is = refl

all_same-true : (f : ℕ → ℕ) (v n : ℕ) → ((a : ℕ) → a < n → f a ≡ v) → all_same f v n ≡ true
all_same-true f v zero h = refl
all_same-true f v (suc n) h = and_from (all_same f v n) (eqb (f n) v) (all_same-true f v n (λ a lt. h a (omega arith))) (eq-eqb (f n) v (h n (omega arith)))

all_same-each : (f : ℕ → ℕ) (v n : ℕ) → all_same f v n ≡ true → (a : ℕ) → a < n → f a ≡ v
all_same-each f v zero h a lt = absurd (omega arith)
all_same-each f v (suc n) h a lt =
    let parts = and_parts (all_same f v n) (eqb (f n) v) h in
    elim (cases_lt a n) [
      | inl below ↦ all_same-each f v n parts.0 a below
      | inr above ↦
          let at : a ≡ n = omega arith in
          rw at (eqb-true (f n) v parts.1)
    ]

pub even_block-true : (f : ℕ → ℕ) (b : ℕ) → IsEvenBlock f b → even_block f b ≡ true
unfolding even_block
even_block-true f b even = all_same-true (in_block f b) (in_block f b 0) block_width (λ a lt. let is = block_width-is in even a 0 (omega arith) (omega arith))

pub even_block-each : (f : ℕ → ℕ) (b : ℕ) → even_block f b ≡ true → IsEvenBlock f b
unfolding even_block
even_block-each f b h a d la ld =
    let is = block_width-is in
    let each = all_same-each (in_block f b) (in_block f b 0) block_width h in
    each a (omega arith) ∙ sym (each d (omega arith))

pub even_block-Decides : (f : ℕ → ℕ) (b : ℕ) → Decides (even_block f b) (IsEvenBlock f b)
even_block-Decides f b = (even_block-each f b, even_block-true f b)

pub even_block-false : (f : ℕ → ℕ) (b : ℕ) → (IsEvenBlock f b → ⊥) → even_block f b ≡ false
even_block-false f b h =
    elim (cases_Bool (even_block f b)) [
      | inl is ↦ absurd (h (even_block-each f b is))
      | inr uneven ↦ uneven
    ]

pub in_block-is : (pool : Pool) (xs : List Block) (b a : ℕ) → a < 256 → in_block (values pool xs) b a ≡ value_of pool (block_at xs b) a
in_block-is pool xs b a lt =
    let block : (b * 256 + a) / 256 ≡ b = omega arith in
    let place : (b * 256 + a) % 256 ≡ a = omega arith in
    rw (block, place) refl

in_page : (pool : Pool) (xs : List Block) (b p a : ℕ) → block_at xs b ≡ Page p → a < 256 → word_of pool p a ≡ in_block (values pool xs) b a
in_page pool xs b p a is lt = sym (in_block-is pool xs b a lt ∙ ap (λ x. value_of pool x a) is)

-- one block more is one more, if it is uneven
uneven_count-more : (f : ℕ → ℕ) (n : ℕ) → uneven_count f (n + 1) ≡ uneven_count f n + cond (not (even_block f n)) 1 0
uneven_count-more f n =
    let uneven : ℕ → Bool = λ b. not (even_block f b) in
    ap (count_by uneven) (sym (map-id (range_with_len 0 (n + 1)))) ∙ sum_by-map-range_with_len_more (λ k. cond (uneven k) 1 0) (λ k. k) 0 n n (omega arith)
    ∙ ap (λ (xs : List ℕ). count_by uneven xs + cond (uneven n) 1 0) (map-id (range_with_len 0 n))

-- a block with a page
pub page-of : (pool : Pool) (xs ys : List Block) (b p : ℕ) → IsApart pool xs ys → block_at xs b ≡ Page p → IsPageOf pool (values pool xs) b p
page-of pool xs ys b p ok is =
    let used = or_left (is_page p (block_at xs b)) (is_page p (block_at ys b)) (ap (is_page p) is ∙ eq-eqb p p refl) in
    record {
      live = ok.live b p used;
      words = λ a lt. in_page pool xs b p a is lt;
      uneven = λ even. ok.tight b p used (λ a d la ld. in_page pool xs b p a is la ∙ even a d la ld ∙ sym (in_page pool xs b p d is ld));
    }

pub count-page : (pool : Pool) (xs ys : List Block) (b p : ℕ) → IsApart pool xs ys → block_at xs b ≡ Page p → uneven_count (values pool xs) (b + 1) ≡ uneven_count (values pool xs) b + 1
count-page pool xs ys b p ok is = uneven_count-more (values pool xs) b ∙ ap (λ e. uneven_count (values pool xs) b + cond (not e) 1 0) (even_block-false (values pool xs) b (page-of pool xs ys b p ok is).uneven)

-- a block without one
pub even-one : (pool : Pool) (xs : List Block) (b v : ℕ) → block_at xs b ≡ One v → IsEvenBlock (values pool xs) b
even-one pool xs b v is a d la ld =
    in_block-is pool xs b a la ∙ ap (λ x. value_of pool x a) is ∙ sym (in_block-is pool xs b d ld ∙ ap (λ x. value_of pool x d) is)

pub count-one : (pool : Pool) (xs : List Block) (b v : ℕ) → block_at xs b ≡ One v → uneven_count (values pool xs) (b + 1) ≡ uneven_count (values pool xs) b
count-one pool xs b v is =
    let none : uneven_count (values pool xs) b + 0 ≡ uneven_count (values pool xs) b = omega arith in
    uneven_count-more (values pool xs) b ∙ ap (λ e. uneven_count (values pool xs) b + cond (not e) 1 0) (even_block-true (values pool xs) b (even-one pool xs b v is)) ∙ none
