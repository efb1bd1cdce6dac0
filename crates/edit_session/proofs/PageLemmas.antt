-- A page that shows a block of one function shows it of every function with the same values there.
use Rattle.std.proofs.Common.{◌≡◌, ℕ, ◌+◌, ◌*◌, ◌<◌, Option, None, Some, sym, ◌∙◌, arith}
use Rattle.page_pool.specs.Pool.{Pool}
use Rattle.paged_table.specs.Pages.{IsEvenBlock, ShowsPage, in_block}

even_as : (f g : ℕ → ℕ) (b : ℕ) → ((a : ℕ) → a < 256 → in_block f b a ≡ in_block g b a) → IsEvenBlock f b → IsEvenBlock g b
even_as f g b at even = λ x y lx ly. sym (at x lx) ∙ even x y lx ly ∙ at y ly

shows_by : (pool : Pool) (f g : ℕ → ℕ) (b : ℕ) → ((a : ℕ) → a < 256 → in_block f b a ≡ in_block g b a) → (page : Option ℕ) → ShowsPage pool f b page → ShowsPage pool g b page
shows_by pool f g b at None even = even_as f g b at even
shows_by pool f g b at (Some p) is = record {
  live = is.live;
  words = λ a lt. is.words a lt ∙ at a lt;
  uneven = λ even. is.uneven (even_as g f b (λ a lt. sym (at a lt)) even);
}

pub shows_as : (pool : Pool) (f g : ℕ → ℕ) (b : ℕ) → b < 4352 → ((c : ℕ) → c < 1114112 → f c ≡ g c) → (page : Option ℕ) → ShowsPage pool f b page → ShowsPage pool g b page
shows_as pool f g b inside same = shows_by pool f g b (λ a lt. same (b * 256 + a) (omega (arith, lt, inside)))
