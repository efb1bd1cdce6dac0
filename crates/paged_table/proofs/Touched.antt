-- The list of the touched blocks.
use Rattle.std.proofs.Common.{◌≡◌, ℕ, suc, ◌+◌, ◌<◌, inl, inr, false, eqb, ◌||◌, List, ◌∷◌, length, get_or, set, drop, sym, ap, subst, ◌∙◌, arith}
use Rattle.std.proofs.lemmas.Bool.{cases_eq, ne_eqb}
use Rattle.std.proofs.Math.Seq.{drop-cons}
use Rattle.paged_table.specs.declared.block.Block.{Block}
use Rattle.paged_table.specs.Blocks.{block_at}
use Rattle.paged_table.specs.Layers.{listed}
use Rattle.paged_table.proofs.Apart.{set_here, set_there}

-- one more of the touched blocks is settled
pub settled-next : (ts : List ℕ) (i : ℕ) (xs ys : List Block) → i < length ts → get_or ts i 0 < length ys → ((b : ℕ) → listed (drop i ts) b ≡ false → block_at ys b ≡ block_at xs b) → (b : ℕ) → listed (drop (i + 1) ts) b ≡ false → block_at (set ys (get_or ts i 0) (block_at xs (get_or ts i 0))) b ≡ block_at xs b
settled-next ts i xs ys lt inside before b none =
    let t = get_or ts i 0 in
    let here : drop i ts ≡ t ∷ drop (i + 1) ts = drop-cons ts i 0 lt ∙ ap (λ n. t ∷ drop n ts) (let e : suc i ≡ i + 1 = omega arith in e) in
    elim (cases_eq b t) [
      | inl is ↦ subst (λ z. block_at (set ys t (block_at xs t)) z ≡ block_at xs z) (sym is) (set_here ys t (block_at xs t) inside)
      | inr differs ↦
          let not : eqb t b ≡ false = ne_eqb t b (λ e. differs (sym e)) in
          let old : listed (drop i ts) b ≡ false = ap (λ zs. listed zs b) here ∙ ap (λ z. z || listed (drop (i + 1) ts) b) not ∙ none in
          set_there ys t b (block_at xs t) differs ∙ before b old
    ]
