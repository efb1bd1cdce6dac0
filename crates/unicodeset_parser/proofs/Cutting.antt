-- The tokens behind those that are read.
use Rattle.std.proofs.Common.{◌≡◌, ℕ, zero, suc, ◌-◌, ◌<◌, ◌≤◌, max, List, [], ◌∷◌, length, drop, Ok, refl, sym, ap, ◌∙◌, arith}
use Rattle.unicodeset_parser.specs.Blanks.{blank_size}
use Rattle.unicodeset_parser.specs.Lexing.{tokens, tokens_by, lexed}
use Rattle.unicodeset_parser.specs.Tokens.{placed, Lexed}
use Rattle.unicodeset_parser.specs.Machine.{State, step, run, then_run}

one_on : (l n : ℕ) → suc n ≤ l → suc (l - suc n) ≡ l - n
one_on l n le = omega arith

tokens_skip : (l k : ℕ) (bs : List ℕ) → length bs ≤ l → tokens k (l - length bs) bs ≡ tokens 0 (l - length (drop k bs)) (drop k bs)
tokens_skip l zero bs le = refl
tokens_skip l (suc k) [] le = refl
tokens_skip l (suc k) (b ∷ bs) le = ap (λ at. tokens k at bs) (one_on l (length bs) le) ∙ tokens_skip l k bs (omega arith)

pub tokens_blank : (l n : ℕ) (bs : List ℕ) → blank_size bs ≡ n → 0 < n → length bs ≤ l → tokens 0 (l - length bs) bs ≡ tokens 0 (l - length (drop n bs)) (drop n bs)
tokens_blank l zero bs e some le = absurd (omega arith)
tokens_blank l (suc n) [] e some le = refl
tokens_blank l (suc n) (b ∷ bs) e some le =
    let at = l - length (b ∷ bs) in
    ap (λ m. tokens_by m at (lexed at (b ∷ bs)) (λ k. tokens k (suc at) bs)) e
    ∙ ap (λ at. tokens n at bs) (one_on l (length bs) le) ∙ tokens_skip l n bs (omega arith)

first_of : (l m size b : ℕ) (bs : List ℕ) → suc (length bs) ≤ l → m ≡ max size 1 → tokens (size - 1) (suc (l - suc (length bs))) bs ≡ tokens 0 (l - length (drop m (b ∷ bs))) (drop m (b ∷ bs))
first_of l m size b bs le e =
    let is : m ≡ suc (size - 1) = omega arith in
    ap (λ at. tokens (size - 1) at bs) (one_on l (length bs) le) ∙ tokens_skip l (size - 1) bs (omega arith) ∙ ap (λ k. tokens 0 (l - length (drop k (b ∷ bs))) (drop k (b ∷ bs))) (sym is)

pub tokens_first : (l m : ℕ) (bs : List ℕ) → blank_size bs ≡ 0 → 0 < length bs → length bs ≤ l → m ≡ max (lexed (l - length bs) bs).size 1
    → tokens 0 (l - length bs) bs ≡ placed (l - length bs) (lexed (l - length bs) bs).sign ∷ tokens 0 (l - length (drop m bs)) (drop m bs)
tokens_first l m [] e some le is = absurd (omega arith)
tokens_first l m (b ∷ bs) e some le is =
    let at = l - length (b ∷ bs) in
    ap (λ n. tokens_by n at (lexed at (b ∷ bs)) (λ k. tokens k (suc at) bs)) e
    ∙ ap (λ ps. placed at (lexed at (b ∷ bs)).sign ∷ ps) (first_of l m (lexed at (b ∷ bs)).size b bs le is)

-- a token is taken
pub taken : (l m : ℕ) (state next : State) (bs : List ℕ) (x : Lexed) → x ≡ lexed (l - length bs) bs → step l state (placed (l - length bs) x.sign) ≡ Ok next
    → blank_size bs ≡ 0 → 0 < length bs → length bs ≤ l → m ≡ max x.size 1
    → run l next (tokens 0 (l - length (drop m bs)) (drop m bs)) ≡ run l state (tokens 0 (l - length bs) bs)
taken l m state next bs x is stepped blank some le size =
    let at = l - length bs in
    let ps = tokens 0 (l - length (drop m bs)) (drop m bs) in
    let cut : tokens 0 (l - length bs) bs ≡ placed at (lexed at bs).sign ∷ ps = tokens_first l m bs blank some le (size ∙ ap (λ y. max y.size 1) is) in
    let here : step l state (placed at (lexed at bs).sign) ≡ Ok next = ap (λ y. step l state (placed at y.sign)) (sym is) ∙ stepped in
    sym (ap (λ ts. run l state ts) cut ∙ ap (λ r. then_run r (λ s. run l s ps)) here)
