-- Numbers of rows.
-- resolved             the first name that a key names, from the numbers of a table and those of rows
-- rows_number-append   the numbers of rows, and of others behind them
use Rattle.std.proofs.Common.{◌≡◌, ℕ, List, [], ◌∷◌, ◌++◌, Option, refl, sym, ap, ◌∙◌}
use Rattle.property_aliases.specs.Resolving.{number_of}
use Rattle.property_aliases.specs.ResolvingLaws.{direct, least, least_least, number_of_is, put, row_number, rows_number}

pub resolved : (table : List (List ℕ)) (rows : List (List (List ℕ))) (f g : List ℕ → Option ℕ) → ((key : List ℕ) → f key ≡ direct table key) → ((key : List ℕ) → g key ≡ rows_number f rows key) → (key : List ℕ) → least (f key) (g key) ≡ number_of table rows key
resolved table rows f g first second key =
    let same : f ≡ direct table = λ i k. first k i in
    ap (least (f key)) (second key) ∙ ap (λ (h : List ℕ → Option ℕ). least (h key) (rows_number h rows key)) same ∙ sym (number_of_is table rows key)

pub rows_number-append : (f : List ℕ → Option ℕ) (rows more : List (List (List ℕ))) (key : List ℕ) → rows_number f (rows ++ more) key ≡ least (rows_number f rows key) (rows_number f more key)
rows_number-append f [] more key = refl
rows_number-append f (row ∷ rows) more key =
    ap (least (put row key (row_number f row))) (rows_number-append f rows more key)
    ∙ sym (least_least (put row key (row_number f row)) (rows_number f rows key) (rows_number f more key))
