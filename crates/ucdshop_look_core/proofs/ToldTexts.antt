-- What is told of code points, put together.
use Rattle.std.proofs.Common.{◌≡◌, ◌≤◌, ℕ, List, [], ◌∷◌, ◌++◌, length, map, take, drop, refl, ap, ◌∙◌, append-nil, arith, flat_map}
use Rattle.std.proofs.lemmas.List.{drop_all, take_all}
use Rattle.release_rows.specs.FileItems.{FileItem}
use Rattle.record_lines.specs.PointTexts.{with_more}
use Rattle.record_lines.specs.RowLines.{rows_text}
use Rattle.record_lines.specs.declared.point_text.PointText.{PointText}
use Rattle.ucdshop_look_core.specs.Shown.{record_told, shown}

-- records with rows behind them are what `show` tells
pub all_told : (files : List (List FileItem)) (points : List ℕ) → flat_map (λ (one : PointText). one.text) (map (with_more (rows_text files)) (map (record_told files) points)) ≡ flat_map (shown files) points
all_told files [] = refl
all_told files (c ∷ cs) = ap (λ xs. shown files c ++ xs) (all_told files cs)

-- a list that was lent as a slice has what stands in the slice
pub written_back : {A : Type 0} (n : ℕ) (xs ys : List A) → length xs ≡ n → length ys ≡ length xs → take n (ys ++ drop (length ys) xs) ≡ ys
written_back n xs ys len same =
    ap (λ zs. take n (ys ++ zs)) (drop_all (length ys) xs (omega (arith, same))) ∙ ap (take n) (append-nil ys) ∙ take_all n ys (omega (arith, same, len))
