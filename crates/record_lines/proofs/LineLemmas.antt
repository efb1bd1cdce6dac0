-- Lines behind the last one.
use Rattle.std.proofs.Common.{◌≡◌, ℕ, suc, ◌+◌, ◌-◌, ◌≤◌, ◌<◌, List, [], ◌∷◌, length, drop, get_or, sym, ap, ◌∙◌, arith, length-drop, Some, slice_get}
use Rattle.std.proofs.Math.Seq.{drop-cons}
use Rattle.std.proofs.lemmas.Option.{slice_get-get_or, slice_get_past}
use Rattle.ucd_points.specs.declared.files.SourceFile.{SourceFile}
use Rattle.record_lines.specs.FileLines.{line_text, numbered_line}

pub none_behind : (file : SourceFile) (lines : List (List ℕ)) (n : ℕ) → length lines ≤ n → numbered_line file lines (n + 1) ≡ []
none_behind file lines n h = ap (line_text file (n + 1)) (slice_get_past lines (n + 1 - 1) (omega arith))

-- what stands behind n others is the one at n, and what stands behind n + 1
pub next_drop : {A : Type 0} (n : ℕ) (xs ys : List A) (x : A) → drop n xs ≡ x ∷ ys → (drop (n + 1) xs ≡ ys) × (slice_get xs n ≡ Some x)
next_drop n xs ys x is =
    let size = length-drop n xs in
    let more : length (drop n xs) ≡ suc (length ys) = ap length is in
    let lt : n < length xs = omega (arith, size, more) in
    let cut : get_or xs n x ∷ drop (suc n) xs ≡ x ∷ ys = sym (drop-cons xs n x lt) ∙ is in
    let here : get_or xs n x ≡ x = cc in
    let behind : drop (suc n) xs ≡ ys = cc in
    let one : n + 1 ≡ suc n = omega arith in
    (ap (λ k. drop k xs) one ∙ behind, slice_get-get_or xs n x lt ∙ ap Some here)
