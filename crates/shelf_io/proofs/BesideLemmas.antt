-- Names beside others.
use Rattle.std.proofs.Common.{◌≡◌, ◌≢◌, ℕ, ◌-◌, Bool, true, false, List, length, ◌++◌, sym, ap, ◌∙◌, arith, codes, refl, true≢false, length-append}
use Rattle.std.proofs.Math.Seq.{drop-append_seam}
use Rattle.shelf_io.specs.Systems.{Entry, files_of}
use Rattle.shelf_io.specs.Contents.{OnlyPath}
use Rattle.shelf_io.specs.Beside.{beside, is_beside, shown_of, OnlyBoth}

-- a name beside a path ends as such names do
pub is_beside-beside : (path : List ℕ) → is_beside (beside path) ≡ true
is_beside-beside path =
    let end : List ℕ = codes ".ucdshop-new" in
    let at : length (path ++ end) - length end ≡ length path = omega (arith, length-append path end) in
    rw (at, drop-append_seam path end) refl

-- what a shelf shows at another path, where files change at this one and beside it alone
shown_same : (path : List ℕ) (old new : List ℕ → Entry) → OnlyBoth path (files_of old) (files_of new)
    → (q : List ℕ) → q ≢ path → (b : Bool) → is_beside q ≡ b → shown_of new q ≡ shown_of old q
shown_same path old new h q ne true e = rw e refl
shown_same path old new h q ne false e =
    rw e (h q ne (λ same. true≢false (sym (is_beside-beside path) ∙ ap is_beside (sym same) ∙ e)))

-- so what it shows changes at this path alone
pub shown-OnlyPath : (path : List ℕ) (old new : List ℕ → Entry) → OnlyBoth path (files_of old) (files_of new) → OnlyPath path (shown_of old) (shown_of new)
shown-OnlyPath path old new h q ne = shown_same path old new h q ne (is_beside q) refl
