-- The folder of a path, as a search for its last slash finds it.
use Rattle.std.proofs.Common.{◌≡◌, ◌≢◌, ℕ, zero, suc, ◌+◌, ◌-◌, ◌<◌, List, length, get_or, take, drop, Option, None, Some, refl, sym, ap, ◌∙◌, arith, ⊎_elim, eq-eqb, ne_eqb, get_or-drop, length-drop, option_map}
use Rattle.std.specs.Str.Pattern.{RFindsChar}
use Rattle.std.specs.Path.{slash, rfind_below, rsplit_once}
use Rattle.std.proofs.lemmas.Bool.{cases_eq, cond-true, cond-false}
use Rattle.std.proofs.lemmas.Str.{len_utf8_ascii}
use Rattle.std.proofs.lemmas.Str.Pattern.{NoCharPasses-char}
use Rattle.shelf_io.specs.Systems.{folder_of}

rfind_below-None : (c : ℕ) (text : List ℕ) (n : ℕ) → ((i : ℕ) → i < n → get_or text i 0 ≢ c) → rfind_below c text n ≡ None
rfind_below-None c text zero h = refl
rfind_below-None c text (suc n) h = cond-false _ _ _ (ne_eqb _ c (h n (omega arith))) ∙ rfind_below-None c text n (λ i l. h i (omega arith))

rfind_below-Some : (c : ℕ) (text : List ℕ) (k n : ℕ) → k < n → get_or text k 0 ≡ c → ((i : ℕ) → k < i → i < n → get_or text i 0 ≢ c) → rfind_below c text n ≡ Some k
rfind_below-Some c text k zero l at h = absurd (omega arith)
rfind_below-Some c text k (suc n) l at h =
    ⊎_elim
    (λ e. cond-true _ _ _ (eq-eqb _ c (ap (λ j. get_or text j 0) (sym e) ∙ at)) ∙ ap (λ j. Some j) (sym e))
    (λ other. cond-false _ _ _ (ne_eqb _ c (h n (omega arith) (omega arith))) ∙ rfind_below-Some c text k n (omega arith) at (λ i a b. h i a (omega arith)))
    (cases_eq k n)

-- the folder of a path whose last slash stands at this place, if it has one
folder_of-is : (path : List ℕ) (last : Option ℕ) → rfind_below slash path (length path) ≡ last → folder_of path ≡ option_map (λ i. take i path) last
unfolding rsplit_once
folder_of-is path None e = rw e refl
folder_of-is path (Some i) e = rw e refl

-- a path without a slash has no folder
pub folder_of-None : (path : List ℕ) → RFindsChar slash path None → folder_of path ≡ None
folder_of-None path h = folder_of-is path None (rfind_below-None slash path (length path) (λ i l. NoCharPasses-char slash path i h (omega arith) l))

-- the folder of a path whose last slash stands at i, with so many bytes behind it
pub folder_of-Some : (path : List ℕ) (i j behind : ℕ) → RFindsChar slash path (Some (i, j)) → behind + j ≡ length path → folder_of path ≡ Some (take i path)
folder_of-Some path i j behind h inside =
    let next : j ≡ i + 1 = omega (arith, h.1.ends, len_utf8_ascii slash (omega arith)) in
    let later : (k : ℕ) → i < k → k < length path → get_or path k 0 ≢ slash = λ k a l e.
    let back : j + (k - j) ≡ k = omega arith in
    NoCharPasses-char slash (drop j path) (k - j) h.0 (omega arith) (omega (arith, length-drop j path)) (get_or-drop j path (k - j) 0 ∙ ap (λ n. get_or path n 0) back ∙ e) in
    folder_of-is path (Some i) (rfind_below-Some slash path i (length path) (omega arith) (h.1.byte (omega arith)) later)
