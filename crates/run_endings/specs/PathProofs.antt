-- Files whose paths differ do not take the place of one another.
-- others_of path paths    none of the paths is this one
-- all_apart paths         no two of the paths are the same
-- paths_of files          the paths of files, in order
use Rattle.std.proofs.Common.{◌≡◌, ◌≢◌, ℕ, Bool, true, false, cond, not, ◌&&◌, List, [], ◌∷◌, map, All, Some, refl, ap, ◌∙◌, bytes_eq}
use Rattle.std.specs.List.{list_all}
use Rattle.std.proofs.lemmas.Bool.{and_parts, and_from, eq-eqb, not-true, not_from_false, false_from_ne_true}
use Rattle.std.proofs.lemmas.List.Elements.{All-nil, All-cons, All-head, All-tail}
use Rattle.std.proofs.lemmas.Slice.Eq.{bytes_eq-Decides}
use Rattle.run_endings.specs.Paths.{path_in}
use Rattle.run_endings.specs.Endings.{Contents, NewFile, put, after}

abbrev pub others_of : List ℕ → List (List ℕ) → Bool
others_of path paths = list_all (λ other. not (bytes_eq other path)) paths

abbrev pub all_apart : List (List ℕ) → Bool
all_apart [] = true
all_apart (path ∷ paths) = others_of path paths && all_apart paths

abbrev pub paths_of : List NewFile → List (List ℕ)
paths_of files = map (λ (file : NewFile). file.path) files

-- ---- below one folder

below_one : (folder a b : List ℕ) → bytes_eq (path_in folder a) (path_in folder b) ≡ bytes_eq a b
below_one [] a b = refl
below_one (x ∷ folder) a b =
    ap (λ (same : Bool). same && bytes_eq (path_in folder a) (path_in folder b)) (eq-eqb x x refl) ∙ below_one folder a b

others_below : (folder path : List ℕ) (names : List (List ℕ)) → others_of (path_in folder path) (map (path_in folder) names) ≡ others_of path names
others_below folder path [] = refl
others_below folder path (name ∷ names) = rw (below_one folder name path) (rw (others_below folder path names) refl)

pub apart_below : (folder : List ℕ) (names : List (List ℕ)) → all_apart (map (path_in folder) names) ≡ all_apart names
apart_below folder [] = refl
apart_below folder (name ∷ names) = rw (others_below folder name names) (rw (apart_below folder names) refl)

-- ---- files that are put one after the other

pub put_others : (files : List NewFile) (holds : Contents) (path : List ℕ) → others_of path (paths_of files) ≡ true → after files holds path ≡ holds path
put_others [] holds path apart = refl
put_others (file ∷ files) holds path apart =
    let parts = and_parts (not (bytes_eq file.path path)) (others_of path (paths_of files)) apart in
    let other : bytes_eq file.path path ≡ false = not-true (bytes_eq file.path path) parts.0 in
    put_others files (put file holds) path parts.1 ∙ ap (λ (b : Bool). cond b (Some file.bytes) (holds path)) other

pub put_own : (files : List NewFile) (holds : Contents) → all_apart (paths_of files) ≡ true → All (λ (file : NewFile). after files holds file.path ≡ Some file.bytes) files
put_own [] holds apart = All-nil (λ (file : NewFile). after [] holds file.path ≡ Some file.bytes)
put_own (file ∷ files) holds apart =
    let parts = and_parts (others_of file.path (paths_of files)) (all_apart (paths_of files)) apart in
    let here : put file holds file.path ≡ Some file.bytes = ap (λ (b : Bool). cond b (Some file.bytes) (holds file.path)) ((bytes_eq-Decides file.path file.path).1 refl) in
    All-cons (λ (f : NewFile). after (file ∷ files) holds f.path ≡ Some f.bytes) file files
    (put_others files (put file holds) file.path parts.0 ∙ here)
    (put_own files (put file holds) parts.1)

pub others_from : (path : List ℕ) (paths : List (List ℕ)) → All (λ (output : List ℕ). output ≢ path) paths → others_of path paths ≡ true
others_from path [] all = refl
others_from path (p ∷ paths) all =
    let differs : p ≢ path = All-head (λ (output : List ℕ). output ≢ path) p paths all in
    and_from (not (bytes_eq p path)) (others_of path paths)
    (not_from_false (bytes_eq p path) (false_from_ne_true (bytes_eq p path) (λ same. differs ((bytes_eq-Decides p path).0 same))))
    (others_from path paths (All-tail (λ (output : List ℕ). output ≢ path) p paths all))
