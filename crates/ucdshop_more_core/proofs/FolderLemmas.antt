-- Folders that are read one after another.
-- behind releases verdict  these releases, and behind them those of the verdict; or its refusal
-- ReadSoFar tells holds before releases   what was seen of the folders before, none of which is refused, gives these releases, whatever
--                          folders follow and whatever is seen of them
use Rattle.std.proofs.Common.{◌≡◌, ℕ, suc, zero, ◌+◌, ◌<◌, Bool, IsTrue, List, [], ◌∷◌, ◌++◌, length, map, drop, take, get_or, Option, Some, None, Result, Ok, Err, refl, sym, ap, subst, ◌∙◌, arith, append_assoc, slice_get}
use mathlib.Core.Path.{fun_ext}
use Rattle.std.proofs.Math.Seq.{drop-append_seam}
use Rattle.std.proofs.lemmas.Grind.{flat_map-append}
use Rattle.std.proofs.lemmas.List.{append-nil, drop_more, get_or_append_left, length-append, length-map, map-append, take-append-drop}
use Rattle.ucd_points.specs.SourceFiles.{file_place, file_place_small}
use Rattle.release_rows.specs.Releases.{ReleaseItems, FileItem, SourceFile}
use Rattle.edit_session.specs.Benches.{HasNothingPrepared}
use Rattle.shelf_io.specs.Contents.{SameContents}
use Rattle.run_endings.specs.Endings.{Contents, IsSeen, Seen, Sees}
use Rattle.run_inputs.specs.Held.{source_held}
use Rattle.run_inputs.specs.Paths.{sources_in}
use Rattle.run_inputs.specs.Refusals.{folder_verdict}
use Rattle.run_inputs.specs.Verdict.{and_then, release_items}
use Rattle.ucdshop_more_core.specs.Chaining.{AreChained, AreFine, AreRefused, Follows, IsRefused, OpensAs, folders_paths}
use Rattle.ucdshop_more_core.specs.Run.{folders_verdict}
use Rattle.ucdshop_more_core.specs.declared.chaining.Chained.{Chained}

-- ---- what was seen of a folder, in front of what was seen of others

source_front : (here rest : Seen) (file : SourceFile) → length here ≡ 9 → source_held (here ++ rest) 0 file ≡ source_held here 0 file
source_front here rest file nine = get_or_append_left here rest None (0 + file_place file) (omega (arith, file_place_small file, nine))

folder_first : (folder : List ℕ) (later : List (List ℕ)) (here rest : Seen) → length here ≡ 9
    → folders_verdict (folder ∷ later) (here ++ rest) ≡ and_then (folder_verdict folder (source_held here 0)) (λ files. and_then (folders_verdict later rest) (λ releases. Ok (release_items files ∷ releases)))
folder_first folder later here rest nine =
    let others : drop 9 (here ++ rest) ≡ rest = subst (λ (n : ℕ). drop n (here ++ rest) ≡ rest) nine (drop-append_seam here rest) in
    ap (λ (held : SourceFile → Option (List ℕ)). and_then (folder_verdict folder held) (λ files. and_then (folders_verdict later (drop 9 (here ++ rest))) (λ releases. Ok (release_items files ∷ releases))))
    (fun_ext (λ file. source_front here rest file nine))
    ∙ ap (λ (seen : Seen). and_then (folder_verdict folder (source_held here 0)) (λ files. and_then (folders_verdict later seen) (λ releases. Ok (release_items files ∷ releases)))) others

-- ---- what a shelf holds, which was only read

pub sees_before : (tells : Bool) (holds now : Contents) (paths : List (List ℕ)) (P : Seen → Type 0) → (IsTrue tells → SameContents holds now) → Sees tells now paths P → Sees tells holds paths P
sees_before tells holds now paths P same (seen, is, p) =
    (seen, record { each = is.each; held = λ told. is.held told ∙ ap (λ (h : Contents). map h paths) (fun_ext (same told)) }, p)

seen_both : (tells : Bool) (holds : Contents) (first second : List (List ℕ)) (a b : Seen) → IsSeen tells holds first a → IsSeen tells holds second b → IsSeen tells holds (first ++ second) (a ++ b)
seen_both tells holds first second a b one two = record {
  each = omega (arith, length-append a b, length-append first second, one.each, two.each);
  held = λ told. ap (λ (s : Seen). s ++ b) (one.held told) ∙ ap (λ (s : Seen). map holds first ++ s) (two.held told) ∙ sym (map-append holds first second);
}

seen_rest : (tells : Bool) (holds : Contents) (paths : List (List ℕ)) → IsSeen tells holds paths (map holds paths)
seen_rest tells holds paths = record { each = length-map paths holds; held = λ told. refl }

-- ---- the folders before

abbrev behind : List ReleaseItems → Result (List ReleaseItems) (List ℕ) → Result (List ReleaseItems) (List ℕ)
behind releases verdict = and_then verdict (λ later. Ok (releases ++ later))

pub record ReadSoFar (tells : Bool) (holds : Contents) (before : List (List ℕ)) (releases : List ReleaseItems) : Type 0 where
  pub seen : Seen
  pub is : IsSeen tells holds (folders_paths before) seen
  pub count : length releases ≡ length before
  pub verdict : (more : List (List ℕ)) (rest : Seen) → folders_verdict (before ++ more) (seen ++ rest) ≡ behind releases (folders_verdict more rest)

behind_none : (verdict : Result (List ReleaseItems) (List ℕ)) → verdict ≡ behind [] verdict
behind_none (Ok later) = refl
behind_none (Err line) = refl

behind_more : (releases : List ReleaseItems) (release : ReleaseItems) (verdict : Result (List ReleaseItems) (List ℕ))
    → behind releases (and_then verdict (λ later. Ok (release ∷ later))) ≡ behind (releases ++ release ∷ []) verdict
behind_more releases release (Ok later) = ap (λ (all : List ReleaseItems). Ok all) (sym (append_assoc releases (release ∷ []) later))
behind_more releases release (Err line) = refl

pub nothing_read : (tells : Bool) (holds : Contents) → ReadSoFar tells holds [] []
nothing_read tells holds = record {
  seen = [];
  is = record { each = refl; held = λ told. refl };
  count = refl;
  verdict = λ more rest. behind_none (folders_verdict more rest);
}

pub still_items : (release : ReleaseItems) → HasNothingPrepared release → release_items release.current ≡ release
still_items release still = sym (ap (λ items. record { current = release.current; prepared = items }) still)

paths_with : (before : List (List ℕ)) (folder : List ℕ) → folders_paths before ++ sources_in folder ≡ folders_paths (before ++ folder ∷ [])
paths_with before folder = ap (λ (paths : List (List ℕ)). folders_paths before ++ paths) (sym (append-nil (sources_in folder))) ∙ sym (flat_map-append sources_in before (folder ∷ []))

paths_with_more : (before : List (List ℕ)) (folder : List ℕ) (later : List (List ℕ)) → folders_paths before ++ sources_in folder ++ folders_paths later ≡ folders_paths (before ++ folder ∷ later)
paths_with_more before folder later = append_assoc (folders_paths before) (sources_in folder) (folders_paths later) ∙ sym (flat_map-append sources_in before (folder ∷ later))

module _ (tells : Bool) (holds : Contents) (before : List (List ℕ)) (releases : List ReleaseItems) (far : ReadSoFar tells holds before releases) where
  -- none of the folders before is refused
  pub are_fine : AreFine tells holds before
  are_fine =
      let verdict : folders_verdict (before ++ []) (far.seen ++ []) ≡ Ok (releases ++ []) = far.verdict [] [] in (
        far.seen,
        far.is,
        (
          releases,
          ap (λ (folders : List (List ℕ)). folders_verdict folders far.seen) (sym (append-nil before)) ∙ ap (folders_verdict (before ++ [])) (sym (append-nil far.seen)) ∙ verdict
              ∙ ap (λ (all : List ReleaseItems). Ok all) (append-nil releases),
        ),
      )

  -- all folders are read
  pub are_chained : (folders : List (List ℕ)) → before ≡ folders → (chained : Chained) → Follows chained releases → AreChained tells holds folders chained
  unfolding are_fine
  are_chained folders all chained follows =
      subst (λ (fs : List (List ℕ)). AreChained tells holds fs chained) all (are_fine.0, are_fine.1, (are_fine.2.0, are_fine.2.1, follows))

  module _ (now : Contents) (folder : List ℕ) (same : IsTrue tells → SameContents holds now) where
    with_next : (more : List (List ℕ)) (here rest : Seen) → length here ≡ 9
        → folders_verdict (before ++ folder ∷ more) (far.seen ++ (here ++ rest)) ≡ behind releases (and_then (folder_verdict folder (source_held here 0)) (λ files. and_then (folders_verdict more rest) (λ later. Ok (release_items files ∷ later))))
    with_next more here rest nine = far.verdict (folder ∷ more) (here ++ rest) ∙ ap (behind releases) (folder_first folder more here rest nine)

    -- one more folder, which is not refused
    pub read_next : (bench : ReleaseItems) → HasNothingPrepared bench → OpensAs folder bench tells now → ReadSoFar tells holds (before ++ folder ∷ []) (releases ++ bench ∷ [])
    read_next bench still opened =
        let sees = sees_before tells holds now (sources_in folder) (λ seen. folder_verdict folder (source_held seen 0) ≡ Ok bench.current) same opened in
        let here : Seen = sees.0 in
        record {
          seen = far.seen ++ here;
          is = subst (λ (paths : List (List ℕ)). IsSeen tells holds paths (far.seen ++ here)) (paths_with before folder) (seen_both tells holds (folders_paths before) (sources_in folder) far.seen here far.is sees.1);
          count = omega (arith, far.count, length-append releases (bench ∷ []), length-append before (folder ∷ []));
          verdict = λ more rest.
              ap (λ (folders : List (List ℕ)). folders_verdict folders ((far.seen ++ here) ++ rest)) (append_assoc before (folder ∷ []) more)
              ∙ ap (folders_verdict (before ++ folder ∷ more)) (append_assoc far.seen here rest)
              ∙ with_next more here rest sees.1.each
              ∙ ap (λ (v : Result (List (List FileItem)) (List ℕ)). behind releases (and_then v (λ files. and_then (folders_verdict more rest) (λ later. Ok (release_items files ∷ later))))) sees.2
              ∙ ap (λ (release : ReleaseItems). behind releases (and_then (folders_verdict more rest) (λ later. Ok (release ∷ later)))) (still_items bench still)
              ∙ behind_more releases bench (folders_verdict more rest);
        }

    -- one more folder, which is refused
    pub refused_next : (line : List ℕ) (later : List (List ℕ)) → IsRefused folder line tells now → AreRefused tells holds (before ++ folder ∷ later) line
    refused_next line later refused =
        let sees = sees_before tells holds now (sources_in folder) (λ seen. folder_verdict folder (source_held seen 0) ≡ Err line) same refused in
        let here : Seen = sees.0 in
        let rest : Seen = map holds (folders_paths later) in (
          far.seen ++ (here ++ rest),
          subst (λ (paths : List (List ℕ)). IsSeen tells holds paths (far.seen ++ (here ++ rest)))
              (sym (append_assoc (folders_paths before) (sources_in folder) (folders_paths later)) ∙ paths_with_more before folder later)
              (seen_both tells holds (folders_paths before) (sources_in folder ++ folders_paths later) far.seen (here ++ rest) far.is
              (seen_both tells holds (sources_in folder) (folders_paths later) here rest sees.1 (seen_rest tells holds (folders_paths later)))),
          with_next later here rest sees.1.each
              ∙ ap (λ (v : Result (List (List FileItem)) (List ℕ)). behind releases (and_then v (λ files. and_then (folders_verdict later rest) (λ more. Ok (release_items files ∷ more))))) sees.2,
        )

-- ---- a path among those of the folders

slice_get_left : {A : Type 0} (xs ys : List A) (i : ℕ) (x : A) → slice_get xs i ≡ Some x → slice_get (xs ++ ys) i ≡ Some x
slice_get_left [] ys i x e = absurd cc
slice_get_left (y ∷ xs) ys zero x e = e
slice_get_left (y ∷ xs) ys (suc i) x e = slice_get_left xs ys i x e

slice_get_behind : {A : Type 0} (xs ys : List A) (i : ℕ) → slice_get (xs ++ ys) (length xs + i) ≡ slice_get ys i
slice_get_behind [] ys i = ap (slice_get ys) (omega arith)
slice_get_behind (x ∷ xs) ys i =
    let place : length (x ∷ xs) + i ≡ suc (length xs + i) = omega arith in
    ap (slice_get (x ∷ (xs ++ ys))) place ∙ slice_get_behind xs ys i

-- the folder at a place, between those before and those behind it
pub folders_here : (folders : List (List ℕ)) (at : ℕ) (item folder : List ℕ) → at < length folders → item ≡ get_or folders at item → folder ≡ item → folders ≡ take at folders ++ folder ∷ drop (at + 1) folders
folders_here folders at item folder inside is same =
    sym (take-append-drop at folders)
    ∙ ap (λ (rest : List (List ℕ)). take at folders ++ rest) (drop_more folders at item inside ∙ ap (λ (f : List ℕ). f ∷ drop (at + 1) folders) (sym is ∙ sym same))

pub path_among : (before : List (List ℕ)) (folder : List ℕ) (later : List (List ℕ)) (place : ℕ) (path : List ℕ) → slice_get (sources_in folder) place ≡ Some path
    → slice_get (folders_paths (before ++ folder ∷ later)) (length (folders_paths before) + place) ≡ Some path
path_among before folder later place path here =
    ap (λ (paths : List (List ℕ)). slice_get paths (length (folders_paths before) + place)) (flat_map-append sources_in before (folder ∷ later))
    ∙ slice_get_behind (folders_paths before) (sources_in folder ++ folders_paths later) place
    ∙ slice_get_left (sources_in folder) (folders_paths later) place path here
