-- Loading the source files one after the other.
use Rattle.std.proofs.Common.{◌≡◌, ◌≢◌, ℕ, ◌+◌, ◌<◌, ◌≤◌, List, [], ◌∷◌, length, drop, map, Option, Some, None, Result, Ok, Err, refl, sym, ap, subst, ◌∙◌, arith, inl, inr}
use Rattle.std.proofs.lemmas.Bool.{cases_lt}
use Rattle.std.proofs.lemmas.List.{drop_more}
use Rattle.ucd_points.specs.SourceFiles.{source_files, file_place, file_at, file_place_small, file_at-place, file_place-at}
use Rattle.ucd_points.specs.declared.files.SourceFile.TheVariants.{UnicodeData}
use Rattle.release_rows.specs.Releases.{ReleaseItems, items_at, items_now, FileItem, SourceFile}
use Rattle.edit_session.specs.Benches.{HasNothingPrepared}
use Rattle.run_endings.specs.Endings.{Seen}
use Rattle.run_inputs.specs.Held.{StayOutside, held_at, source_held}
use Rattle.run_inputs.specs.Judging.{JudgedAs, Loads, LoadsFile}
use Rattle.run_inputs.specs.Verdict.{and_then, all_items}
use Rattle.run_inputs.specs.declared.refusal.FolderRefusal.{FolderRefusal}
use Rattle.run_inputs.specs.declared.refusal.FolderStop.{FolderStop}
use Rattle.run_inputs.specs.declared.refusal.FolderStop.TheVariants.{Refused, Memory}

abbrev Verdict : Type 0
Verdict = SourceFile → Result (List FileItem) FolderRefusal

-- the refusal, where there is one
abbrev pub refusal_in : Result (List (List FileItem)) FolderRefusal → Option FolderRefusal
refusal_in (Ok lists) = None
refusal_in (Err refusal) = Some refusal

refusal_is : (result : Result (List (List FileItem)) FolderRefusal) (refusal : FolderRefusal) → refusal_in result ≡ Some refusal → result ≡ Err refusal
refusal_is (Ok lists) refusal e = absurd cc
refusal_is (Err other) refusal e = cc

passes : (items : List FileItem) (rest : Result (List (List FileItem)) FolderRefusal) → refusal_in (and_then rest (λ lists. Ok (items ∷ lists))) ≡ refusal_in rest
passes items (Ok lists) = refl
passes items (Err refusal) = refl

all_ok : (v : Verdict) (g : SourceFile → List FileItem) (files : List SourceFile) → ((file : SourceFile) → v file ≡ Ok (g file)) → all_items v files ≡ Ok (map g files)
all_ok v g [] each = refl
all_ok v g (file ∷ files) each = rw (each file, all_ok v g files each) refl

-- nine lists are those of the nine files
nine_lists : (lists : List (List FileItem)) → length lists ≡ 9 → map (items_at lists) source_files ≡ lists
nine_lists (a ∷ b ∷ c ∷ d ∷ e ∷ f ∷ g ∷ h ∷ i ∷ []) nine = refl
nine_lists _ nine = absurd (omega arith)

-- files before a place are loaded as their verdict says, and those from it on have no items
pub record IsLoadedTo (v : SourceFile → Result (List FileItem) FolderRefusal) (at : ℕ) (release : ReleaseItems) : Type 0 where
  pub items : (file : SourceFile) → file_place file < at → v file ≡ Ok (items_now release file)
  pub empty : (file : SourceFile) → at ≤ file_place file → items_now release file ≡ []
  pub later : refusal_in (all_items v source_files) ≡ refusal_in (all_items v (drop at source_files))
  pub nine : length release.current ≡ 9
  pub still : HasNothingPrepared release

pub loaded_to_next : (v : Verdict) (at : ℕ) (old new : ReleaseItems) → at < 9 → IsLoadedTo v at old → Loads (file_at at) (v (file_at at)) old new → IsLoadedTo v (at + 1) new
loaded_to_next v at old new lt loaded loads =
    let differs : (file : SourceFile) → file_place file ≢ at → file ≢ file_at at = λ file apart same. apart (ap file_place same ∙ file_place-at at lt) in
    record {
      items = λ file below. elim (cases_lt (file_place file) at) [
        | inl before ↦ loaded.items file before ∙ ap (λ (items : List FileItem). Ok items) (sym (loads.others file (differs file (λ same. absurd (omega arith)))))
        | inr not_before ↦
            let same_place : file_place file ≡ at = omega arith in
            let same : file_at at ≡ file = ap file_at (sym same_place) ∙ file_at-place file in
            subst (λ (f : SourceFile). v f ≡ Ok (items_now new f)) same loads.items
      ];
      empty = λ file above. loads.others file (differs file (λ same. absurd (omega arith))) ∙ loaded.empty file (omega arith);
      later = loaded.later ∙ ap (λ (files : List SourceFile). refusal_in (all_items v files)) (drop_more source_files at UnicodeData (omega arith))
          ∙ ap (λ (r : Result (List FileItem) FolderRefusal). refusal_in (and_then r (λ items. and_then (all_items v (drop (at + 1) source_files)) (λ lists. Ok (items ∷ lists))))) loads.items
          ∙ passes (items_now new (file_at at)) (all_items v (drop (at + 1) source_files));
      nine = loads.files ∙ loaded.nine;
      still = loads.still loaded.still;
    }

pub all_loaded : (v : Verdict) (release : ReleaseItems) → IsLoadedTo v 9 release → all_items v source_files ≡ Ok release.current
all_loaded v release loaded =
    all_ok v (items_now release) source_files (λ file. loaded.items file (file_place_small file))
    ∙ ap (λ (lists : List (List FileItem)). Ok lists) (nine_lists release.current loaded.nine)

first_refused : (v : Verdict) (at : ℕ) (release : ReleaseItems) (refusal : FolderRefusal) → at < 9 → IsLoadedTo v at release → v (file_at at) ≡ Err refusal → all_items v source_files ≡ Err refusal
first_refused v at release refusal lt loaded here =
    refusal_is (all_items v source_files) refusal
    (loaded.later ∙ ap (λ (files : List SourceFile). refusal_in (all_items v files)) (drop_more source_files at UnicodeData (omega arith))
    ∙ ap (λ (r : Result (List FileItem) FolderRefusal). refusal_in (and_then r (λ items. and_then (all_items v (drop (at + 1) source_files)) (λ lists. Ok (items ∷ lists))))) here)

-- a file that is not loaded, of which this is held, stops the whole
pub stopped_at : (v : SourceFile → Option (List ℕ) → Result (List FileItem) FolderRefusal) (held : SourceFile → Option (List ℕ)) (here : Option (List ℕ)) (at : ℕ) (release new : ReleaseItems) (stop : FolderStop)
    → at < 9 → here ≡ held (file_at at) → IsLoadedTo (λ file. v file (held file)) at release → LoadsFile (Err stop) (v (file_at at) here) (file_at at) release new
    → JudgedAs {A = ReleaseItems} (λ r. r.current) (Err stop) (all_items (λ file. v file (held file)) source_files)
stopped_at v held here at release new (Refused refusal) lt is loaded h =
    first_refused (λ file. v file (held file)) at release refusal lt loaded (ap (v (file_at at)) (sym is) ∙ h)
stopped_at v held here at release new Memory lt is loaded h = tt

-- ---- texts that move

-- files from a place on are held as they were, and so is all that is not of this folder
pub record MovesTo (old new : Seen) (first at : ℕ) : Type 0 where
  pub ahead : (file : SourceFile) → at ≤ file_place file → source_held new first file ≡ source_held old first file
  pub others : StayOutside first old new

pub moves_on : (old now new : Seen) (first at : ℕ) → at < 9 → MovesTo old now first at → ((k : ℕ) → k ≢ first + file_place (file_at at) → held_at new k ≡ held_at now k)
    → MovesTo old new first (at + 1)
moves_on old now new first at lt before step =
    let here : file_place (file_at at) ≡ at = file_place-at at lt in
    record {
      ahead = λ file above. step (first + file_place file) (λ same. absurd (omega (arith, here, same))) ∙ before.ahead file (omega arith);
      others = record {
        before = λ k low. step k (λ same. absurd (omega (arith, here, same))) ∙ before.others.before k low;
        behind = λ k high. step k (λ same. absurd (omega (arith, here, same))) ∙ before.others.behind k high;
      };
    }
