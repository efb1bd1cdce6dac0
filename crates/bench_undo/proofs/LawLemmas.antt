-- The laws of histories.
use Rattle.std.proofs.Common.{◌≡◌, ℕ, suc, ◌-◌, not, List, [], ◌∷◌, take, sym, ap, ◌∙◌, arith}
use Rattle.std.specs.List.{range_with_len}
use Rattle.std.proofs.lemmas.Bool.Decides.{Decides-like, same_from_decides}
use Rattle.std.proofs.lemmas.List.Elements.{filter_agree}
use Rattle.ucd_points.specs.Limits.{point_count}
use Rattle.ucd_model.specs.Records.{Record, record_at}
use Rattle.ucd_model.specs.Sameness.{RecordsAreTold, same_record}
use Rattle.release_rows.specs.FileItems.{FileItem}
use Rattle.bench_undo.specs.Histories.{HistoryState, accepted, back_to, gone_back}
use Rattle.bench_undo.specs.Laws.{SamePointsChange, UndoRestores}

back_taken : (h : HistoryState) (depth n : ℕ) (files : List (List FileItem)) (earlier : List (List (List FileItem))) → depth ≡ suc n → back_to h (take depth (files ∷ earlier)) ≡ gone_back h files (take n earlier)
back_taken h depth n files earlier e = ap (λ k. back_to h (take k (files ∷ earlier))) e

pub undo_restores : UndoRestores
undo_restores h files some = back_taken (accepted h files) h.depth (h.depth - 1) h.files h.earlier (omega (arith, some))

same_both_ways : RecordsAreTold → (R S : Record) → same_record R S ≡ same_record S R
same_both_ways told R S = same_from_decides (same_record R S) (same_record S R) (told R S) (Decides-like (same_record S R) sym sym (told S R))

pub same_points_change : RecordsAreTold → SamePointsChange
same_points_change told F G =
    filter_agree (λ c. not (same_record (record_at F c) (record_at G c))) (λ c. not (same_record (record_at G c) (record_at F c))) (λ c. ap not (same_both_ways told (record_at F c) (record_at G c))) (range_with_len 0 point_count)
