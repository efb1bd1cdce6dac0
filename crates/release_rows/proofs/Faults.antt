-- A file's first fault.
use Rattle.std.proofs.Common.{◌≡◌, List, [], ◌∷◌, ◌++◌, map, Option, Some, None, Ok, Err, refl, sym, ap, ◌∙◌, append_assoc, append-nil}
use Rattle.ucd_points.specs.Lines.{items_of}
use Rattle.release_rows.specs.Pieces.{Lines, pieces}
use Rattle.release_rows.specs.FileItems.{FileItem, SourceFile}
use Rattle.release_rows.specs.Loading.{LoadFault, file_item, piece_fault, first_fault, unless_fault, file_or_fault}
use Rattle.release_rows.specs.Laws.{NoFaultBelow, FirstFaultBelow, FaultsAreFirst, LoadsExactly}
use Rattle.release_rows.proofs.Kept.{later_by, ok_by}

-- below the items above and one more
shifted : (file : SourceFile) (above : List FileItem) (x p : Lines) (front : List Lines) (o : Option LoadFault) → piece_fault file ((above ++ file_item file x ∷ []) ++ map (file_item file) front) p ≡ o → piece_fault file (above ++ map (file_item file) (x ∷ front)) p ≡ o
shifted file above x p front o h = ap (λ (is : List FileItem). piece_fault file is p) (sym (append_assoc above (file_item file x ∷ []) (map (file_item file) front))) ∙ h

unshifted : (file : SourceFile) (above : List FileItem) (x p : Lines) (front : List Lines) (o : Option LoadFault) → piece_fault file (above ++ map (file_item file) (x ∷ front)) p ≡ o → piece_fault file ((above ++ file_item file x ∷ []) ++ map (file_item file) front) p ≡ o
unshifted file above x p front o h = ap (λ (is : List FileItem). piece_fault file is p) (append_assoc above (file_item file x ∷ []) (map (file_item file) front)) ∙ h

at_head : (file : SourceFile) (above : List FileItem) (p : Lines) (o : Option LoadFault) → piece_fault file above p ≡ o → piece_fault file (above ++ []) p ≡ o
at_head file above p o h = ap (λ (is : List FileItem). piece_fault file is p) (append-nil above) ∙ h

from_head : (file : SourceFile) (above : List FileItem) (p : Lines) (o : Option LoadFault) → piece_fault file (above ++ []) p ≡ o → piece_fault file above p ≡ o
from_head file above p o h = ap (λ (is : List FileItem). piece_fault file is p) (sym (append-nil above)) ∙ h

none_at : (file : SourceFile) (above : List FileItem) (front : List Lines) (p : Lines) (rest : List Lines) → first_fault file above (front ++ p ∷ rest) ≡ None → piece_fault file (above ++ map (file_item file) front) p ≡ None
none_at file above [] p rest h = at_head file above p None (later_by file above p rest (piece_fault file above p) refl h).0
none_at file above (x ∷ front) p rest h = shifted file above x p front None (none_at file (above ++ file_item file x ∷ []) front p rest (later_by file above x (front ++ p ∷ rest) (piece_fault file above x) refl h).1)

all_none : (file : SourceFile) (above : List FileItem) (ps : List Lines) → first_fault file above ps ≡ None → NoFaultBelow file above ps
all_none file above ps h front p rest cut = none_at file above front p rest (ap (first_fault file above) (sym cut) ∙ h)

rest_none : (file : SourceFile) (above : List FileItem) (x : Lines) (ps : List Lines) → NoFaultBelow file above (x ∷ ps) → NoFaultBelow file (above ++ file_item file x ∷ []) ps
rest_none file above x ps h front p rest cut = unshifted file above x p front None (h (x ∷ front) p rest (ap (λ (qs : List Lines). x ∷ qs) cut))

none_from : (file : SourceFile) (above : List FileItem) (ps : List Lines) → NoFaultBelow file above ps → first_fault file above ps ≡ None
none_from file above [] h = refl
none_from file above (x ∷ ps) h = rw (from_head file above x None (h [] x ps refl)) (none_from file (above ++ file_item file x ∷ []) ps (rest_none file above x ps h))

-- ---- the first one

nothing_above : (file : SourceFile) (above : List FileItem) → NoFaultBelow file above []
nothing_above file above [] p rest cut = absurd cc
nothing_above file above (x ∷ front) p rest cut = absurd cc

onto_none : (file : SourceFile) (above : List FileItem) (x : Lines) (ps : List Lines) → piece_fault file above x ≡ None → NoFaultBelow file (above ++ file_item file x ∷ []) ps → NoFaultBelow file above (x ∷ ps)
onto_none file above x ps one h = all_none file above (x ∷ ps) (rw one (none_from file (above ++ file_item file x ∷ []) ps h))

first_step : (file : SourceFile) (above : List FileItem) (x : Lines) (ps : List Lines) (f : LoadFault) (o : Option LoadFault) → piece_fault file above x ≡ o → (first_fault file (above ++ file_item file x ∷ []) ps ≡ Some f → FirstFaultBelow file (above ++ file_item file x ∷ []) ps f) → first_fault file above (x ∷ ps) ≡ Some f → FirstFaultBelow file above (x ∷ ps) f
first_step file above x ps f (Some g) e later h =
    let same : Some g ≡ Some f = (rw e at h) in
    record { front = []; piece = x; rest = ps; cut = refl; none_before = nothing_above file above; fault = at_head file above x (Some f) (e ∙ same) }
first_step file above x ps f None e later h =
    let l = later (rw e at h) in
    record { front = x ∷ l.front; piece = l.piece; rest = l.rest; cut = ap (λ (qs : List Lines). x ∷ qs) l.cut; none_before = onto_none file above x l.front e l.none_before; fault = shifted file above x l.piece l.front (Some f) l.fault }

first_is : (file : SourceFile) (above : List FileItem) (ps : List Lines) (f : LoadFault) → first_fault file above ps ≡ Some f → FirstFaultBelow file above ps f
first_is file above [] f h = absurd cc
first_is file above (x ∷ ps) f h = first_step file above x ps f (piece_fault file above x) refl (λ k. first_is file (above ++ file_item file x ∷ []) ps f k) h

first_at : (file : SourceFile) (above : List FileItem) (front : List Lines) (p : Lines) (rest : List Lines) (f : LoadFault) → NoFaultBelow file above front → piece_fault file (above ++ map (file_item file) front) p ≡ Some f → first_fault file above (front ++ p ∷ rest) ≡ Some f
first_at file above [] p rest f none h = rw (from_head file above p (Some f) h) refl
first_at file above (x ∷ front) p rest f none h = rw (from_head file above x None (none [] x front refl)) (first_at file (above ++ file_item file x ∷ []) front p rest f (rest_none file above x front none) (unshifted file above x p front (Some f) h))

err_by : (o : Option LoadFault) (all : List FileItem) (f : LoadFault) → unless_fault o all ≡ Err f → o ≡ Some f
err_by None all f h = absurd cc
err_by (Some g) all f h = cc

pub faults_are_first : FaultsAreFirst
unfolding file_or_fault
faults_are_first file bytes f =
    let ps = pieces file (items_of bytes) in (
      λ h. first_is file [] ps f (err_by (first_fault file [] ps) (map (file_item file) ps) f h),
      λ r. let first : first_fault file [] ps ≡ Some f = ap (first_fault file []) r.cut ∙ first_at file [] r.front r.piece r.rest f r.none_before r.fault in ap (λ (o : Option LoadFault). unless_fault o (map (file_item file) ps)) first,
    )

pub loads_exactly : LoadsExactly
unfolding file_or_fault
loads_exactly file bytes items =
    let ps = pieces file (items_of bytes) in (
      λ h. let parts = ok_by (first_fault file [] ps) items (map (file_item file) ps) h in (all_none file [] ps parts.0, parts.1),
      λ r. ap (λ (o : Option LoadFault). unless_fault o (map (file_item file) ps)) (none_from file [] ps r.0) ∙ ap (λ (is : List FileItem). Ok is) r.1,
    )
