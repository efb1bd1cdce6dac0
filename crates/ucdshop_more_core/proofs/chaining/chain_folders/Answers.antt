use Rattle.std.proofs.Common.{◌≡◌, ℕ, ◌+◌, ◌++◌, ◌∷◌, [], List, take, drop, refl, ap, subst, sym, ◌∙◌, arith}
use Rattle.std.proofs.lemmas.List.{take_all, take_more}
use Rattle.std.proofs.lemmas.Result.{err_from_is_err_and}
use Rattle.release_rows.specs.Releases.{ReleaseItems}
use Rattle.ucdshop_more_core.specs.Chaining.{OpensAs}
use Rattle.ucdshop_more_core.proofs.FolderLemmas.{ReadSoFar, are_chained, folders_here, nothing_read, read_next}
use Rattle.ucdshop_more_core.proofs.StoppingLemmas.{only_then, stays_then, stops_in_order, stops_refused, stops_unread}
use Rattle.ucdshop_more_core.proofs.chaining.chain_folders.Goals as goal

pub folders-init : goal.folders-init
folders-init g c = record {
  far = ([], nothing_read g.S.Shelf.tells (g.S.Shelf.holds c.args.shelf.now), c.requires.none);
  only = record { held_stays = λ tells path. refl; read_faults_never_fall = omega arith; write_faults_stay = refl };
  failed = λ tells. refl;
}

pub folders-preserved : goal.folders-preserved
folders-preserved g c =
    let shelf = g.S.Shelf in
    let folders : List (List ℕ) = c.args.folders.now in
    let at : ℕ = c.folders.folder-index in
    let folder : List ℕ = c.folder-item.result in
    let bench : ReleaseItems = c.in_ok-bench.bench in
    let far = c.folders.invariant.far in
    let more : take (at + 1) folders ≡ take at folders ++ folder ∷ [] = take_more folders at folder (omega arith) ∙ ap (λ (f : List ℕ). take at folders ++ f ∷ []) (sym c.folder-item.is) in
    record {
      far = (
        far.0 ++ bench ∷ [],
        subst (λ (before : List (List ℕ)). ReadSoFar shelf.tells (shelf.holds c.args.shelf.now) before (far.0 ++ bench ∷ [])) (sym more)
            (read_next shelf.tells (shelf.holds c.args.shelf.now) (take at folders) far.0 far.1 (shelf.holds c.folders.shelf) folder c.folders.invariant.only.held_stays bench c.in_ok-bench.ensures.still
            (subst (λ (f : List ℕ). OpensAs f bench shelf.tells (shelf.holds c.folders.shelf)) c.as_slice.ensures c.in_ok-bench.ensures.opened)),
        c.in_ok-add.ensures.follows far.0 far.2,
      );
      only = only_then shelf c.args.shelf.now c.folders.shelf c.read_folder.new.shelf c.folders.invariant.only c.in_ok-bench.ensures.only_read;
      failed = stays_then shelf c.args.shelf.now c.folders.shelf c.read_folder.new.shelf c.folders.invariant.failed c.in_ok-bench.ensures.unread;
    }

pub returns-clause-chained : goal.returns-clause-chained
returns-clause-chained g c =
    let shelf = g.S.Shelf in
    let far = c.folders.invariant.far in
    are_chained shelf.tells (shelf.holds c.args.shelf.now) (take c.folders.folder-index c.args.folders.now) far.0 far.1 c.args.folders.now (take_all c.folders.folder-index c.args.folders.now (omega arith)) c.folders.chained far.2

pub returns-in_err-bench-clause-refused : goal.returns-in_err-bench-clause-refused
returns-in_err-bench-clause-refused g c =
    let folders : List (List ℕ) = c.args.folders.now in
    let at : ℕ = c.folders.folder-index in
    let far = c.folders.invariant.far in
    let p = err_from_is_err_and c.from_residual.result c.from_residual.ensures.1 in
    rw (p.1, p.2) (stops_refused g.S.Shelf c.args.shelf.now c.folders.shelf c.read_folder.new.shelf folders (take at folders) c.as_slice.result.now (drop (at + 1) folders)
    (folders_here folders at c.folder-item.result c.as_slice.result.now (omega arith) c.folder-item.is c.as_slice.ensures) far.0 far.1 c.folders.invariant.only c.folders.invariant.failed
    _ c.in_err-bench.ensures.refused)

pub returns-in_err-bench-clause-unread : goal.returns-in_err-bench-clause-unread
returns-in_err-bench-clause-unread g c =
    let folders : List (List ℕ) = c.args.folders.now in
    let at : ℕ = c.folders.folder-index in
    let far = c.folders.invariant.far in
    let p = err_from_is_err_and c.from_residual.result c.from_residual.ensures.1 in
    rw (p.1, p.2) (stops_unread g.S.Shelf c.args.shelf.now c.folders.shelf c.read_folder.new.shelf folders (take at folders) c.as_slice.result.now (drop (at + 1) folders)
    (folders_here folders at c.folder-item.result c.as_slice.result.now (omega arith) c.folder-item.is c.as_slice.ensures) far.0 far.1 c.folders.invariant.only c.folders.invariant.failed
    _ c.in_err-bench.ensures.unread)

pub returns-in_err-bench-clause-in_order : goal.returns-in_err-bench-clause-in_order
returns-in_err-bench-clause-in_order g c =
    let folders : List (List ℕ) = c.args.folders.now in
    let at : ℕ = c.folders.folder-index in
    let far = c.folders.invariant.far in
    let p = err_from_is_err_and c.from_residual.result c.from_residual.ensures.1 in
    rw (p.1, p.2) (stops_in_order g.S.Shelf c.args.shelf.now c.folders.shelf c.read_folder.new.shelf folders (take at folders) c.as_slice.result.now (drop (at + 1) folders)
    (folders_here folders at c.folder-item.result c.as_slice.result.now (omega arith) c.folder-item.is c.as_slice.ensures) far.0 far.1 c.folders.invariant.only c.folders.invariant.failed
    _ c.in_err-bench.ensures.unread)
