use Rattle.std.proofs.Common.{◌≡◌, ℕ, List, Option, subst, arith}
use Rattle.std.proofs.lemmas.Result.{err_from_is_err_and}
use Rattle.ucd_points.specs.SourceFiles.{file_at, file_place-at}
use Rattle.ucd_points.specs.declared.files.SourceFile.{SourceFile}
use Rattle.run_inputs.specs.Held.{source_held}
use Rattle.run_inputs.specs.Judging.{Loads}
use Rattle.run_inputs.specs.Verdict.{file_verdict}
use Rattle.run_inputs.proofs.LoadingLemmas.{IsLoadedTo, all_loaded, loaded_to_next, moves_on, stopped_at}
use Rattle.run_inputs.proofs.judging.load_sources.Goals as goal

pub files-preserved : goal.files-preserved
files-preserved c =
    let at = c.files.at in
    let here = c.files.invariant.moves.ahead (file_at at) (omega (arith, file_place-at at (omega arith))) in
    record {
      loaded = loaded_to_next (λ f. file_verdict f (source_held c.args.held.now.items c.args.first f)) at c.files.release c.load_held.new.release (omega arith) c.files.invariant.loaded
          (subst (λ (held : Option (List ℕ)). Loads (file_at at) (file_verdict (file_at at) held) c.files.release c.load_held.new.release) here c.in_ok-load_held.ensures.loads);
      moves = moves_on c.args.held.now.items c.files.held.items c.load_held.new.held.items c.args.first at (omega arith) c.files.invariant.moves c.in_ok-load_held.ensures.others;
    }

pub returns-clause-files : goal.returns-clause-files
returns-clause-files c =
    let done : c.files.at ≡ 9 = omega (arith, c.files-test.false, c.files.auto.at-end) in
    let v = λ (f : SourceFile). file_verdict f (source_held c.args.held.now.items c.args.first f) in
    all_loaded v c.files.release (subst (λ (n : ℕ). IsLoadedTo v n c.files.release) done c.files.invariant.loaded)

pub returns-in_err-load_held-clause-files : goal.returns-in_err-load_held-clause-files
returns-in_err-load_held-clause-files c =
    let at = c.files.at in
    let p = err_from_is_err_and c.from_residual.result c.from_residual.ensures.1 in
    rw (p.1, p.2) (stopped_at file_verdict (source_held c.args.held.now.items c.args.first) (source_held c.files.held.items c.args.first (file_at at)) at c.files.release c.load_held.new.release _ (omega arith)
    (c.files.invariant.moves.ahead (file_at at) (omega (arith, file_place-at at (omega arith)))) c.files.invariant.loaded c.in_err-load_held.ensures.loads)
