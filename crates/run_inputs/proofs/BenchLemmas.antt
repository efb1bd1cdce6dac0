-- The verdict on a release, from what opening its bench answers.
use Rattle.std.proofs.Common.{◌≡◌, ℕ, List, Option, None, Result, Ok, Err, sym, ap, ◌∙◌}
use Rattle.ucd_model.specs.Validity.{first_broken}
use Rattle.release_rows.specs.Releases.{ReleaseItems, FileItem, SourceFile}
use Rattle.edit_session.specs.Benches.{NamesBroken}
use Rattle.edit_session.specs.Groups.{files_facts}
use Rattle.edit_session.specs.declared.open_stop.OpenStop.{OpenStop}
use Rattle.edit_session.specs.declared.open_stop.OpenStop.TheVariants.{Invalid, Memory as Lacking}
use Rattle.run_inputs.specs.Judging.{BreaksBy, JudgedAs}
use Rattle.run_inputs.specs.Verdict.{and_then, files_verdict, release_verdict, valid_files}
use Rattle.run_inputs.specs.declared.refusal.FolderRefusal.{FolderRefusal}
use Rattle.run_inputs.specs.declared.refusal.FolderStop.{FolderStop}
use Rattle.run_inputs.specs.declared.refusal.FolderStop.TheVariants.{Refused, Memory}

module _ (held : SourceFile → Option (List ℕ)) where
  loaded_verdict : (files : List (List FileItem)) → files_verdict held ≡ Ok files → release_verdict held ≡ valid_files files (first_broken (files_facts files))
  loaded_verdict files loads = ap (λ (r : Result (List (List FileItem)) FolderRefusal). and_then r (λ lists. valid_files lists (first_broken (files_facts lists)))) loads

  pub opened_verdict : (files opened : List (List FileItem)) → files_verdict held ≡ Ok files → opened ≡ files → first_broken (files_facts files) ≡ None
      → release_verdict held ≡ Ok opened
  opened_verdict files opened loads same valid =
      loaded_verdict files loads ∙ ap (valid_files files) valid ∙ ap (λ (lists : List (List FileItem)). Ok lists) (sym same)

  pub broken_verdict : (files : List (List FileItem)) (stop : OpenStop) (told : FolderStop) → files_verdict held ≡ Ok files → NamesBroken stop (files_facts files) → BreaksBy told stop
      → JudgedAs {A = ReleaseItems} (λ bench. bench.current) (Err told) (release_verdict held)
  broken_verdict files (Invalid rule point) (Refused refusal) loads broken breaks =
      loaded_verdict files loads ∙ ap (valid_files files) broken ∙ ap (λ (r : FolderRefusal). Err r) (sym breaks)
  broken_verdict files (Invalid rule point) Memory loads broken breaks = tt
  broken_verdict files Lacking (Refused refusal) loads broken breaks = absurd breaks
  broken_verdict files Lacking Memory loads broken breaks = tt
