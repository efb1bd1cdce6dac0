-- Outputs that are put one after the other.
use Rattle.std.proofs.Common.{List, ◌++◌, ap, ◌∙◌, append_assoc}
use Rattle.run_endings.specs.Planning.{Puts}
use Rattle.run_endings.specs.Endings.{NewFile}
use Rattle.run_endings.specs.Writing.{files_of}
use Rattle.run_endings.specs.declared.output.Output.{Output}

pub puts_then : (files more : List NewFile) (old mid new : List Output) → Puts files old mid → Puts more mid new → Puts (files ++ more) old new
puts_then files more old mid new first later = record {
  put = later.put ∙ ap (λ (fs : List NewFile). fs ++ more) first.put ∙ append_assoc (files_of old) files more;
  lines = λ all. later.lines (first.lines all);
}
