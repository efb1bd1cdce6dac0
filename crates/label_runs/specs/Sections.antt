-- A section as far as it is written. Its labels are those of the numbers below n.
-- section_head name    the line `# NAME`
-- Progress             how far a section is written: the numbers from `first` to before `end` are a run of one label whose line is
--                      still to come, and the lines before it list `total` numbers
-- IsWithin p           the numbers do not pass 110000, nor the total the numbers; a run that is listed is not empty
-- IsWritten n f front p text   the text is `front`, and behind it the lines of the spans that begin before the run
use Rattle.std.specs.Prelude.{◌≡◌, ◌≤◌, ◌<◌, ℕ, List, ◌++◌, IsSome, codes}
use Rattle.ucd_model.specs.Labels.{Label}
use Rattle.ucd_model.specs.LabelLemmas.{labelled_before}
use Rattle.ucd_model.specs.DerivedText.{line_end}
use Rattle.label_runs.specs.Runs.{lines_before, IsOpen}

abbrev pub section_head : List ℕ → List ℕ
section_head name = codes "# " ++ name ++ line_end

pub record Progress : Type 0 where
  pub first : ℕ
  pub end : ℕ
  pub label : Label
  pub total : ℕ

pub record IsWithin (p : Progress) : Type 0 where
  pub few : p.total ≤ p.first
  pub ordered : p.first ≤ p.end
  pub inside : p.end ≤ 1114112
  pub some : IsSome p.label → p.first < p.end

pub record IsWritten (n : ℕ) (f : ℕ → Label) (front : List ℕ) (p : Progress) (text : List ℕ) : Type 0 where
  pub run : IsOpen n f p.first p.end p.label
  pub lines : text ≡ front ++ lines_before n f p.first
  pub total : p.total ≡ labelled_before f p.first
