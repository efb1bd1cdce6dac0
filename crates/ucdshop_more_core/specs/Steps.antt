-- The text of the steps from release to release.
-- steps_of releases        the breaks of each step from a release to the one behind it, in order
-- step_text k breaks       `# step K`, and the policy report of these breaks
-- steps_from k steps       the text of each of these steps, the first of which leads to the release with the number k
-- steps_text steps         the text of all steps: the first one leads to the second release
-- breaks_in steps          how many breaks they have together
use Rattle.std.specs.Prelude.{ℕ, ◌+◌, List, [], ◌∷◌, ◌++◌, length, codes, decimal}
use Rattle.ucd_model.specs.DerivedText.{line_end}
use Rattle.release_rows.specs.Releases.{ReleaseItems}
use Rattle.stability_policies.specs.ReportTexts.{report_text}
use Rattle.stability_policies.specs.Reports.{report}
use Rattle.stability_policies.specs.declared.breaks.Break.{Break}

abbrev pub steps_of : List ReleaseItems → List (List Break)
steps_of [] = []
steps_of (release ∷ []) = []
steps_of (old ∷ new ∷ later) = report old new ∷ steps_of (new ∷ later)

abbrev pub step_text : ℕ → List Break → List ℕ
step_text k breaks = codes "# step " ++ decimal k ++ line_end ++ report_text breaks

abbrev pub steps_from : ℕ → List (List Break) → List ℕ
steps_from k [] = []
steps_from k (breaks ∷ later) = step_text k breaks ++ steps_from (k + 1) later

abbrev pub steps_text : List (List Break) → List ℕ
steps_text steps = steps_from 2 steps

abbrev pub breaks_in : List (List Break) → ℕ
breaks_in [] = 0
breaks_in (breaks ∷ later) = length breaks + breaks_in later
