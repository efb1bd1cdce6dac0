-- What `check` tells: what a run of the first program comes to.
-- tells_refusal line           the line of a log tells of a refused command: behind the number of the command's line stands `refused`
-- refusal_line line            such a line, with its LF; nothing for another
-- refusals log                 the lines of the log that tell of refused commands, in order
-- broken_line breaks policy    the line of a policy that is broken: its code, and how many breaks it has; nothing for another
-- broken_text breaks           the lines of the broken policies, in order
-- check_text s breaks          what is told after a session, with these breaks: the summary of the run, its refusals, and its broken
--                              policies
-- session_ending earlier s     the ending after a session: no file, that text with the breaks against the earlier release, and whether a
--                              command was refused or a policy is broken
-- check_ending inputs          the ending on these inputs: after the session of their commands
use Rattle.std.specs.Prelude.{ℕ, Bool, ◌||◌, ◌==◌, eqb, List, [], ◌++◌, length, count_by, Option, nat_lt, if◌then◌else◌, codes, decimal}
use Rattle.std.specs.List.{after_first, flat_map, starts_with}
use Rattle.ucd_points.specs.Lines.{LineItem, items_of}
use Rattle.ucd_model.specs.DerivedText.{line_end}
use Rattle.release_rows.specs.FileItems.{FileItem}
use Rattle.run_endings.specs.Endings.{Ending}
use Rattle.stability_policies.specs.Policies.{policies}
use Rattle.stability_policies.specs.ReportTexts.{policy_code}
use Rattle.stability_policies.specs.Reports.{is_of}
use Rattle.stability_policies.specs.declared.breaks.Break.{Break}
use Rattle.stability_policies.specs.declared.policy.Policy.{Policy}
use Rattle.ucdshop_jobs.specs.Printed.{summary}
use Rattle.ucdshop_jobs.specs.Run.{Inputs, breaks_since, counts_of}
use Rattle.ucdshop_jobs.specs.Session.{Session, session}

abbrev pub tells_refusal : List ℕ → Bool
tells_refusal line = starts_with eqb (after_first (λ b. b == 32) line) (codes "refused ")

abbrev pub refusal_line : List ℕ → List ℕ
refusal_line line = if tells_refusal line then line ++ line_end else []

abbrev pub refusals : List ℕ → List ℕ
refusals log = flat_map (λ (item : LineItem). refusal_line item.content) (items_of log)

abbrev pub count_line : Policy → ℕ → List ℕ
count_line policy count = if nat_lt 0 count then policy_code policy ++ codes " " ++ decimal count ++ line_end else []

abbrev pub broken_line : List Break → Policy → List ℕ
broken_line breaks policy = count_line policy (count_by (is_of policy) breaks)

abbrev pub broken_text : List Break → List ℕ
broken_text breaks = flat_map (broken_line breaks) policies

abbrev pub check_text : Session → List Break → List ℕ
check_text s breaks = summary (counts_of s breaks) ++ refusals s.log ++ broken_text breaks

abbrev pub session_ending : Option (List (List FileItem)) → Session → Ending
session_ending earlier s =
    let breaks = breaks_since earlier s.files in
    record { files = []; summary = check_text s breaks; done = nat_lt 0 s.refused || nat_lt 0 (length breaks) }

abbrev pub check_ending : Inputs → Ending
check_ending inputs = session_ending inputs.earlier (session inputs.files inputs.commands)
