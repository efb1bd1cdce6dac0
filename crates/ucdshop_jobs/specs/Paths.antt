-- Where the files that this program writes lie below a folder.
-- log_in folder            the path of the log below a folder
-- sets_in folder           the path of the answers to questions below a folder
-- script_in folder         the path of a script that is made below a folder
-- policy_in folder         the path of a policy report below a folder
use Rattle.std.specs.Prelude.{ℕ, List, codes}
use Rattle.run_endings.specs.Paths.{path_in}

abbrev pub log_in : List ℕ → List ℕ
log_in folder = path_in folder (codes "bench.log")

abbrev pub sets_in : List ℕ → List ℕ
sets_in folder = path_in folder (codes "sets.txt")

abbrev pub script_in : List ℕ → List ℕ
script_in folder = path_in folder (codes "script.txt")

abbrev pub policy_in : List ℕ → List ℕ
policy_in folder = path_in folder (codes "policy.txt")
