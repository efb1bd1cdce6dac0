-- How a run of a program is to end, by its words and by what the shelf holds.
-- Contents                what a shelf holds at each path: the bytes of a file, or None
-- NewFile                 a path, and the bytes that are written there
-- Ending                  how a run ends that is not refused: the files that are written, in order, each path with its bytes; the
--                         summary that is told then; and whether something was refused or is broken
-- Expected                NoForm; Refuses line; or Finishes ending
-- Seen                    what was seen at each of some paths, in order: the bytes of a file, or None
-- Program                 a program, by the jobs that it does: the line for words that have no listed form; the job that words ask
--                         for, None where they have no listed form; of a job the paths that are read, in order, and the paths of
--                         the files that are written, in order; and what is expected of it, by what was seen at the paths that are
--                         read
-- WritesItsPaths p        an ending that is expected of a job has files at just the paths that the job is to write
-- paths_read p form       the paths that are read of what the words ask for; none where they have no listed form
-- expected_by p form seen   what is expected of what the words ask for; NoForm where they have no listed form
-- needed p words          the paths that words need, in order
-- expected p words seen   what is expected of the words, by what was seen at the paths that they need
-- seen_in p words holds   what is seen at these paths where a shelf holds this
-- put file holds          the contents once the file is put in its place
-- after files holds       the contents with these files replaced, one after the other
-- Replaced files old new  the new contents are the old ones with these files replaced
--
-- What was seen
-- IsSeen tells holds paths seen   something was seen at each of the paths; and it is what is held, where the shelf tells that
-- Sees tells holds paths P   P of what was seen at the paths
-- EndsAs p words seen P   by what was seen the run is not refused, and P of its ending
-- IsFine p words seen     by what was seen the run is not refused
use Rattle.std.specs.Prelude.{◌≡◌, ℕ, Bool, IsTrue, List, [], ◌∷◌, length, map, Option, Some, None, if◌then◌else◌, bytes_eq}

abbrev pub Contents : Type 0
Contents = List ℕ → Option (List ℕ)

pub record NewFile : Type 0 where
  pub path : List ℕ
  pub bytes : List ℕ

pub record Ending : Type 0 where
  pub files : List NewFile
  pub summary : List ℕ
  pub done : Bool

pub data Expected : Type 0 where
  NoForm : Expected
  Refuses : (line : List ℕ) → Expected
  Finishes : (ending : Ending) → Expected

abbrev pub Seen : Type 0
Seen = List (Option (List ℕ))

-- ---- a program

pub record Program (Job : Type 0) : Type 0 where
  pub usage : List ℕ
  pub form : List (List ℕ) → Option Job
  pub needed : Job → List (List ℕ)
  pub written : Job → List (List ℕ)
  pub expected : Job → Seen → Expected

abbrev pub WritesItsPaths : {Job : Type 0} → Program Job → Type 0
WritesItsPaths {Job} p = (job : Job) (seen : Seen) (ending : Ending) → p.expected job seen ≡ Finishes ending → map (λ (file : NewFile). file.path) ending.files ≡ p.written job

abbrev pub paths_read : {Job : Type 0} → Program Job → Option Job → List (List ℕ)
paths_read p None = []
paths_read p (Some job) = p.needed job

abbrev pub expected_by : {Job : Type 0} → Program Job → Option Job → Seen → Expected
expected_by p None seen = NoForm
expected_by p (Some job) seen = p.expected job seen

abbrev pub needed : {Job : Type 0} → Program Job → List (List ℕ) → List (List ℕ)
needed p words = paths_read p (p.form words)

abbrev pub expected : {Job : Type 0} → Program Job → List (List ℕ) → Seen → Expected
expected p words seen = expected_by p (p.form words) seen

abbrev pub seen_in : {Job : Type 0} → Program Job → List (List ℕ) → Contents → Seen
seen_in p words holds = map holds (needed p words)

-- ---- contents

abbrev pub put : NewFile → Contents → Contents
put file holds path = if bytes_eq file.path path then Some file.bytes else holds path

abbrev pub after : List NewFile → Contents → Contents
after [] holds = holds
after (file ∷ files) holds = after files (put file holds)

abbrev pub Replaced : List NewFile → Contents → Contents → Type 0
Replaced files old new = (path : List ℕ) → new path ≡ after files old path

-- ---- what was seen

pub record IsSeen (tells : Bool) (holds : Contents) (paths : List (List ℕ)) (seen : Seen) : Type 0 where
  pub each : length seen ≡ length paths
  pub held : IsTrue tells → seen ≡ map holds paths

abbrev pub Sees : Bool → Contents → List (List ℕ) → (Seen → Type 0) → Type 0
Sees tells holds paths P = (seen : Seen) × IsSeen tells holds paths seen × P seen

abbrev pub EndsAs : {Job : Type 0} → Program Job → List (List ℕ) → Seen → (Ending → Type 0) → Type 0
EndsAs p words seen P = (ending : Ending) × (expected p words seen ≡ Finishes ending) × P ending

abbrev pub IsFine : {Job : Type 0} → Program Job → List (List ℕ) → Seen → Type 0
IsFine p words seen = (ending : Ending) × (expected p words seen ≡ Finishes ending)
