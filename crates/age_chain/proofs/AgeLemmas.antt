-- How an age grows with a release, and what it means.
use Rattle.std.proofs.Common.{◌≡◌, ℕ, ◌+◌, ◌≤◌, Bool, true, false, List, [], ◌∷◌, ◌++◌, length, Option, Some, None, refl, ap, ◌∙◌, arith, if◌then◌else◌, option_map}
use Rattle.std.specs.List.{AllByRecursion as Each}
use Rattle.release_rows.specs.Releases.{ReleaseItems, rows_now}
use Rattle.ucd_points.specs.Limits.{point_count}
use Rattle.ucd_facts.specs.Facts.{Facts}
use Rattle.ucd_facts.specs.FactsLemmas.{facts_outside}
use Rattle.age_chain.specs.AgeLaws.{AgeIsOfTheFirst}
use Rattle.age_chain.specs.Ages.{age, is_assigned, last_of}

-- the age with one more release, which has the number n
abbrev pub age_after : Option ℕ → ℕ → Bool → Option ℕ
age_after (Some k) n assigned = Some k
age_after None n assigned = if assigned then Some n else None

one_later : (a : Option ℕ) (n : ℕ) (b : Bool) → option_map (λ k. k + 1) (age_after a n b) ≡ age_after (option_map (λ k. k + 1) a) (n + 1) b
one_later (Some k) n b = refl
one_later None n true = refl
one_later None n false = refl

first_of_two : (t : Bool) (a whole : Option ℕ) (n m : ℕ) (b : Bool) → n + 1 ≡ m → whole ≡ age_after a n b
    → (if t then Some 1 else option_map (λ k. k + 1) whole) ≡ age_after (if t then Some 1 else option_map (λ k. k + 1) a) m b
first_of_two true a whole n m b next is = refl
first_of_two false a whole n m b next is = ap (option_map (λ k. k + 1)) is ∙ one_later a n b ∙ ap (λ (k : ℕ). age_after (option_map (λ k. k + 1) a) k b) next

pub age_added : (releases : List ReleaseItems) (release : ReleaseItems) (c : ℕ) → age (releases ++ release ∷ []) c ≡ age_after (age releases c) (length releases + 1) (is_assigned release c)
age_added [] release c = refl
age_added (first ∷ later) release c =
    first_of_two (is_assigned first c) (age later c) (age (later ++ release ∷ []) c) (length later + 1) (length (first ∷ later) + 1) (is_assigned release c) (omega arith) (age_added later release c)

-- ---- what has no age

not_here : (t : Bool) (a : Option ℕ) → t ≡ false → a ≡ None → (if t then Some 1 else option_map (λ k. k + 1) a) ≡ None
not_here true a e none = absurd cc
not_here false a e none = ap (option_map (λ k. k + 1)) none

ageless : (releases : List ReleaseItems) (c : ℕ) → Each (λ release. is_assigned release c ≡ false) releases → age releases c ≡ None
ageless [] c all = refl
ageless (release ∷ later) c all = not_here (is_assigned release c) (age later c) all.0 (ageless later c all.1)

pub age_past : (releases : List ReleaseItems) (c : ℕ) → point_count ≤ c → age releases c ≡ None
age_past [] c le = refl
age_past (release ∷ later) c le = not_here (is_assigned release c) (age later c) (ap (λ (F : Facts). F.assigned) (facts_outside (rows_now release) c le)) (age_past later c le)

-- ---- the first release

is_here : (t : Bool) (a : Option ℕ) → t ≡ true → (if t then Some 1 else option_map (λ k. k + 1) a) ≡ Some 1
is_here true a e = refl
is_here false a e = absurd cc

is_later : (t : Bool) (a : Option ℕ) (n m : ℕ) → t ≡ false → a ≡ Some n → n + 1 ≡ m → (if t then Some 1 else option_map (λ k. k + 1) a) ≡ Some m
is_later true a n m e is next = absurd cc
is_later false a n m e is next = ap (option_map (λ k. k + 1)) is ∙ ap Some next

first_assigned : (before later : List ReleaseItems) (release : ReleaseItems) (c : ℕ) → Each (λ earlier. is_assigned earlier c ≡ false) before → is_assigned release c ≡ true
    → age (before ++ release ∷ later) c ≡ Some (length before + 1)
first_assigned [] later release c none assigned = is_here (is_assigned release c) (age later c) assigned
first_assigned (earlier ∷ before) later release c none assigned =
    is_later (is_assigned earlier c) (age (before ++ release ∷ later) c) (length before + 1) (length (earlier ∷ before) + 1) none.0 (first_assigned before later release c none.1 assigned) (omega arith)

-- ---- an age stays

stays_behind : (t : Bool) (a b : Option ℕ) (k : ℕ) → ((j : ℕ) → a ≡ Some j → b ≡ Some j) → (if t then Some 1 else option_map (λ j. j + 1) a) ≡ Some k
    → (if t then Some 1 else option_map (λ j. j + 1) b) ≡ Some k
stays_behind true a b k more is = is
stays_behind false None b k more is = absurd cc
stays_behind false (Some j) b k more is = ap (option_map (λ i. i + 1)) (more j refl) ∙ is

age_stays : (releases later : List ReleaseItems) (c k : ℕ) → age releases c ≡ Some k → age (releases ++ later) c ≡ Some k
age_stays [] later c k is = absurd cc
age_stays (first ∷ rest) later c k is = stays_behind (is_assigned first c) (age rest c) (age (rest ++ later) c) k (age_stays rest later c) is

pub age_is_of_the_first : AgeIsOfTheFirst
age_is_of_the_first = record { first = first_assigned; none = ageless; stays = age_stays }

-- ---- the last release

pub last_added : (releases : List ReleaseItems) (release : ReleaseItems) → last_of (releases ++ release ∷ []) ≡ Some release
last_added (first ∷ second ∷ later) release = last_added (second ∷ later) release
last_added _ release = refl
