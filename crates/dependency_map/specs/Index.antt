-- The index of the code points that ask a question.
-- query_key q         where the keys of the question begin: bits 21 to 41 are its last code point, and bits 42 to 62 the first one
--                     of a pair, 110000 (hexadecimal) for a row and 110001 for a second member
-- is_listed has q c   c is listed under the question: its key there is one that the index has
-- is_own q c          the question is one of those that the plain code point c asks
-- may_ask has q c     c is listed under the question, or it is its own one
-- keeps kept q        the question is among those that are kept, where some are
-- kept_at at lists c  the questions that are kept for c; none where there are no lists. `at` reads the lists
-- least a b           the lesser of two numbers, of those that are there
-- NoneFrom p m n      no number from m up to n passes p (n does not count)
-- Lists has kept      each code point is listed under the questions that are kept for it and are not its own ones; others may be
--                     listed too
-- ListsFrom has kept m n   so is each from m up to n (n does not count)
use Rattle.std.specs.Prelude.{◌≡◌, ℕ, ◌+◌, ◌*◌, ◌<◌, ◌≤◌, Bool, true, false, ◌==◌, ◌||◌, nat_le, if◌then◌else◌, List, Option, Some, None}
use Rattle.ucd_facts.specs.declared.query.Query.TheVariants.{Row, Pair, Second}
use Rattle.ucd_facts.specs.Answers.{is_asked}
use Rattle.ucd_facts.specs.declared.query.Query.{Query}

abbrev key : ℕ → ℕ → ℕ
key s y = (s * 2097152 + y) * 2097152

abbrev pub query_key : Query → ℕ
query_key (Row x) = key 1114112 x
query_key (Pair s y) = key s y
query_key (Second y) = key 1114113 y

abbrev pub is_listed : (ℕ → Bool) → Query → ℕ → Bool
is_listed has q c = has (query_key q + c)

abbrev pub is_own : Query → ℕ → Bool
is_own (Row x) c = x == c
is_own (Pair s y) c = false
is_own (Second y) c = y == c

abbrev pub may_ask : (ℕ → Bool) → Query → ℕ → Bool
may_ask has q c = is_listed has q c || is_own q c

abbrev pub keeps : Option (List Query) → Query → Bool
keeps None q = false
keeps (Some queries) q = is_asked queries q

abbrev pub kept_at : {S : Type 0} → (S → ℕ → Option (List Query)) → Option S → ℕ → Option (List Query)
kept_at at None c = None
kept_at at (Some lists) c = at lists c

abbrev pub least : Option ℕ → Option ℕ → Option ℕ
least None b = b
least (Some x) None = Some x
least (Some x) (Some y) = if nat_le x y then Some x else Some y

abbrev pub NoneFrom : (ℕ → Bool) → ℕ → ℕ → Type 0
NoneFrom p m n = (k : ℕ) → m ≤ k → k < n → p k ≡ false

abbrev pub Lists : (ℕ → Bool) → (ℕ → Option (List Query)) → Type 0
Lists has kept = (c : ℕ) → c < 1114112 → (q : Query) → keeps (kept c) q ≡ true → may_ask has q c ≡ true

abbrev pub ListsFrom : (ℕ → Bool) → (ℕ → Option (List Query)) → ℕ → ℕ → Type 0
ListsFrom has kept m n = (c : ℕ) → m ≤ c → c < n → (q : Query) → keeps (kept c) q ≡ true → may_ask has q c ≡ true
