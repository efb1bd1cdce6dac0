-- What code points ask, and which of them ask a question.
--
-- Below, `asked` gives the questions of each code point.
-- own_queries c         what a plain code point asks: its own row, and whether it is a second member
-- asked_by c kept       what c asks: the questions that are kept for it; its own ones where none are kept
-- asks asked q c        c asks the question q
-- asks_any asked Q c    c asks one of the questions Q
-- points_from p from    the code points at or above `from` that pass p, ascending, each once
-- askers_of asked q     the code points that ask the question q, ascending, each once
-- askers_of_any asked Q   those that ask one of the questions Q
use Rattle.std.specs.Prelude.{ℕ, ◌-◌, Bool, List, [], ◌∷◌, Option, Some, None, filter}
use Rattle.std.specs.List.{list_any, range_with_len}
use Rattle.ucd_points.specs.Limits.{point_count}
use Rattle.ucd_facts.specs.declared.query.Query.TheVariants.{Row, Second}
use Rattle.ucd_facts.specs.Answers.{is_asked}
use Rattle.ucd_facts.specs.declared.query.Query.{Query}

abbrev pub own_queries : ℕ → List Query
own_queries c = Row c ∷ Second c ∷ []

abbrev pub asked_by : ℕ → Option (List Query) → List Query
asked_by c None = own_queries c
asked_by c (Some queries) = queries

abbrev pub asks : (ℕ → List Query) → Query → ℕ → Bool
asks asked q c = is_asked (asked c) q

abbrev pub asks_any : (ℕ → List Query) → List Query → ℕ → Bool
asks_any asked Q c = list_any (λ q. asks asked q c) Q

abbrev pub points_from : (ℕ → Bool) → ℕ → List ℕ
points_from p from = filter p (range_with_len from (point_count - from))

abbrev pub askers_of : (ℕ → List Query) → Query → List ℕ
askers_of asked q = points_from (asks asked q) 0

abbrev pub askers_of_any : (ℕ → List Query) → List Query → List ℕ
askers_of_any asked Q = points_from (asks_any asked Q) 0
