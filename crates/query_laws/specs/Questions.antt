-- What the derivation of a code point asks of the facts. The lists may name a question more than once: what counts is which
-- questions are in them (`is_asked`). This project's own; the forms are those of UAX #15 and The Unicode Standard, 3.11 and 3.13.
--
-- F is the facts of each code point, `compat` says whether compatibility mappings count, and `folding` is the full or the simple
-- folding.
-- tree F compat n c                 the points that the expansion of c with n levels looks at: with none left no point; else c,
--                                   and the same of each member of the mapping of c that counts, with n - 1 levels
-- whole_tree F compat c             the same of the full expansion, with its 8 levels
-- row_queries xs                    Row(x) for each of the points xs
-- tried_at cut y                    the pair that is tried at y: of the last starter, where it is reached, and y
-- tries_onto class pair done rest   the pairs that are tried while the points of rest are put behind composed ones
-- tries class pair xs               the pairs that are tried while the list is composed, whether they have a composite or not
-- composing_asks F r                of the ordered list r: the pairs that are tried, and the rows of what is composed; of a
--                                   rule nothing
-- asks F compat s                   what a form of the list s asks: the rows of the trees of its members, and composing_asks of
--                                   its decomposition
-- folding_asks folding F r          of the NFKC r: the rows of the folded list, and what the NFKC of that asks, without its
--                                   ignorable points; of a rule nothing
-- round_asks folding F s            what a folding round from s asks
-- round_asks_at folding F r         the same of the list r; nothing where there is none
-- last_round folding F c            the first number i from 0 to 7 for which one more round leaves the list after i rounds as
--                                   it is
-- rounds_ask folding F c last       what the rounds from c alone ask, from the first one to that after `last` rounds; of None
--                                   nothing
-- foldings_ask F c                  what the rounds from c alone by each of the foldings ask
-- facts_ask F c                     Row(c), Second(c), and the rows of the members of all mappings of c
-- pair_queries m                    the pair of a mapping of two members; of another mapping nothing
-- composite_asks F c                where c is a primary composite, the pair of its mapping
-- asked F c                         what the derivation of c asks
use Rattle.std.specs.Prelude.{ℕ, zero, suc, Bool, true, false, List, [], ◌∷◌, ◌++◌, Option, Some, None, Result, Ok, Err, map, find, if◌then◌else◌}
use Rattle.std.specs.List.{flat_map, range_with_len}
use Rattle.ucd_model.specs.Casing.{folded}
use Rattle.ucd_model.specs.CanonicalOrder.{class_of}
use Rattle.ucd_facts.specs.Composites.{pair_of, primary}
use Rattle.ucd_model.specs.Composition.{Split, reached, composed_with, compose}
use Rattle.ucd_facts.specs.Enumerations.{foldings}
use Rattle.ucd_facts.specs.Expansion.{counted}
use Rattle.ucd_facts.specs.Facts.{Facts}
use Rattle.ucd_model.specs.FoldRounds.{drop_ignorable, rounds, is_last}
use Rattle.ucd_model.specs.Forms.{decomposed, nfkc}
use Rattle.ucd_model.specs.Validity.{mappings}
use Rattle.ucd_facts.specs.declared.folding.Folding.{Folding}
use Rattle.ucd_facts.specs.declared.form.Bad.{Bad as Rule}
use Rattle.ucd_facts.specs.declared.query.Query.{Query}
use Rattle.ucd_facts.specs.declared.query.Query.TheVariants.{Row, Pair, Second}

abbrev pub tree : (ℕ → Facts) → Bool → ℕ → ℕ → List ℕ
tree F compat zero c = []
tree F compat (suc n) c = c ∷ flat_map (tree F compat n) (counted F compat c)

unfoldable pub whole_tree : (ℕ → Facts) → Bool → ℕ → List ℕ
whole_tree F compat c = tree F compat 8 c

abbrev pub row_queries : List ℕ → List Query
row_queries xs = map (λ x. Row x) xs

abbrev pub tried_at : Option Split → ℕ → List Query
tried_at (Some cut) y = Pair cut.starter y ∷ []
tried_at None y = []

abbrev pub tries_onto : (ℕ → ℕ) → (ℕ → ℕ → Option ℕ) → List ℕ → List ℕ → List Query
tries_onto class pair done [] = []
tries_onto class pair done (y ∷ rest) = tried_at (reached class done y) y ++ tries_onto class pair (composed_with class pair done y) rest

abbrev pub tries : (ℕ → ℕ) → (ℕ → ℕ → Option ℕ) → List ℕ → List Query
tries class pair xs = tries_onto class pair [] xs

abbrev pub composing_asks : (ℕ → Facts) → Result (List ℕ) Rule → List Query
composing_asks F (Ok xs) = tries (class_of F) (pair_of F) xs ++ row_queries (compose (class_of F) (pair_of F) xs)
composing_asks F (Err rule) = []

abbrev pub asks : (ℕ → Facts) → Bool → List ℕ → List Query
asks F compat s = row_queries (flat_map (whole_tree F compat) s) ++ composing_asks F (decomposed F compat s)

abbrev pub folding_asks : Folding → (ℕ → Facts) → Result (List ℕ) Rule → List Query
folding_asks folding F (Ok xs) = row_queries (folded folding F xs) ++ asks F true (drop_ignorable F (folded folding F xs))
folding_asks folding F (Err rule) = []

abbrev pub round_asks : Folding → (ℕ → Facts) → List ℕ → List Query
round_asks folding F s = asks F true s ++ folding_asks folding F (nfkc F s)

abbrev pub round_asks_at : Folding → (ℕ → Facts) → Option (List ℕ) → List Query
round_asks_at folding F (Some s) = round_asks folding F s
round_asks_at folding F None = []

unfoldable pub last_round : Folding → (ℕ → Facts) → ℕ → Option ℕ
last_round folding F c = find (is_last folding F c) (range_with_len 0 8)

abbrev pub rounds_ask : Folding → (ℕ → Facts) → ℕ → Option ℕ → List Query
rounds_ask folding F c (Some last) = flat_map (λ i. round_asks_at folding F (rounds folding F i (c ∷ []))) (range_with_len 0 (suc last))
rounds_ask folding F c None = []

abbrev pub foldings_ask : (ℕ → Facts) → ℕ → List Query
foldings_ask F c = flat_map (λ folding. rounds_ask folding F c (last_round folding F c)) foldings

abbrev pub facts_ask : (ℕ → Facts) → ℕ → List Query
facts_ask F c = Row c ∷ Second c ∷ row_queries (flat_map (λ m. m) (mappings c (F c)))

abbrev pub pair_queries : List ℕ → List Query
pair_queries (s ∷ y ∷ []) = Pair s y ∷ []
pair_queries _ = []

abbrev pub composite_asks : (ℕ → Facts) → ℕ → List Query
composite_asks F c = if primary F c then pair_queries (F c).mapping else []

unfoldable pub asked : (ℕ → Facts) → ℕ → List Query
asked F c = facts_ask F c ++ (composite_asks F c ++ (asks F false (c ∷ []) ++ (asks F true (c ∷ []) ++ foldings_ask F c)))
