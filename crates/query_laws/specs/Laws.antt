-- What is asked decides what is derived: facts that answer it alike derive the same, and ask the same.
--
-- F and G are the facts of each code point, of two releases.
-- InTree F compat x c     x is c, or lies in the tree of a member of the mapping of c that counts: the least such set
-- TreeIsLeast             where c has an expansion, the whole tree of c is that set
-- SameExpansions          the expansion with n levels, and its tree
-- SameForms               the ordered expansions of a list, these composed, and what a form of it asks
-- SameRounds              by either folding: the NFKC of a list, its folding without ignorable points, one round, and what the round
--                         asks
-- SameFoldings            by either folding, where c alone reaches a last round: each list up to the one after it, which round is the last, and what
--                         the rounds ask
-- AskedIsLocal            the record of a point that has one, and what its derivation asks
-- PlainAskOwn             a point without a mapping asks its own row, and whether it is a second member, and nothing else
use Rattle.std.specs.Prelude.{◌≡◌, ℕ, suc, ◌≤◌, Bool, true, List, [], ◌∷◌, Some, Ok, ◌↔◌, option_and_then}
use Rattle.ucd_facts.specs.Expansion.{counted, expand, full}
use Rattle.ucd_facts.specs.Facts.{Facts}
use Rattle.ucd_model.specs.FoldRounds.{short_nfkc, short_fold, round, rounds}
use Rattle.ucd_model.specs.Forms.{decomposed, composed}
use Rattle.ucd_model.specs.Records.{Record, derived}
use Rattle.ucd_model.specs.Sameness.{is_in}
use Rattle.ucd_facts.specs.Uniform.{IsPlain}
use Rattle.ucd_facts.specs.declared.folding.Folding.{Folding}
use Rattle.ucd_facts.specs.declared.query.Query.TheVariants.{Row, Second}
use Rattle.ucd_facts.specs.Answers.{is_asked, SameAnswer, Each}
use Rattle.ucd_facts.specs.declared.query.Query.{Query}
use Rattle.query_laws.specs.Questions.{tree, whole_tree, row_queries, asks, round_asks, last_round, rounds_ask, asked}

pub data InTree (F : ℕ → Facts) (compat : Bool) (x : ℕ) : ℕ → Type 0 where
  here : InTree F compat x x
  below : (c d : ℕ) → is_in (counted F compat c) d ≡ true → InTree F compat x d → InTree F compat x c

abbrev pub TreeIsLeast : Type 0
TreeIsLeast = (F : ℕ → Facts) (compat : Bool) (c : ℕ) (points : List ℕ) → full F compat c ≡ Some points → (x : ℕ) → (is_in (whole_tree F compat c) x ≡ true) ↔ InTree F compat x c

pub record SameExpansion (F G : ℕ → Facts) (compat : Bool) (n c : ℕ) : Type 0 where
  pub expansion : expand G compat n c ≡ expand F compat n c
  pub tree : tree G compat n c ≡ tree F compat n c

abbrev pub SameExpansions : Type 0
SameExpansions = (F G : ℕ → Facts) (compat : Bool) (n c : ℕ) → Each (SameAnswer F G) (row_queries (tree F compat n c)) → SameExpansion F G compat n c

pub record SameForm (F G : ℕ → Facts) (compat : Bool) (s : List ℕ) : Type 0 where
  pub decomposition : decomposed G compat s ≡ decomposed F compat s
  pub composition : composed G (decomposed G compat s) ≡ composed F (decomposed F compat s)
  pub asks : asks G compat s ≡ asks F compat s

abbrev pub SameForms : Type 0
SameForms = (F G : ℕ → Facts) (compat : Bool) (s : List ℕ) → Each (SameAnswer F G) (asks F compat s) → SameForm F G compat s

pub record SameRound (folding : Folding) (F G : ℕ → Facts) (s : List ℕ) : Type 0 where
  pub form : short_nfkc G s ≡ short_nfkc F s
  pub folded : option_and_then (short_fold folding G) (short_nfkc G s) ≡ option_and_then (short_fold folding F) (short_nfkc F s)
  pub next : round folding G s ≡ round folding F s
  pub asks : round_asks folding G s ≡ round_asks folding F s

abbrev pub SameRounds : Type 0
SameRounds = (folding : Folding) (F G : ℕ → Facts) (s : List ℕ) → Each (SameAnswer F G) (round_asks folding F s) → SameRound folding F G s

pub record SameFolding (folding : Folding) (F G : ℕ → Facts) (c n : ℕ) : Type 0 where
  pub lists : (i : ℕ) → i ≤ suc n → rounds folding G i (c ∷ []) ≡ rounds folding F i (c ∷ [])
  pub last : last_round folding G c ≡ Some n
  pub asks : rounds_ask folding G c (Some n) ≡ rounds_ask folding F c (Some n)

abbrev pub SameFoldings : Type 0
SameFoldings = (folding : Folding) (F G : ℕ → Facts) (c n : ℕ) → last_round folding F c ≡ Some n → Each (SameAnswer F G) (rounds_ask folding F c (Some n)) → SameFolding folding F G c n

abbrev pub AskedIsLocal : Type 0
AskedIsLocal = (F G : ℕ → Facts) (c : ℕ) (R : Record) → derived F c ≡ Ok R → Each (SameAnswer F G) (asked F c) → (derived G c ≡ Ok R) × (asked G c ≡ asked F c)

abbrev pub PlainAskOwn : Type 0
PlainAskOwn = (F : ℕ → Facts) (c : ℕ) → IsPlain c (F c) → (q : Query) → is_asked (asked F c) q ≡ is_asked (Row c ∷ Second c ∷ []) q
