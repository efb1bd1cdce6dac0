-- Steps from code point to code point, on which one comes from each that a derivation asks about to the one that is derived.
--
-- F is the facts of each code point, and `has` tells the keys of the steps that there are.
-- key x c             the key of the step from x to c: bits 21 to 41 are x, and bits 0 to 20 are c
-- simple_members G    of the members of all mappings of a point with the facts G, the simple case mappings and the simple folding
-- image_members c G   of these, the members of the full case mappings and the full folding
-- LeadFrom has xs c   there is a step to c from each of the points xs that is not c
-- HasStepsTo step F c   there is a step to c from each member of its mappings, and, where c is a primary composite, one from c to the
--                     first member of its mapping, which is a code point
-- HasSteps step F     so it is for each code point c
-- Leads step c x      one comes from x to c by such steps
-- IsReached step Q c   one comes to c by them from a code point that one of the questions Q is about
-- IsClosed step p     where x passes p, and there is a step from x to a code point, that passes p too
use Rattle.std.specs.Prelude.{◌≡◌, ◌≢◌, ℕ, ◌+◌, ◌*◌, ◌<◌, Bool, true, List, [], ◌∷◌, flat_map}
use Rattle.ucd_facts.specs.CompositeLaws.{Composes}
use Rattle.ucd_facts.specs.Facts.{Facts, image_points}
use Rattle.ucd_model.specs.Sameness.{is_in}
use Rattle.ucd_facts.specs.Answers.{is_asked}
use Rattle.ucd_facts.specs.declared.query.Query.{Query}
use Rattle.mention_index.specs.Reached.{about, members_of}

abbrev pub key : ℕ → ℕ → ℕ
key x c = x * 2097152 + c

abbrev pub simple_members : Facts → List ℕ
simple_members G = G.simple_upper ∷ G.simple_lower ∷ G.simple_title ∷ G.simple_fold ∷ []

abbrev pub image_members : ℕ → Facts → List ℕ
image_members c G = flat_map (λ m. m) (image_points c G.upper ∷ image_points c G.lower ∷ image_points c G.title ∷ image_points c G.fold ∷ [])

abbrev pub LeadFrom : (ℕ → Bool) → List ℕ → ℕ → Type 0
LeadFrom has xs c = (x : ℕ) → is_in xs x ≡ true → x ≢ c → has (key x c) ≡ true

pub record HasStepsTo (step : ℕ → ℕ → Bool) (F : ℕ → Facts) (c : ℕ) : Type 0 where
  pub members : (x : ℕ) → is_in (members_of c (F c)) x ≡ true → x ≢ c → step x c ≡ true
  pub first : (s y : ℕ) → Composes F s y c → (s < 1114112) × (step c s ≡ true)

abbrev pub HasSteps : (ℕ → ℕ → Bool) → (ℕ → Facts) → Type 0
HasSteps step F = (c : ℕ) → c < 1114112 → HasStepsTo step F c

pub data Leads (step : ℕ → ℕ → Bool) (c : ℕ) : ℕ → Type 0 where
  here : Leads step c c
  on : (x d : ℕ) → d < 1114112 → step x d ≡ true → Leads step c d → Leads step c x

abbrev pub IsReached : (ℕ → ℕ → Bool) → List Query → ℕ → Type 0
IsReached step Q c = (q : Query) × (is_asked Q q ≡ true) × Leads step c (about q)

abbrev pub IsClosed : (ℕ → ℕ → Bool) → (ℕ → Bool) → Type 0
IsClosed step p = (x d : ℕ) → d < 1114112 → p x ≡ true → step x d ≡ true → p d ≡ true
