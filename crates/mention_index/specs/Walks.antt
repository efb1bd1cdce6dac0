-- Walks over the steps.
-- by_keys has x c    there is the step from x to c, whose key `has` tells
-- ComesFrom step P c   one comes to c from one of the points P
-- Going step W P walked pending reached   so it stands in a walk that began with the points P, where one had gone on from those that
--                    W tells. One went on from each code point to which there is a step from one from which one went on, and from
--                    each of P, or it is pending; one comes to the pending ones and the reached ones from P; and the reached ones are
--                    those from which one went on in this walk
-- missing p n        how many numbers below n do not pass p
-- left p pending     falls with each step of a walk: how many code points do not pass p counts more than what is pending
use Rattle.std.specs.Prelude.{◌≡◌, ℕ, zero, suc, ◌+◌, ◌*◌, ◌^◌, ◌<◌, Bool, true, false, ◌||◌, ◌⊎◌, List, length, if◌then◌else◌}
use Rattle.ucd_model.specs.Sameness.{is_in}
use Rattle.mention_index.specs.Steps.{Leads, key}

abbrev pub by_keys : (ℕ → Bool) → ℕ → ℕ → Bool
by_keys has x c = has (key x c)

abbrev pub ComesFrom : (ℕ → ℕ → Bool) → List ℕ → ℕ → Type 0
ComesFrom step P c = (x : ℕ) × (is_in P x ≡ true) × Leads step c x

pub record Going (step : ℕ → ℕ → Bool) (W : ℕ → Bool) (P : List ℕ) (walked : ℕ → Bool) (pending reached : List ℕ) : Type 0 where
  pub closed : (x d : ℕ) → d < 1114112 → walked x ≡ true → step x d ≡ true → (walked d ≡ true) ⊎ (is_in pending d ≡ true)
  pub begun : (c : ℕ) → is_in P c ≡ true → (walked c ≡ true) ⊎ (is_in pending c ≡ true)
  pub comes : (c : ℕ) → is_in pending c ≡ true → ComesFrom step P c
  pub only : (c : ℕ) → is_in reached c ≡ true → (W c ≡ false) × ComesFrom step P c
  pub told : (c : ℕ) → walked c ≡ (W c || is_in reached c)

unfoldable pub missing : (ℕ → Bool) → ℕ → ℕ
missing p zero = 0
missing p (suc n) = (if p n then 0 else 1) + missing p n

abbrev pub left : (ℕ → Bool) → List ℕ → ℕ
left p pending = missing p 1114112 * 2 ^ 64 + length pending
