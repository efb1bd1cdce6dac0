-- Where a fault stands, by its rule.
use Rattle.std.proofs.Common.{◌≡◌, ◌⊎◌, ℕ, List, inl, inr, refl, ap, ◌∙◌}
use Rattle.unicodeset_parser.specs.FaultNames.{Chooses, Names, NamedIn}
use Rattle.unicodeset_parser.specs.Laws.{StopsAt, StopsBehind, FirstFault, FaultsAreFirst, place_of}
use Rattle.unicodeset_parser.specs.Machine.{Fault}
use Rattle.unicodeset_parser.specs.Tokens.{Token, placed, open_set, close, dash, meet, letter, property, wrong}
use Rattle.unicodeset_parser.specs.declared.token.BadToken.TheVariants.{Unclosed, RefusedName, BadEscape, CharacterName, Special, Cut, Other}
use Rattle.unicodeset_parser.proofs.FaultNames.{faults_are_named}

module _ (e : ℕ) (front : List Token) (f : Fault) where
  -- both faults stand at the token
  at_token : {s : Type 0} {x y : Fault} (p : Token) → (x.at ≡ place_of p) → (y.at ≡ place_of p) → Chooses s x y f → StopsAt e p f
  at_token p hx hy (inl h) = inl (ap (λ g. g.at) h.1 ∙ hx)
  at_token p hx hy (inr h) = inl (ap (λ g. g.at) h.1 ∙ hy)

  place : (p : Token) → Names e front p f → StopsAt e p f
  place (placed at (letter c)) h = at_token (placed at (letter c)) refl refl h
  place (placed at (open_set negated)) h = at_token (placed at (open_set negated)) refl refl h
  place (placed at (wrong RefusedName)) h = at_token (placed at (wrong RefusedName)) refl refl h
  place (placed at (wrong Special)) h = at_token (placed at (wrong Special)) refl refl h
  place (placed at (wrong Unclosed)) (inl h) = inr (tt, h.1)
  place (placed at (wrong Unclosed)) (inr h) = inl (ap (λ g. g.at) h.1)
  place (placed at (wrong Cut)) (inl h) = inr (tt, h.1)
  place (placed at (wrong Cut)) (inr h) = inl (ap (λ g. g.at) h.1)
  place (placed at (wrong BadEscape)) h = inl (ap (λ g. g.at) h)
  place (placed at (wrong CharacterName)) h = inl (ap (λ g. g.at) h)
  place (placed at (wrong Other)) h = inl (ap (λ g. g.at) h)
  place (placed at close) h = inl (ap (λ g. g.at) h)
  place (placed at dash) h = inl (ap (λ g. g.at) h)
  place (placed at meet) h = inl (ap (λ g. g.at) h)
  place (placed at (property t)) h = inl (ap (λ g. g.at) h)

first_fault : (e : ℕ) (ps : List Token) (f : Fault) → NamedIn e ps f ⊎ StopsBehind e ps f → FirstFault e ps f
first_fault e ps f (inl h) = inl (record { front = h.front; token = h.token; rest = h.rest; cut = h.cut; begins = h.begins; ends = h.ends; stands = place e h.front f h.token h.names })
first_fault e ps f (inr h) = inr h

pub faults_are_first : FaultsAreFirst
faults_are_first e ps f h = first_fault e ps f (faults_are_named e ps f h)
