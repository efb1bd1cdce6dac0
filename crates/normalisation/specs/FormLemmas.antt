-- Expansions of points and of lists.
-- expansion_alone              a point without a mapping that counts is its own expansion
-- appended-assoc               of three results, it is the same whether the first two or the last two are appended first
-- nil-appended                 a result with the empty list before it is that result
-- expansions_more              once the expansion of the member at place i is behind what stands so far, the expansions from
--                              place i + 1 on are left to be appended
use Rattle.std.proofs.Common.{◌≡◌, ℕ, ◌+◌, ◌<◌, Bool, List, [], ◌∷◌, length, drop, get_or, Result, Ok, Err, refl, sym, ap, ◌∙◌}
use Rattle.std.proofs.lemmas.List.{append_assoc, at_drop_more}
use Rattle.ucd_facts.specs.declared.form.Bad.{Bad as Rule}
use Rattle.ucd_facts.specs.Facts.{Facts}
use Rattle.ucd_facts.specs.Expansion.{counted, judged, expansion}
use Rattle.ucd_model.specs.Forms.{appended, expansions}
use Rattle.decomposition.specs.ExpansionProofs.{unmapped_is_alone}

pub expansion_alone : (F : ℕ → Facts) (compat : Bool) (c : ℕ) → counted F compat c ≡ [] → expansion F compat c ≡ Ok (c ∷ [])
expansion_alone F compat c e = ap judged (unmapped_is_alone F compat c e)

pub appended-assoc : (a b c : Result (List ℕ) Rule) → appended (appended a b) c ≡ appended a (appended b c)
appended-assoc (Ok xs) (Ok ys) (Ok zs) = ap (λ ws. Ok ws) (append_assoc xs ys zs)
appended-assoc (Ok xs) (Ok ys) (Err rule) = refl
appended-assoc (Ok xs) (Err rule) c = refl
appended-assoc (Err rule) b c = refl

pub nil-appended : (a : Result (List ℕ) Rule) → appended (Ok []) a ≡ a
nil-appended (Ok xs) = refl
nil-appended (Err rule) = refl

pub expansions_more : (F : ℕ → Facts) (compat : Bool) (s : List ℕ) (i c : ℕ) (now new : List ℕ) → i < length s → c ≡ get_or s i c → appended (Ok now) (expansion F compat c) ≡ Ok new
    → appended (Ok new) (expansions F compat (drop (i + 1) s)) ≡ appended (Ok now) (expansions F compat (drop i s))
expansions_more F compat s i c now new lt is e =
    let rest : Result (List ℕ) Rule = expansions F compat (drop (i + 1) s) in
    let left : expansions F compat (drop i s) ≡ appended (expansion F compat c) rest = at_drop_more (expansions F compat) s i c lt ∙ ap (λ x. appended (expansion F compat x) rest) (sym is) in
    ap (λ a. appended a rest) (sym e) ∙ appended-assoc (Ok now) (expansion F compat c) rest ∙ ap (appended (Ok now)) (sym left)
