-- What a map from places finds, against a test of all its extents.
use Rattle.std.proofs.Common.{◌≡◌, ℕ, suc, Bool, true, false, cond, ◌||◌, List, [], ◌∷◌, map, Option, Some, is_some, refl, ap, ◌∙◌, inl, inr, is_eq}
use Rattle.std.specs.List.{list_any, slice_get}
use Rattle.std.specs.Map.{lookup}
use Rattle.std.specs.BTreeMap.{BTreeMap, get, is_at, IsOrdered}
use Rattle.std.proofs.lemmas.Bool.{or_left, or_right, or_cases}
use Rattle.std.proofs.lemmas.Map.Entries.{btree_map_get_place}
use Rattle.ucd_points.specs.PlainProofs.{equal_is}
use Rattle.release_rows.specs.Extents.{Extent, same_start}
use Rattle.release_rows.specs.Places.{place_cmp, extent_at, extent_of}
use Rattle.release_rows.specs.declared.sort_key.SortKey.{SortKey}
use Rattle.release_rows.proofs.PlaceOrder.{place_total, starts_tell, equal_keys}

start_step : (b : Bool) (v : ℕ) (any : Bool) (found : Option ℕ) → any ≡ is_some found → (b || any) ≡ is_some (cond b (Some v) found)
start_step true v any found h = refl
start_step false v any found h = h

-- a key is found exactly where an extent starts there
pub starts_any : (q : SortKey) (x : ℕ) (es : List (SortKey × ℕ)) → list_any (same_start (extent_at q x)) (map extent_of es) ≡ is_some (lookup (is_at (place_cmp q)) es)
starts_any q x [] = refl
starts_any q x (e ∷ es) = rw (← starts_tell q e.0 x e.1) (start_step (is_at (place_cmp q) e.0) e.1 _ _ (starts_any q x es))

extents_same : (q k : SortKey) (x : ℕ) → is_at (place_cmp q) k ≡ true → extent_at k x ≡ extent_at q x
extents_same q k x h = let same = equal_keys q k h in rw (same.names, same.code) refl

found_step : (p : Extent → Bool) (q : SortKey) (x : ℕ) (e : SortKey × ℕ) (es : List (SortKey × ℕ)) (b : Bool) → is_at (place_cmp q) e.0 ≡ b → (lookup (is_at (place_cmp q)) es ≡ Some x → list_any p (map extent_of es) ≡ true) → cond b (Some e.1) (lookup (is_at (place_cmp q)) es) ≡ Some x → p (extent_at q x) ≡ true → (p (extent_of e) || list_any p (map extent_of es)) ≡ true
found_step p q x e es true at later h passes =
    let value : e.1 ≡ x = cc in
    or_left _ _ (ap (λ (n : ℕ). p (extent_at e.0 n)) value ∙ ap p (extents_same q e.0 x at) ∙ passes)
found_step p q x e es false at later h passes = or_right _ _ (later h)

-- what is found passes a test that some extent passes
pub found_any : (p : Extent → Bool) (q : SortKey) (x : ℕ) (es : List (SortKey × ℕ)) → lookup (is_at (place_cmp q)) es ≡ Some x → p (extent_at q x) ≡ true → list_any p (map extent_of es) ≡ true
found_any p q x [] h passes = absurd cc
found_any p q x (e ∷ es) h passes = found_step p q x e es (is_at (place_cmp q) e.0) refl (λ k. found_any p q x es k passes) h passes

pub record IsPlaced (p : Extent → Bool) (es : List (SortKey × ℕ)) : Type 0 where
  pub at : ℕ
  pub key : SortKey
  pub last : ℕ
  pub stands : slice_get es at ≡ Some (key, last)
  pub passes : p (extent_at key last) ≡ true

placed : (p : Extent → Bool) (es : List (SortKey × ℕ)) → list_any p (map extent_of es) ≡ true → IsPlaced p es
placed p [] h = absurd cc
placed p (e ∷ es) h =
    elim (or_cases (p (extent_of e)) (list_any p (map extent_of es)) h) [
      | inl here ↦ record { at = 0; key = e.0; last = e.1; stands = refl; passes = here }
      | inr later ↦ let rest = placed p es later in record { at = suc rest.at; key = rest.key; last = rest.last; stands = rest.stands; passes = rest.passes }
    ]

pub record IsFound (p : Extent → Bool) (m : BTreeMap SortKey ℕ) : Type 0 where
  pub key : SortKey
  pub last : ℕ
  pub found : get place_cmp m key ≡ Some last
  pub passes : p (extent_at key last) ≡ true

-- an extent that passes a test is found under its key
pub any_found : (p : Extent → Bool) (m : BTreeMap SortKey ℕ) → IsOrdered place_cmp m → list_any p (map extent_of m.entries) ≡ true → IsFound p m
any_found p m ordered h =
    let e = placed p m.entries h in
    record { key = e.key; last = e.last; found = btree_map_get_place place_total m e.at e.key e.last ordered e.stands; passes = e.passes }

-- equal keys find the same
pub finds_same : (a b : SortKey) → is_eq (place_cmp a b) ≡ true → (es : List (SortKey × ℕ)) → lookup (is_at (place_cmp a)) es ≡ lookup (is_at (place_cmp b)) es
finds_same a b h [] = refl
finds_same a b h (e ∷ es) = rw (place_total.congr a b e.0 (equal_is _ h), finds_same a b h es) refl
