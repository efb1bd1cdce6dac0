-- Look-ups by bytes.
-- lookup_insert    what is found after an insertion
-- add_name_is      a name put last, unless it is there
-- placed_at        the name at a place of a set
use Rattle.std.proofs.Common.{◌≡◌, ℕ, Bool, true, false, cond, if◌then◌else◌, ◌||◌, List, [], ◌∷◌, ◌++◌, map, Some, refl, sym, ap, ◌∙◌, option_map, slice_get, bytes_eq}
use Rattle.std.specs.Map.{lookup}
use Rattle.std.proofs.lemmas.Option.{slice_get-map}
use Rattle.std.proofs.lemmas.Slice.Eq.{bytes_eq-Decides}
use Rattle.std.specs.List.{list_any}
use Rattle.std.proofs.lemmas.List.{map-append}
use Rattle.indexmap.specs.IndexMap.{insert_entry}
use Rattle.indexmap.specs.IndexSet.{insert_key}
use Rattle.property_aliases.specs.Sources.{add_name}

module _ {K X : Type 0} (bytes : K → List ℕ) where
  pub lookup_insert : (es : List (K × X)) (k : K) (v : X) (other : List ℕ) → lookup (λ q. bytes_eq other (bytes q)) (insert_entry (λ x y. bytes_eq (bytes x) (bytes y)) es k v) ≡ cond (bytes_eq other (bytes k)) (Some v) (lookup (λ q. bytes_eq other (bytes q)) es)
  lookup_insert [] k v other = refl
  lookup_insert (e ∷ es) k v other = go (bytes_eq (bytes k) (bytes e.0)) refl (bytes_eq other (bytes e.0)) refl (bytes_eq other (bytes k)) refl (lookup_insert es k v other)
    where
      go : (b : Bool) → bytes_eq (bytes k) (bytes e.0) ≡ b → (p : Bool) → bytes_eq other (bytes e.0) ≡ p → (q : Bool) → bytes_eq other (bytes k) ≡ q →
          lookup (λ q. bytes_eq other (bytes q)) (insert_entry (λ x y. bytes_eq (bytes x) (bytes y)) es k v) ≡ cond (bytes_eq other (bytes k)) (Some v) (lookup (λ q. bytes_eq other (bytes q)) es) →
          lookup (λ q. bytes_eq other (bytes q)) (insert_entry (λ x y. bytes_eq (bytes x) (bytes y)) (e ∷ es) k v) ≡ cond q (Some v) (lookup (λ q. bytes_eq other (bytes q)) (e ∷ es))
      go true h true i true j rest = rw (h, i) refl
      go true h false i false j rest = rw (h, i) refl
      go true h true i false j rest = absurd (let key : bytes k ≡ bytes e.0 = (bytes_eq-Decides (bytes k) (bytes e.0)).0 h in let e : true ≡ false = sym i ∙ ap (bytes_eq other) (sym key) ∙ j in cc)
      go true h false i true j rest = absurd (let key : bytes k ≡ bytes e.0 = (bytes_eq-Decides (bytes k) (bytes e.0)).0 h in let e : true ≡ false = sym j ∙ ap (bytes_eq other) key ∙ i in cc)
      go false h true i true j rest = absurd (
          let first : other ≡ bytes e.0 = (bytes_eq-Decides other (bytes e.0)).0 i in
          let second : other ≡ bytes k = (bytes_eq-Decides other (bytes k)).0 j in
          let e : true ≡ false = sym ((bytes_eq-Decides (bytes k) (bytes e.0)).1 (sym second ∙ first)) ∙ h in cc)
      go false h true i false j rest = rw (h, i) refl
      go false h false i true j rest = rw (h, i, rest, j) refl
      go false h false i false j rest = rw (h, i, rest, j) refl

-- a name put last into a set is a name put last into its list
pub add_name_is : {K : Type 0} (bytes : K → List ℕ) (ks : List K) (k : K) → map bytes (insert_key (λ x y. bytes_eq (bytes x) (bytes y)) ks k) ≡ add_name (map bytes ks) (bytes k)
add_name_is {K} bytes ks k = rw (any_is ks) (go (list_any (bytes_eq (bytes k)) (map bytes ks)))
  where
    any_is : (xs : List K) → list_any (λ y. bytes_eq (bytes k) (bytes y)) xs ≡ list_any (bytes_eq (bytes k)) (map bytes xs)
    any_is [] = refl
    any_is (x ∷ xs) = ap (λ b. bytes_eq (bytes k) (bytes x) || b) (any_is xs)

    go : (b : Bool) → map bytes (if b then ks else ks ++ k ∷ []) ≡ (if b then map bytes ks else map bytes ks ++ bytes k ∷ [])
    go true = refl
    go false = map-append bytes ks (k ∷ [])

-- the key that stands at a place has the bytes of the name that was looked for
pub placed_at : {K : Type 0} (bytes : K → List ℕ) (ks : List K) (n : ℕ) (k : K) (name : List ℕ) → slice_get ks n ≡ Some k → bytes_eq name (bytes k) ≡ true → slice_get (map bytes ks) n ≡ Some name
placed_at bytes ks n k name at same = slice_get-map bytes ks n ∙ ap (option_map bytes) at ∙ ap Some (sym ((bytes_eq-Decides name (bytes k)).0 same))
