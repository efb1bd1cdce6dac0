use Rattle.std.proofs.Common.{◌≡◌, ◌<◌, ℕ, Bool, true, false, cond, List, [], ◌∷◌, length, Option, Some, None, refl, sym, ap, ◌∙◌, arith, nat_eq, slice_get, slice_set, if◌then◌else◌, eqb-true}
use Rattle.std.specs.Option.{option_map_or}
use Rattle.std.proofs.lemmas.Option.{slice_get_read}
use Rattle.std.proofs.lemmas.Result.{on_ok_weaker}
use Rattle.property_aliases.specs.Kinds.{kind_of, number_at}
use Rattle.property_aliases.specs.NumberMaps.{number_in}
use Rattle.property_aliases.specs.Properties.{property_by}
use Rattle.property_aliases.specs.ResolvingLaws.{least, least_none, put, row_number, rows_number}
use Rattle.property_aliases.specs.declared.number_map.NumberMap.{NumberMap}
use Rattle.property_aliases.proofs.NumbersAt.{number_at_set}
use Rattle.property_aliases.proofs.value_rows.add_row_to_map.Goals as goal

-- a row more in the map with an index
one_more : (before reached : List NumberMap) (at : ℕ) (old new direct : NumberMap) (f : ℕ → List ℕ → Option ℕ) (row : List (List ℕ))
    → at < length reached
    → ((i : ℕ) (key : List ℕ) → number_at reached i key ≡ number_at before i key)
    → slice_get reached at ≡ Some old
    → f at ≡ number_in direct
    → ((key : List ℕ) → number_in new key ≡ least (number_in old key) (put row key (row_number (number_in direct) row)))
    → (i : ℕ) (key : List ℕ) → number_at (slice_set reached at new) i key ≡ least (number_at before i key) (rows_number (f i) (if nat_eq at i then row ∷ [] else []) key)
one_more before reached at old new direct f row lt same slot from added i key = number_at_set reached at new i key lt ∙ go (nat_eq at i) refl
  where
    here : number_in new key ≡ least (number_at before at key) (rows_number (f at) (row ∷ []) key)
    here =
        added key
        ∙ ap (λ (g : List ℕ → Option ℕ). least (number_in old key) (put row key (row_number g row))) (sym from)
        ∙ ap (λ n. least n (put row key (row_number (f at) row))) (ap (λ (m : Option NumberMap). option_map_or (λ x. number_in x key) m None) (sym slot) ∙ same at key)
        ∙ ap (least (number_at before at key)) (sym (least_none (put row key (row_number (f at) row))))

    go : (b : Bool) → nat_eq at i ≡ b → cond b (number_in new key) (number_at reached i key) ≡ least (number_at before i key) (rows_number (f i) (if b then row ∷ [] else []) key)
    go true e =
        let place : at ≡ i = eqb-true at i e in
        here ∙ ap (λ k. least (number_at before k key) (rows_number (f k) (row ∷ []) key)) place
    go false e = same i key ∙ sym (least_none (number_at before i key))

pub returns : goal.returns
returns c =
    let maps = c.args.kinds.now in
    let kind = c.names_kind_of.result in
    let f : ℕ → List ℕ → Option ℕ = λ i. number_at maps (kind_of (property_by i)) in
    let below : kind < length maps = omega (arith, c.names_kind_of.ensures.below, c.requires.kinds) in
    let found : slice_get maps kind ≡ Some c.index-kinds-names_kind_of.result = slice_get_read maps (length maps) kind c.index-kinds-names_kind_of.result refl below c.index-kinds-names_kind_of.is in
    let from : f c.args.index ≡ number_in c.index-kinds-names_kind_of.result =
    ap {B = List ℕ → Option ℕ} (λ k. number_at maps k) (ap kind_of (sym c.property_by.ensures) ∙ sym c.names_kind_of.ensures.kind)
    ∙ ap {B = List ℕ → Option ℕ} (λ (m : Option NumberMap) key. option_map_or (λ x. number_in x key) m None) found in
    let reached = c.make_maps_up_to.new.maps.items in
    let slot = slice_get_read reached (length reached) c.args.index c.index_mut.result.now refl c.in_ok-make_maps_up_to.ensures.reached c.index_mut.ensures.value in
    on_ok_weaker c.add_row.result (one_more c.args.maps.now.items reached c.args.index c.index_mut.result.now c.add_row.new.rows c.index-kinds-names_kind_of.result f c.args.row.now c.in_ok-make_maps_up_to.ensures.reached c.in_ok-make_maps_up_to.ensures.numbers slot from) c.add_row.ensures
