-- Rows each of which ends before the next one do not meet, in whatever order they come.
use Rattle.std.proofs.Common.{◌≡◌, suc, ◌+◌, true, false, ◌&&◌, leb, IsTrue, List, [], ◌∷◌, refl, sym, ap, ◌∙◌, arith, IsPermutation, Ordering, Less, Equal, Greater}
use Rattle.std.specs.List.{All, AllByRecursion, IsDistinct}
use Rattle.std.specs.Ordering.{is_le, is_gt, ordering_reverse}
use Rattle.std.specs.BTreeMap.Comparable.{le_lt_trans}
use Rattle.std.proofs.lemmas.Bool.{and_parts, leb-true, false_from_ne_true}
use Rattle.std.proofs.lemmas.List.Elements.{All-head, All-tail}
use Rattle.std.proofs.lemmas.List.Sorted.{IsPermutation-sym, All-permutation}
use Rattle.std.proofs.lemmas.Map.Keys.{IsDistinct-IsPermutation}
use Rattle.ucd_points.specs.PlainProofs.{lt_is}
use Rattle.source_rows.specs.Keys.{same_texts}
use Rattle.release_rows.specs.Chains.{IsChain, IsOrderedPlace, end_place, ends_before, places_meet}
use Rattle.release_rows.specs.Places.{names_in, place_cmp}
use Rattle.release_rows.specs.declared.keyed_extent.KeyedExtent.{KeyedExtent}
use Rattle.release_rows.proofs.PlaceOrder.{place_total, is_before}
use Rattle.release_rows.proofs.RowsApart.{spans_swap, texts_swap}
use Rattle.release_rows.proofs.Texts.{texts_same}

le_is : (o : Ordering) → is_gt o ≡ false → IsTrue (is_le o)
le_is Less h = refl
le_is Equal h = refl
le_is Greater h = absurd cc

-- what ends before a row ends before what that row ends before
before_both : (a b c : KeyedExtent) → IsOrderedPlace b → ends_before a b ≡ true → ends_before b c ≡ true → ends_before a c ≡ true
before_both a b c ordered h k =
    let first = lt_is (place_cmp (end_place a) b.place) h in
    let second = lt_is (place_cmp (end_place b) c.place) k in
    let begins = le_is (place_cmp b.place (end_place b)) (is_before b.place (end_place b) refl ordered) in
    let later = le_lt_trans place_total b.place (end_place b) c.place begins second in
    rw (place_total.trans (end_place a) b.place c.place first later) refl

-- a row does not meet one that it ends before
no_meeting : (a b : KeyedExtent) → ends_before a b ≡ true → places_meet a b ≡ false
no_meeting a b h = false_from_ne_true (places_meet a b) (λ met.
    let parts = and_parts (same_texts (names_in a.place) (names_in b.place)) (leb a.place.code b.last && leb b.place.code a.last) met in
    let spans = and_parts (leb a.place.code b.last) (leb b.place.code a.last) parts.1 in
    let names = sym (texts_same (names_in a.place) (names_in b.place) parts.0) in
    let within = is_before b.place (end_place a) names (leb-true b.place.code a.last spans.1) in
    let behind : place_cmp b.place (end_place a) ≡ Greater = place_total.antisymm b.place (end_place a) ∙ ap ordering_reverse (lt_is (place_cmp (end_place a) b.place) h) in
    absurd (let e = (rw behind at within) in cc))

-- ---- chains

tail : (a : KeyedExtent) (rows : List KeyedExtent) → IsChain (a ∷ rows) → IsChain rows
tail a rows h = λ i d lt.
    let next : suc i + 1 ≡ suc (i + 1) = omega arith in
    rw next at (h (suc i) d (omega arith))

weaker : (a b : KeyedExtent) (rows : List KeyedExtent) → IsOrderedPlace b → ends_before a b ≡ true → AllByRecursion (λ y. ends_before b y ≡ true) rows → AllByRecursion (λ y. ends_before a y ≡ true) rows
weaker a b [] ordered h all = tt
weaker a b (c ∷ rows) ordered h all = (before_both a b c ordered h all.0, weaker a b rows ordered h all.1)

behind : (a : KeyedExtent) (rows : List KeyedExtent) → All IsOrderedPlace rows → IsChain (a ∷ rows) → AllByRecursion (λ y. ends_before a y ≡ true) rows
behind a [] ordered h = tt
behind a (b ∷ rows) ordered h =
    let here : ends_before a b ≡ true = h 0 a (omega arith) in
    (here, weaker a b rows (All-head IsOrderedPlace b rows ordered) here (behind b rows (All-tail IsOrderedPlace b rows ordered) (tail a (b ∷ rows) h)))

none_met : (a : KeyedExtent) (rows : List KeyedExtent) → AllByRecursion (λ y. ends_before a y ≡ true) rows → AllByRecursion (λ y. places_meet a y ≡ false) rows
none_met a [] all = tt
none_met a (b ∷ rows) all = (no_meeting a b all.0, none_met a rows all.1)

chain_apart : (rows : List KeyedExtent) → All IsOrderedPlace rows → IsChain rows → IsDistinct places_meet rows
unfolding IsDistinct
chain_apart [] ordered h = tt
chain_apart (a ∷ rows) ordered h =
    let rest = All-tail IsOrderedPlace a rows ordered in
    (none_met a rows (behind a rows rest h), chain_apart rows rest (tail a rows h))

-- ---- in another order

meet_swap : (a b : KeyedExtent) → places_meet a b ≡ places_meet b a
meet_swap a b = rw (texts_swap (names_in a.place) (names_in b.place), spans_swap a.place.code a.last b.place.code b.last) refl

pub sorted_apart : (rows sorted : List KeyedExtent) → All IsOrderedPlace rows → IsPermutation rows sorted → IsChain sorted → IsDistinct places_meet rows
sorted_apart rows sorted ordered moved chain =
    IsDistinct-IsPermutation places_meet meet_swap sorted rows (IsPermutation-sym rows sorted moved) (chain_apart sorted (All-permutation IsOrderedPlace rows sorted moved ordered) chain)
