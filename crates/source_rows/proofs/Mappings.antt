-- Mappings are given exactly where they are spelled.
use Rattle.std.proofs.Common.{◌≡◌, ℕ, ◌<◌, true, leb, List, [], ◌∷◌, length, map, Option, Some, None, refl, sym, ap, ◌∙◌, arith, leb-true, le-leb}
use Rattle.std.proofs.lemmas.List.{length-map}
use Rattle.source_rows.proofs.Found.{guarded}
use Rattle.ucd_points.specs.Fields.{point_of}
use Rattle.ucd_facts.specs.Mappings.{words, SpellsMapping, onto_points, all_points, mapping_of}
use Rattle.source_rows.specs.DataFaults.{at_least_one}

onto_are : (o : Option ℕ) (rest : Option (List ℕ)) (cs : List ℕ) → onto_points o rest ≡ Some cs → (c : ℕ) × (ds : List ℕ) × (o ≡ Some c) × (rest ≡ Some ds) × (cs ≡ c ∷ ds)
onto_are (Some c) (Some ds) cs h = (c, ds, refl, refl, cc)
onto_are (Some c) None cs h = absurd cc
onto_are None rest cs h = absurd cc

one_more : (o : Option ℕ) (os : List (Option ℕ)) (c : ℕ) (ds cs : List ℕ) → o ≡ Some c → os ≡ map (λ d. Some d) ds → cs ≡ c ∷ ds → o ∷ os ≡ map (λ d. Some d) cs
one_more o os c ds cs first others whole = rw (first, others, whole) refl

points_are : (ws : List (List ℕ)) (cs : List ℕ) → all_points ws ≡ Some cs → map point_of ws ≡ map (λ c. Some c) cs
points_are [] cs h = let e : [] ≡ cs = cc in rw (← e) refl
points_are (w ∷ ws) cs h =
    let k = onto_are (point_of w) (all_points ws) cs h in
    one_more (point_of w) (map point_of ws) k.0 k.1 cs k.2 (points_are ws k.1 k.3) k.4

are_points : (ws : List (List ℕ)) (cs : List ℕ) → map point_of ws ≡ map (λ c. Some c) cs → all_points ws ≡ Some cs
are_points [] [] h = refl
are_points [] (c ∷ cs) h = absurd cc
are_points (w ∷ ws) [] h = absurd cc
are_points (w ∷ ws) (c ∷ cs) h =
    let first : point_of w ≡ Some c = cc in
    let others : map point_of ws ≡ map (λ c. Some c) cs = cc in
    rw (first, are_points ws cs others) refl

same_length : (ws : List (List ℕ)) (cs : List ℕ) → map point_of ws ≡ map (λ c. Some c) cs → length ws ≡ length cs
same_length ws cs h = sym (length-map ws point_of) ∙ ap length h ∙ length-map cs (λ c. Some c)

pub mapping_spelled : (bs cs : List ℕ) → mapping_of bs ≡ Some cs → SpellsMapping bs cs
unfolding mapping_of
mapping_spelled bs cs h =
    let k = guarded (leb (length (words bs)) 64) (all_points (words bs)) cs h in
    let e = points_are (words bs) cs k.1 in
    (e, omega (arith, same_length (words bs) cs e, leb-true (length (words bs)) 64 k.0))

pub mapping_given : (bs cs : List ℕ) → SpellsMapping bs cs → mapping_of bs ≡ Some cs
unfolding mapping_of
mapping_given bs cs s =
    let few : leb (length (words bs)) 64 ≡ true = le-leb (length (words bs)) 64 (omega (arith, same_length (words bs) cs s.0, s.1)) in
    rw few (are_points (words bs) cs s.0)

pub at_least : (o : Option (List ℕ)) (cs : List ℕ) → at_least_one o ≡ Some cs → (o ≡ Some cs) × (0 < length cs)
at_least (Some (c ∷ ds)) cs h = let e : c ∷ ds ≡ cs = cc in (h, rw (← e) (omega arith))
at_least _ cs h = absurd cc

pub one_or_more : (cs : List ℕ) → 0 < length cs → at_least_one (Some cs) ≡ Some cs
one_or_more [] h = absurd (omega arith)
one_or_more (c ∷ cs) h = refl
