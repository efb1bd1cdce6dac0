-- Rows of UnicodeData.txt are given exactly where the grammar reads them, by the fields of a line.
use Rattle.std.proofs.Common.{◌≡◌, ℕ, ◌+◌, ◌<◌, ◌≤◌, Bool, true, false, cond, eqb, leb, ◌&&◌, List, [], ◌∷◌, ◌++◌, length, map, get_or, Option, Some, None, Result, Ok, Err, refl, ap, subst, ◌∙◌, arith, inl, inr, filter}
use Rattle.std.specs.List.{slice_split, onto_first, position_or_len, before_first, after_first}
use Rattle.std.proofs.lemmas.Bool.{eqb-true, leb-true, le-leb, cases_lt}
use Rattle.std.proofs.lemmas.List.{drop_all}
use Rattle.std.proofs.lemmas.List.Sums.{split_at_first, passes_at_first}
use Rattle.ucd_facts.specs.Names.{category_of, tag_of, tag_text}
use Rattle.ucd_points.specs.Lines.{is_blank}
use Rattle.ucd_points.specs.Fields.{field, point_of, class_of, case_of}
use Rattle.ucd_facts.specs.Mappings.{is_some_bytes, words, SpellsMapping, mapping_of}
use Rattle.ucd_facts.specs.DataLines.{SpellsDecomposition, ReadsValues}
use Rattle.ucd_facts.specs.declared.category.Category.{Category}
use Rattle.ucd_facts.specs.declared.decomposition.Kind.{Kind}
use Rattle.ucd_facts.specs.declared.decomposition.Kind.TheVariants.{Plain, Canonical, Compat}
use Rattle.ucd_facts.specs.declared.decomposition.Tag.{Tag}
use Rattle.ucd_facts.specs.declared.decomposition.Tag.TheVariants.{Font}
use Rattle.ucd_facts.specs.declared.row.DataRow.{DataRow}
use Rattle.source_rows.specs.Steps.{or_fault, and_then}
use Rattle.source_rows.specs.DataFaults.{at_least_one, is_gt, canonical_or_fault, compat_or_fault, decomposition_or_fault, values_or_fault}
use Rattle.source_rows.specs.declared.decomposition.Decomposition.{Decomposition}
use Rattle.source_rows.specs.declared.data_values.Values.{Values}
use Rattle.source_rows.specs.declared.fault.RowFault.{RowFault}
use Rattle.source_rows.specs.declared.fault.RowFault.TheVariants.{G05, G06, G07, G10}
use Rattle.source_rows.proofs.Digits.{none_stays}
use Rattle.source_rows.proofs.Words.{no_words}
use Rattle.source_rows.proofs.Mappings.{mapping_spelled, mapping_given, at_least, one_or_more}
use Rattle.source_rows.proofs.Tags.{open_before, rest_after, open_is_tag, tag_is, tag_whole}
use Rattle.source_rows.proofs.Found.{passed, found, after, none_either}

-- ---- field 5, as it is read

abbrev with_few : List ℕ → Result Decomposition RowFault
with_few cs = cond (leb (length cs) 2) (Ok (record { kind = Canonical; mapping = cs })) (Err G10)

canonical_read : (bs : List ℕ) (d : Decomposition) → canonical_or_fault bs ≡ Ok d → SpellsDecomposition bs d.kind d.mapping
canonical_read bs d h =
    let a = found G07 (at_least_one (mapping_of bs)) with_few d h in
    let b = passed (leb (length a.0) 2) (Ok (record { kind = Canonical; mapping = a.0 })) G10 d a.2 in
    let m = at_least (mapping_of bs) a.0 a.1 in
    let same : record { kind = Canonical; mapping = a.0 } ≡ d = cc in
    subst (λ (x : Decomposition). SpellsDecomposition bs x.kind x.mapping) same (mapping_spelled bs a.0 m.0, m.1, leb-true (length a.0) 2 b.0)

abbrev with_compat : Tag → List ℕ → Result Decomposition RowFault
with_compat tag cs = Ok (record { kind = Compat tag; mapping = cs })

abbrev with_tag : List ℕ → Tag → Result Decomposition RowFault
with_tag bs tag = or_fault G07 (at_least_one (mapping_of (after_first is_gt bs))) (with_compat tag)

no_mapping : (bs cs : List ℕ) → bs ≡ [] → at_least_one (mapping_of bs) ≡ Some cs → ⊥
no_mapping bs cs e h =
    let m = at_least (mapping_of bs) cs h in
    let s = mapping_spelled bs cs m.0 in
    nothing bs cs e s.0 m.1
  where
    nothing : (bs cs : List ℕ) → bs ≡ [] → map point_of (words bs) ≡ map (λ c. Some c) cs → 0 < length cs → ⊥
    nothing bs [] e h some = omega arith
    nothing bs (c ∷ cs) e h some = let k = rw (e, no_words) at h in cc

-- a text with its `>` is what stands before it, it, and what stands behind it
cut_at_gt : (bs : List ℕ) → position_or_len is_gt bs < length bs → bs ≡ before_first is_gt bs ++ 62 ∷ after_first is_gt bs
cut_at_gt bs lt =
    let gt : get_or bs (position_or_len is_gt bs) 0 ≡ 62 = eqb-true _ _ (passes_at_first is_gt bs 0 lt) in
    split_at_first is_gt bs 0 lt ∙ ap (λ (b : ℕ). before_first is_gt bs ++ b ∷ after_first is_gt bs) gt

tagged : (bs cs : List ℕ) (tag : Tag) → tag_of (before_first is_gt bs) ≡ Some tag → at_least_one (mapping_of (after_first is_gt bs)) ≡ Some cs → bs ≡ tag_text tag ++ after_first is_gt bs
tagged bs cs tag t m =
    elim (cases_lt (position_or_len is_gt bs) (length bs)) [
      | inl lt ↦ cut_at_gt bs lt ∙ ap (λ (xs : List ℕ). xs ++ 62 ∷ after_first is_gt bs) (tag_is (before_first is_gt bs) tag t) ∙ tag_whole tag (after_first is_gt bs)
      | inr le ↦ absurd (no_mapping (after_first is_gt bs) cs (drop_all (position_or_len is_gt bs + 1) bs (omega arith)) m)
    ]

compat_read : (bs : List ℕ) (d : Decomposition) → compat_or_fault bs ≡ Ok d → SpellsDecomposition bs d.kind d.mapping
compat_read bs d h =
    let a = found G07 (tag_of (before_first is_gt bs)) (with_tag bs) d h in
    let b = found G07 (at_least_one (mapping_of (after_first is_gt bs))) (with_compat a.0) d a.2 in
    let m = at_least (mapping_of (after_first is_gt bs)) b.0 b.1 in
    let same : record { kind = Compat a.0; mapping = b.0 } ≡ d = cc in
    subst (λ (x : Decomposition). SpellsDecomposition bs x.kind x.mapping) same (after_first is_gt bs, tagged bs b.0 a.0 a.1 b.1, mapping_spelled (after_first is_gt bs) b.0 m.0, m.1)

some_read : (b : Bool) (bs : List ℕ) (d : Decomposition) → cond b (compat_or_fault bs) (canonical_or_fault bs) ≡ Ok d → SpellsDecomposition bs d.kind d.mapping
some_read true bs d h = compat_read bs d h
some_read false bs d h = canonical_read bs d h

pub decomposition_read : (bs : List ℕ) (d : Decomposition) → decomposition_or_fault bs ≡ Ok d → SpellsDecomposition bs d.kind d.mapping
unfolding decomposition_or_fault
decomposition_read [] d h =
    let same : record { kind = Plain; mapping = [] } ≡ d = cc in
    subst (λ (x : Decomposition). SpellsDecomposition [] x.kind x.mapping) same (refl, refl)
decomposition_read (b ∷ bs) d h = some_read (eqb b 60) (b ∷ bs) d h

-- ---- field 5, as it is spelled

no_point : (bs : List ℕ) → point_of (60 ∷ bs) ≡ None
unfolding point_of
no_point bs = rw (none_stays bs) (none_either (leb 4 (length (60 ∷ bs)) && leb (length (60 ∷ bs)) 6))

not_first : (w : List ℕ) (ws : List (List ℕ)) (cs : List ℕ) → map point_of ((60 ∷ w) ∷ ws) ≡ map (λ c. Some c) cs → ⊥
not_first w ws [] h = cc
not_first w ws (c ∷ cs) h = let none = no_point w in cc

not_words : (parts : List (List ℕ)) (cs : List ℕ) → map point_of (filter is_some_bytes (onto_first 60 parts)) ≡ map (λ c. Some c) cs → ⊥
not_words [] cs h = not_first [] [] cs h
not_words (part ∷ parts) cs h = not_first part (filter is_some_bytes parts) cs h

-- a mapping does not begin with `<`
not_tag : (bs cs : List ℕ) → SpellsMapping (60 ∷ bs) cs → ⊥
unfolding words
not_tag bs cs s = not_words (slice_split is_blank bs) cs s.0

canonical_given : (bs cs : List ℕ) → SpellsMapping bs cs → 0 < length cs → length cs ≤ 2 → canonical_or_fault bs ≡ Ok (record { kind = Canonical; mapping = cs })
canonical_given bs cs s some few = rw (mapping_given bs cs s, one_or_more cs some, le-leb (length cs) 2 few) refl

untagged : (b : ℕ) (bs cs : List ℕ) (t : Bool) → eqb b 60 ≡ t → SpellsMapping (b ∷ bs) cs → eqb b 60 ≡ false
untagged b bs cs true e s = let k = rw (eqb-true b 60 e) at s in absurd (not_tag bs cs k)
untagged b bs cs false e s = e

some_canonical : (bs cs : List ℕ) → SpellsMapping bs cs → 0 < length cs → length cs ≤ 2 → decomposition_or_fault bs ≡ Ok (record { kind = Canonical; mapping = cs })
unfolding decomposition_or_fault
some_canonical [] cs s some few = absurd (no_mapping [] cs refl (rw (mapping_given [] cs s) (one_or_more cs some)))
some_canonical (b ∷ bs) cs s some few = rw (untagged b bs cs (eqb b 60) refl s) (canonical_given (b ∷ bs) cs s some few)

compat_given : (tag : Tag) (rest cs : List ℕ) → SpellsMapping rest cs → 0 < length cs → compat_or_fault (tag_text tag ++ rest) ≡ Ok (record { kind = Compat tag; mapping = cs })
compat_given tag rest cs s some = rw (open_before tag rest, rest_after tag rest, open_is_tag tag, mapping_given rest cs s, one_or_more cs some) refl

tag_first : (tag : Tag) (rest : List ℕ) → decomposition_or_fault (tag_text tag ++ rest) ≡ compat_or_fault (tag_text tag ++ rest)
unfolding decomposition_or_fault
tag_first Font rest = refl
tag_first _ rest = refl

pub decomposition_given : (bs : List ℕ) (kind : Kind) (cs : List ℕ) → SpellsDecomposition bs kind cs → decomposition_or_fault bs ≡ Ok (record { kind = kind; mapping = cs })
unfolding decomposition_or_fault
decomposition_given bs Plain cs s = rw (s.0, s.1) refl
decomposition_given bs Canonical cs s = some_canonical bs cs s.0 s.1 s.2
decomposition_given bs (Compat tag) cs s = rw s.1 (tag_first tag s.0 ∙ compat_given tag s.0 cs s.2 s.3)

-- ---- fields 2 to 14

abbrev whole_values : Category → ℕ → Decomposition → Option ℕ → Option ℕ → Option ℕ → Result Values RowFault
whole_values category class d upper lower title = Ok (record { category = category; class = class; decomposition = d; upper = upper; lower = lower; title = title })

abbrev with_lower : List (List ℕ) → Category → ℕ → Decomposition → Option ℕ → Option ℕ → Result Values RowFault
with_lower fs category class d upper lower = or_fault G07 (case_of (field fs 14)) (whole_values category class d upper lower)

abbrev with_upper : List (List ℕ) → Category → ℕ → Decomposition → Option ℕ → Result Values RowFault
with_upper fs category class d upper = or_fault G07 (case_of (field fs 13)) (with_lower fs category class d upper)

abbrev with_decomposition : List (List ℕ) → Category → ℕ → Decomposition → Result Values RowFault
with_decomposition fs category class d = or_fault G07 (case_of (field fs 12)) (with_upper fs category class d)

abbrev with_class : List (List ℕ) → Category → ℕ → Result Values RowFault
with_class fs category class = and_then (decomposition_or_fault (field fs 5)) (with_decomposition fs category class)

abbrev with_category : List (List ℕ) → Category → Result Values RowFault
with_category fs category = or_fault G06 (class_of (field fs 3)) (with_class fs category)

pub record ValuesAre (fs : List (List ℕ)) (v : Values) : Type 0 where
  pub category : category_of (field fs 2) ≡ Some v.category
  pub class : class_of (field fs 3) ≡ Some v.class
  pub decomposition : SpellsDecomposition (field fs 5) v.decomposition.kind v.decomposition.mapping
  pub upper : case_of (field fs 12) ≡ Some v.upper
  pub lower : case_of (field fs 13) ≡ Some v.lower
  pub title : case_of (field fs 14) ≡ Some v.title

pub values_read : (fs : List (List ℕ)) (v : Values) → values_or_fault fs ≡ Ok v → ValuesAre fs v
unfolding values_or_fault
values_read fs v h =
    let a = found G05 (category_of (field fs 2)) (with_category fs) v h in
    let b = found G06 (class_of (field fs 3)) (with_class fs a.0) v a.2 in
    let c = after (decomposition_or_fault (field fs 5)) (with_decomposition fs a.0 b.0) v b.2 in
    let d = found G07 (case_of (field fs 12)) (with_upper fs a.0 b.0 c.0) v c.2 in
    let e = found G07 (case_of (field fs 13)) (with_lower fs a.0 b.0 c.0 d.0) v d.2 in
    let f = found G07 (case_of (field fs 14)) (whole_values a.0 b.0 c.0 d.0 e.0) v e.2 in
    let same : record { category = a.0; class = b.0; decomposition = c.0; upper = d.0; lower = e.0; title = f.0 } ≡ v = cc in
    subst (λ (x : Values). ValuesAre fs x) same (record { category = a.1; class = b.1; decomposition = decomposition_read (field fs 5) c.0 c.1; upper = d.1; lower = e.1; title = f.1 })

pub values_given : (fs : List (List ℕ)) (row : DataRow) → ReadsValues fs row → values_or_fault fs ≡ Ok (record { category = row.category; class = row.class; decomposition = record { kind = row.kind; mapping = row.mapping }; upper = row.upper; lower = row.lower; title = row.title })
unfolding values_or_fault
values_given fs row r = rw (r.category, r.class, decomposition_given (field fs 5) row.kind row.mapping r.decomposition, r.upper, r.lower, r.title) refl
