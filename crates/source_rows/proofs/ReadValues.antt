-- What is read is a value that the file can have.
use Rattle.std.proofs.Common.{◌≡◌, ◌≢◌, ℕ, ◌<◌, ◌≤◌, Bool, true, false, cond, ltb, leb, ◌&&◌, List, [], ◌∷◌, length, map, Option, Some, None, refl, ap, ◌∙◌, arith, inl, inr, not}
use Rattle.std.specs.List.{All, list_any, list_all, join_with_byte}
use Rattle.std.proofs.lemmas.Bool.{ltb-true, leb-true, and_parts, and_from, or_parts, not-false}
use Rattle.std.proofs.lemmas.List.Elements.{All-nil, All-cons}
use Rattle.std.proofs.lemmas.Option.{cond_some}
use Rattle.source_rows.proofs.Found.{guarded}
use Rattle.ucd_points.specs.Bounds.{Bounds}
use Rattle.ucd_facts.specs.Names.{letter_of, mark_of, number_of, punctuation_of, symbol_of, separator_of, other_of, category_of}
use Rattle.ucd_points.specs.Fields.{point_of, if_point, some_point, hex_number, SpellsSpan, is_digit, is_class, decimal_number, class_of, case_of}
use Rattle.ucd_facts.specs.Mappings.{words, SpellsMapping, is_condition_byte, spaced_words, conditions_of}
use Rattle.ucd_facts.specs.DataLines.{SpellsDecomposition}
use Rattle.ucd_facts.specs.RowValues.{IsPoint, IsSpan, IsMapping, DecompositionOk, CaseOk}
use Rattle.ucd_facts.specs.declared.category.Category.{Category}
use Rattle.ucd_facts.specs.declared.category.Category.TheVariants.{Lu, Ll, Lt, Lm, Lo, Mn, Mc, Me, Nd, Nl, No, Pc, Pd, Ps, Pe, Pi, Pf, Po, Sm, Sc, Sk, So, Zs, Zl, Zp, Cc, Cf, Cs, Co, Cn}
use Rattle.ucd_facts.specs.declared.decomposition.Kind.{Kind}
use Rattle.ucd_facts.specs.declared.decomposition.Kind.TheVariants.{Plain, Canonical, Compat}
use Rattle.source_rows.proofs.Lacks.{Lacks, lacks_all, lacks_join}
use Rattle.source_rows.proofs.WordTexts.{words_again, conditions_are}
use Rattle.source_rows.proofs.FieldValues.{words_keep}

-- ---- code points

bounded : (b : Bool) (n c : ℕ) → ltb n 1114112 ≡ b → cond b (Some n) None ≡ Some c → c < 1114112
bounded true n c e h = let lt = ltb-true n 1114112 e in let same : n ≡ c = cc in omega arith
bounded false n c e h = absurd cc

point_bound : (o : Option ℕ) (c : ℕ) → if_point o ≡ Some c → c < 1114112
point_bound (Some n) c h = bounded (ltb n 1114112) n c refl h
point_bound None c h = absurd cc

pub is_point : (bs : List ℕ) (c : ℕ) → point_of bs ≡ Some c → IsPoint c
unfolding point_of
is_point bs c h = point_bound (hex_number bs) c (guarded _ _ c h).1

pub is_span : (bs : List ℕ) (s : Bounds) → SpellsSpan bs s → IsSpan s
is_span bs s (inl one) = let lo = is_point bs s.lo one.lo in (omega (arith, one.hi), omega (arith, one.hi))
is_span bs s (inr two) = (two.ordered, is_point two.second s.hi two.hi)

points_are : (ws : List (List ℕ)) (cs : List ℕ) → map point_of ws ≡ map (λ c. Some c) cs → All IsPoint cs
points_are ws [] h = All-nil IsPoint
points_are [] (c ∷ cs) h = absurd cc
points_are (w ∷ ws) (c ∷ cs) h =
    let first : point_of w ≡ Some c = cc in
    let others : map point_of ws ≡ map (λ c. Some c) cs = cc in
    All-cons IsPoint c cs (is_point w c first) (points_are ws cs others)

pub is_mapping : (bs cs : List ℕ) → SpellsMapping bs cs → IsMapping cs
is_mapping bs cs s = (points_are (words bs) cs s.0, s.1)

pub decomposition_ok : (bs : List ℕ) (kind : Kind) (cs : List ℕ) → SpellsDecomposition bs kind cs → DecompositionOk kind cs
decomposition_ok bs Plain cs s = s.1
decomposition_ok bs Canonical cs s = ((is_mapping bs cs s.0).0, s.1, s.2)
decomposition_ok bs (Compat tag) cs s = (is_mapping s.0 cs s.2, s.3)

some_point_ok : (o : Option ℕ) (r : Option ℕ) (bs : List ℕ) → point_of bs ≡ o → some_point o ≡ Some r → CaseOk r
some_point_ok (Some c) (Some d) bs e h = let same : c ≡ d = cc in rw (← same) (is_point bs c e)
some_point_ok (Some c) None bs e h = tt
some_point_ok None r bs e h = absurd cc

pub case_ok : (bs : List ℕ) (o : Option ℕ) → case_of bs ≡ Some o → CaseOk o
case_ok [] (Some c) h = absurd cc
case_ok [] None h = tt
case_ok (b ∷ bs) o h = some_point_ok (point_of (b ∷ bs)) o (b ∷ bs) refl h

pub class_ok : (bs : List ℕ) (n : ℕ) → class_of bs ≡ Some n → n ≤ 254
unfolding class_of
class_ok bs n h =
    let k = cond_some (is_class bs) (decimal_number bs) n h in
    let m = and_parts ((leb 1 (length bs) && leb (length bs) 3) && list_all is_digit bs) (leb (decimal_number bs) 254) k.0 in
    omega (arith, leb-true (decimal_number bs) 254 m.1, k.1)

-- ---- no bytes name Cn

abbrev IsOther : Option Category → Type 0
IsOther o = o ≡ Some Cn → ⊥

other_or : (b : Bool) (k : Category) (rest : Option Category) → (k ≡ Cn → ⊥) → IsOther rest → IsOther (cond b (Some k) rest)
other_or true k rest differs others h = differs cc
other_or false k rest differs others h = others h

either : (b : Bool) (one rest : Option Category) → IsOther one → IsOther rest → IsOther (cond b one rest)
either true one rest h k = h
either false one rest h k = k

no_category : IsOther None
no_category h = cc

no_letter : (b : ℕ) → IsOther (letter_of b)
no_letter b = other_or _ Lu _ (λ e. cc) (other_or _ Ll _ (λ e. cc) (other_or _ Lt _ (λ e. cc) (other_or _ Lm _ (λ e. cc) (other_or _ Lo _ (λ e. cc) no_category))))

no_mark : (b : ℕ) → IsOther (mark_of b)
no_mark b = other_or _ Mn _ (λ e. cc) (other_or _ Mc _ (λ e. cc) (other_or _ Me _ (λ e. cc) no_category))

no_number : (b : ℕ) → IsOther (number_of b)
no_number b = other_or _ Nd _ (λ e. cc) (other_or _ Nl _ (λ e. cc) (other_or _ No _ (λ e. cc) no_category))

no_punctuation : (b : ℕ) → IsOther (punctuation_of b)
no_punctuation b = other_or _ Pc _ (λ e. cc) (other_or _ Pd _ (λ e. cc) (other_or _ Ps _ (λ e. cc) (other_or _ Pe _ (λ e. cc) (other_or _ Pi _ (λ e. cc) (other_or _ Pf _ (λ e. cc) (other_or _ Po _ (λ e. cc) no_category))))))

no_symbol : (b : ℕ) → IsOther (symbol_of b)
no_symbol b = other_or _ Sm _ (λ e. cc) (other_or _ Sc _ (λ e. cc) (other_or _ Sk _ (λ e. cc) (other_or _ So _ (λ e. cc) no_category)))

no_separator : (b : ℕ) → IsOther (separator_of b)
no_separator b = other_or _ Zs _ (λ e. cc) (other_or _ Zl _ (λ e. cc) (other_or _ Zp _ (λ e. cc) no_category))

no_other : (b : ℕ) → IsOther (other_of b)
no_other b = other_or _ Cc _ (λ e. cc) (other_or _ Cf _ (λ e. cc) (other_or _ Cs _ (λ e. cc) (other_or _ Co _ (λ e. cc) no_category)))

pub not_unassigned : (bs : List ℕ) (k : Category) → category_of bs ≡ Some k → k ≢ Cn
not_unassigned (a ∷ b ∷ []) k h = λ e. two a b (h ∙ ap (λ (x : Category). Some x) e)
  where
    two : (a b : ℕ) → IsOther (category_of (a ∷ b ∷ []))
    two a b = either _ _ _ (no_letter b) (either _ _ _ (no_mark b) (either _ _ _ (no_number b) (either _ _ _ (no_punctuation b) (either _ _ _ (no_symbol b) (either _ _ _ (no_separator b) (either _ _ _ (no_other b) no_category))))))
not_unassigned _ k h = absurd cc

-- ---- conditions

not_all : (q : ℕ → Bool) (xs : List ℕ) → list_all q xs ≡ true → Lacks (λ b. not (q b)) xs
not_all q xs h = lacks_all (λ b. not (q b)) q xs (λ b e. ap not e) h

all_not : (q : ℕ → Bool) (xs : List ℕ) → Lacks (λ b. not (q b)) xs → list_all q xs ≡ true
all_not q [] h = refl
all_not q (x ∷ xs) h =
    let k = or_parts (not (q x)) (list_any (λ b. not (q b)) xs) h in
    and_from (q x) (list_all q xs) (not-false (q x) k.0) (all_not q xs k.1)

pub spaced_lacks : (p : ℕ → Bool) (bs : List ℕ) → p 32 ≡ false → Lacks p bs → Lacks p (spaced_words bs)
spaced_lacks p bs space h = lacks_join p 32 (words bs) space (words_keep p bs h)

spaced_again : (bs : List ℕ) → spaced_words (spaced_words bs) ≡ spaced_words bs
spaced_again bs = ap (λ (ws : List (List ℕ)). join_with_byte 32 ws) (words_again bs)

pub conditions_again : (bs cs : List ℕ) → conditions_of bs ≡ Some cs → conditions_of cs ≡ Some cs
unfolding conditions_of
conditions_again bs cs h =
    let k = conditions_are bs cs h in
    let all : list_all is_condition_byte (spaced_words bs) ≡ true = all_not is_condition_byte (spaced_words bs) (spaced_lacks (λ b. not (is_condition_byte b)) bs refl (not_all is_condition_byte bs k.0)) in
    rw (← k.1, all, spaced_again bs) refl
