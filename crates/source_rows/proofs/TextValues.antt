-- What is written of a value is read as that value.
use Rattle.std.proofs.Common.{◌≡◌, ℕ, ◌+◌, ◌/◌, ◌%◌, ◌<◌, ◌≤◌, Bool, true, false, eqb, List, [], ◌∷◌, ◌++◌, length, map, Option, Some, None, nat_lt, refl, sym, ap, ◌∙◌, append_assoc, arith, inl, inr, filter, codes, decimal}
use Rattle.std.specs.List.{All, list_all, join_with_byte}
use Rattle.std.proofs.lemmas.Bool.{eqb-true, cond_both, ltb-true, le-leb, and_from, and_parts}
use Rattle.std.proofs.lemmas.Bool.Decides.{nat_tests}
use Rattle.std.proofs.lemmas.List.Elements.{All-nil, All-cons, All-head, All-tail}
use Rattle.ucd_points.specs.Bounds.{Bounds}
use Rattle.ucd_points.specs.Lines.{is_blank}
use Rattle.ucd_facts.specs.Names.{category_code, status_code, tag_text}
use Rattle.ucd_points.specs.Fields.{point_of, SpellsSpan, class_of, is_class, is_digit, decimal_number, case_of, trim}
use Rattle.ucd_facts.specs.Mappings.{is_some_bytes, words, SpellsMapping}
use Rattle.ucd_facts.specs.DataLines.{SpellsDecomposition}
use Rattle.ucd_points.specs.HexText.{hex_digit, hex_text, span_text}
use Rattle.ucd_facts.specs.RowTexts.{mapping_text, decomposition_text, case_text}
use Rattle.source_rows.proofs.ClassDigits.{decimal_digit, class_digits, class_is}
use Rattle.ucd_facts.specs.RowValues.{IsPoint, IsSpan, IsMapping, DecompositionOk, CaseOk}
use Rattle.ucd_facts.specs.declared.category.Category.{Category}
use Rattle.ucd_facts.specs.declared.category.Category.TheVariants.{Lu, Ll, Lt, Lm, Lo, Mn, Mc, Me, Nd, Nl, No, Pc, Pd, Ps, Pe, Pi, Pf, Po, Sm, Sc, Sk, So, Zs, Zl, Zp, Cc, Cf, Cs, Co, Cn}
use Rattle.ucd_facts.specs.declared.decomposition.Kind.{Kind}
use Rattle.ucd_facts.specs.declared.decomposition.Kind.TheVariants.{Plain, Canonical, Compat}
use Rattle.ucd_facts.specs.declared.decomposition.Tag.{Tag}
use Rattle.ucd_facts.specs.declared.decomposition.Tag.TheVariants.{Font, NoBreak, Initial, Medial, Final, Isolated, Circle, Super, Sub, Vertical, Wide, Narrow, Small, Square, Fraction, Compat as CompatTag}
use Rattle.ucd_facts.specs.declared.row.FoldStatus.{FoldStatus}
use Rattle.ucd_facts.specs.declared.row.FoldStatus.TheVariants.{C, F, S, T}
use Rattle.source_rows.proofs.HexTexts.{hex_lacks, hex_some}
use Rattle.ucd_points.specs.HexTextProofs.{hex_text_spells_its_point}
use Rattle.source_rows.proofs.Lacks.{Lacks, lacks_both, lacks_cons, lacks_join, split_join}
use Rattle.source_rows.proofs.Trims.{Firm, trim_firm, solid, firm_ends, firm_around}

-- ---- code points and spans

blank_digit : (d : ℕ) → d < 16 → is_blank (hex_digit d) ≡ false
blank_digit d h = grind (arith, nat_tests)

pub hex_no_blank : (c : ℕ) → Lacks is_blank (hex_text c)
hex_no_blank c = hex_lacks is_blank blank_digit c

pub hex_firm : (c : ℕ) → Firm (hex_text c)
hex_firm c = solid (hex_text c) (hex_some c) (hex_no_blank c)

two_spelled : (s : Bounds) → IsSpan s → SpellsSpan (hex_text s.lo ++ codes ".." ++ hex_text s.hi) s
two_spelled s ok = inr (record { first = hex_text s.lo; second = hex_text s.hi; parts = append_assoc (hex_text s.lo) (codes "..") (hex_text s.hi); lo = hex_text_spells_its_point s.lo (omega (arith, ok.0, ok.1)); hi = hex_text_spells_its_point s.hi ok.1; ordered = ok.0 })

pub span_spelled : (s : Bounds) → IsSpan s → SpellsSpan (span_text s) s
unfolding span_text
span_spelled s ok = cond_both (eqb s.lo s.hi) _ _ (λ (bs : List ℕ). SpellsSpan bs s) (λ e. inl (record { lo = hex_text_spells_its_point s.lo (omega (arith, ok.0, ok.1)); hi = sym (eqb-true s.lo s.hi e) })) (λ _. two_spelled s ok)

pub span_lacks : (p : ℕ → Bool) → ((d : ℕ) → d < 16 → p (hex_digit d) ≡ false) → p 46 ≡ false → (s : Bounds) → Lacks p (span_text s)
unfolding span_text
span_lacks p h dot s = cond_both (eqb s.lo s.hi) _ _ (λ (bs : List ℕ). Lacks p bs) (λ _. hex_lacks p h s.lo) (λ _. lacks_both p (hex_text s.lo ++ codes "..") (hex_text s.hi) (lacks_both p (hex_text s.lo) (codes "..") (hex_lacks p h s.lo) (lacks_cons p 46 (46 ∷ []) dot (lacks_cons p 46 [] dot refl))) (hex_lacks p h s.hi))

pub span_firm : (s : Bounds) → Firm (span_text s)
unfolding span_text
span_firm s = cond_both (eqb s.lo s.hi) _ _ (λ (bs : List ℕ). Firm bs) (λ _. hex_firm s.lo) (λ _. firm_ends (hex_text s.lo ++ codes "..") (hex_text s.hi) (firm_ends (hex_text s.lo) (codes "..") (hex_firm s.lo) (solid (codes "..") (omega arith) refl)) (hex_firm s.hi))

-- ---- mappings

filter_all : (p : List ℕ → Bool) (xs : List (List ℕ)) → list_all p xs ≡ true → filter p xs ≡ xs
filter_all p [] h = refl
filter_all p (x ∷ xs) h = let k = and_parts (p x) (list_all p xs) h in rw (k.0, filter_all p xs k.1) refl

-- words that are joined by a space are these words
pub words_join : (ws : List (List ℕ)) → All (Lacks is_blank) ws → list_all is_some_bytes ws ≡ true → words (join_with_byte 32 ws) ≡ ws
unfolding words
words_join [] lack some = refl
words_join (w ∷ ws) lack some = ap (λ (parts : List (List ℕ)). filter is_some_bytes parts) (split_join is_blank 32 w ws refl lack) ∙ filter_all is_some_bytes (w ∷ ws) some

hex_words : (cs : List ℕ) → All (Lacks is_blank) (map hex_text cs)
hex_words [] = All-nil (Lacks is_blank)
hex_words (c ∷ cs) = All-cons (Lacks is_blank) (hex_text c) (map hex_text cs) (hex_no_blank c) (hex_words cs)

has_bytes : (bs : List ℕ) → 0 < length bs → is_some_bytes bs ≡ true
has_bytes [] h = absurd (omega arith)
has_bytes (b ∷ bs) h = refl

hex_bytes : (cs : List ℕ) → list_all is_some_bytes (map hex_text cs) ≡ true
hex_bytes [] = refl
hex_bytes (c ∷ cs) = and_from _ _ (has_bytes (hex_text c) (hex_some c)) (hex_bytes cs)

read_points : (cs : List ℕ) → All IsPoint cs → map point_of (map hex_text cs) ≡ map (λ c. Some c) cs
read_points [] h = refl
read_points (c ∷ cs) h = rw (hex_text_spells_its_point c (All-head IsPoint c cs h), read_points cs (All-tail IsPoint c cs h)) refl

pub mapping_words : (cs : List ℕ) → words (mapping_text cs) ≡ map hex_text cs
unfolding mapping_text
mapping_words cs = words_join (map hex_text cs) (hex_words cs) (hex_bytes cs)

pub mapping_reads : (cs : List ℕ) → IsMapping cs → SpellsMapping (mapping_text cs) cs
mapping_reads cs ok = (ap (λ (ws : List (List ℕ)). map point_of ws) (mapping_words cs) ∙ read_points cs ok.0, ok.1)

hex_words_lack : (p : ℕ → Bool) → ((d : ℕ) → d < 16 → p (hex_digit d) ≡ false) → (cs : List ℕ) → All (Lacks p) (map hex_text cs)
hex_words_lack p h [] = All-nil (Lacks p)
hex_words_lack p h (c ∷ cs) = All-cons (Lacks p) (hex_text c) (map hex_text cs) (hex_lacks p h c) (hex_words_lack p h cs)

pub mapping_lacks : (p : ℕ → Bool) → ((d : ℕ) → d < 16 → p (hex_digit d) ≡ false) → p 32 ≡ false → (cs : List ℕ) → Lacks p (mapping_text cs)
unfolding mapping_text
mapping_lacks p h space cs = lacks_join p 32 (map hex_text cs) space (hex_words_lack p h cs)

joined_firm : (c : ℕ) (cs : List ℕ) → Firm (join_with_byte 32 (hex_text c ∷ map hex_text cs))
joined_firm c [] = hex_firm c
joined_firm c (d ∷ ds) = firm_around (hex_text c) 32 (join_with_byte 32 (hex_text d ∷ map hex_text ds)) (hex_firm c) (joined_firm d ds)

pub mapping_firm : (cs : List ℕ) → 0 < length cs → Firm (mapping_text cs)
unfolding mapping_text
mapping_firm [] h = absurd (omega arith)
mapping_firm (c ∷ cs) h = joined_firm c cs

-- ---- categories, statuses, classes, case mappings

pub category_lacks : (p : ℕ → Bool) → ((b : ℕ) → 65 ≤ b → b ≤ 122 → p b ≡ false) → (k : Category) → Lacks p (category_code k)
category_lacks p h Lu = lacks_cons p 76 (117 ∷ []) (h 76 (omega arith) (omega arith)) (lacks_cons p 117 [] (h 117 (omega arith) (omega arith)) refl)
category_lacks p h Ll = lacks_cons p 76 (108 ∷ []) (h 76 (omega arith) (omega arith)) (lacks_cons p 108 [] (h 108 (omega arith) (omega arith)) refl)
category_lacks p h Lt = lacks_cons p 76 (116 ∷ []) (h 76 (omega arith) (omega arith)) (lacks_cons p 116 [] (h 116 (omega arith) (omega arith)) refl)
category_lacks p h Lm = lacks_cons p 76 (109 ∷ []) (h 76 (omega arith) (omega arith)) (lacks_cons p 109 [] (h 109 (omega arith) (omega arith)) refl)
category_lacks p h Lo = lacks_cons p 76 (111 ∷ []) (h 76 (omega arith) (omega arith)) (lacks_cons p 111 [] (h 111 (omega arith) (omega arith)) refl)
category_lacks p h Mn = lacks_cons p 77 (110 ∷ []) (h 77 (omega arith) (omega arith)) (lacks_cons p 110 [] (h 110 (omega arith) (omega arith)) refl)
category_lacks p h Mc = lacks_cons p 77 (99 ∷ []) (h 77 (omega arith) (omega arith)) (lacks_cons p 99 [] (h 99 (omega arith) (omega arith)) refl)
category_lacks p h Me = lacks_cons p 77 (101 ∷ []) (h 77 (omega arith) (omega arith)) (lacks_cons p 101 [] (h 101 (omega arith) (omega arith)) refl)
category_lacks p h Nd = lacks_cons p 78 (100 ∷ []) (h 78 (omega arith) (omega arith)) (lacks_cons p 100 [] (h 100 (omega arith) (omega arith)) refl)
category_lacks p h Nl = lacks_cons p 78 (108 ∷ []) (h 78 (omega arith) (omega arith)) (lacks_cons p 108 [] (h 108 (omega arith) (omega arith)) refl)
category_lacks p h No = lacks_cons p 78 (111 ∷ []) (h 78 (omega arith) (omega arith)) (lacks_cons p 111 [] (h 111 (omega arith) (omega arith)) refl)
category_lacks p h Pc = lacks_cons p 80 (99 ∷ []) (h 80 (omega arith) (omega arith)) (lacks_cons p 99 [] (h 99 (omega arith) (omega arith)) refl)
category_lacks p h Pd = lacks_cons p 80 (100 ∷ []) (h 80 (omega arith) (omega arith)) (lacks_cons p 100 [] (h 100 (omega arith) (omega arith)) refl)
category_lacks p h Ps = lacks_cons p 80 (115 ∷ []) (h 80 (omega arith) (omega arith)) (lacks_cons p 115 [] (h 115 (omega arith) (omega arith)) refl)
category_lacks p h Pe = lacks_cons p 80 (101 ∷ []) (h 80 (omega arith) (omega arith)) (lacks_cons p 101 [] (h 101 (omega arith) (omega arith)) refl)
category_lacks p h Pi = lacks_cons p 80 (105 ∷ []) (h 80 (omega arith) (omega arith)) (lacks_cons p 105 [] (h 105 (omega arith) (omega arith)) refl)
category_lacks p h Pf = lacks_cons p 80 (102 ∷ []) (h 80 (omega arith) (omega arith)) (lacks_cons p 102 [] (h 102 (omega arith) (omega arith)) refl)
category_lacks p h Po = lacks_cons p 80 (111 ∷ []) (h 80 (omega arith) (omega arith)) (lacks_cons p 111 [] (h 111 (omega arith) (omega arith)) refl)
category_lacks p h Sm = lacks_cons p 83 (109 ∷ []) (h 83 (omega arith) (omega arith)) (lacks_cons p 109 [] (h 109 (omega arith) (omega arith)) refl)
category_lacks p h Sc = lacks_cons p 83 (99 ∷ []) (h 83 (omega arith) (omega arith)) (lacks_cons p 99 [] (h 99 (omega arith) (omega arith)) refl)
category_lacks p h Sk = lacks_cons p 83 (107 ∷ []) (h 83 (omega arith) (omega arith)) (lacks_cons p 107 [] (h 107 (omega arith) (omega arith)) refl)
category_lacks p h So = lacks_cons p 83 (111 ∷ []) (h 83 (omega arith) (omega arith)) (lacks_cons p 111 [] (h 111 (omega arith) (omega arith)) refl)
category_lacks p h Zs = lacks_cons p 90 (115 ∷ []) (h 90 (omega arith) (omega arith)) (lacks_cons p 115 [] (h 115 (omega arith) (omega arith)) refl)
category_lacks p h Zl = lacks_cons p 90 (108 ∷ []) (h 90 (omega arith) (omega arith)) (lacks_cons p 108 [] (h 108 (omega arith) (omega arith)) refl)
category_lacks p h Zp = lacks_cons p 90 (112 ∷ []) (h 90 (omega arith) (omega arith)) (lacks_cons p 112 [] (h 112 (omega arith) (omega arith)) refl)
category_lacks p h Cc = lacks_cons p 67 (99 ∷ []) (h 67 (omega arith) (omega arith)) (lacks_cons p 99 [] (h 99 (omega arith) (omega arith)) refl)
category_lacks p h Cf = lacks_cons p 67 (102 ∷ []) (h 67 (omega arith) (omega arith)) (lacks_cons p 102 [] (h 102 (omega arith) (omega arith)) refl)
category_lacks p h Cs = lacks_cons p 67 (115 ∷ []) (h 67 (omega arith) (omega arith)) (lacks_cons p 115 [] (h 115 (omega arith) (omega arith)) refl)
category_lacks p h Co = lacks_cons p 67 (111 ∷ []) (h 67 (omega arith) (omega arith)) (lacks_cons p 111 [] (h 111 (omega arith) (omega arith)) refl)
category_lacks p h Cn = lacks_cons p 67 (110 ∷ []) (h 67 (omega arith) (omega arith)) (lacks_cons p 110 [] (h 110 (omega arith) (omega arith)) refl)

pub status_lacks : (p : ℕ → Bool) → ((b : ℕ) → 65 ≤ b → b ≤ 122 → p b ≡ false) → (s : FoldStatus) → Lacks p (status_code s ∷ [])
status_lacks p h C = lacks_cons p 67 [] (h 67 (omega arith) (omega arith)) refl
status_lacks p h F = lacks_cons p 70 [] (h 70 (omega arith) (omega arith)) refl
status_lacks p h S = lacks_cons p 83 [] (h 83 (omega arith) (omega arith)) refl
status_lacks p h T = lacks_cons p 84 [] (h 84 (omega arith) (omega arith)) refl

digit_is : (d : ℕ) → is_digit (48 + d % 10) ≡ true
digit_is d = and_from _ _ (le-leb 48 (48 + d % 10) (omega arith)) (le-leb (48 + d % 10) 57 (omega arith))

classed : (bs : List ℕ) (n : ℕ) → 1 ≤ length bs → length bs ≤ 3 → list_all is_digit bs ≡ true → decimal_number bs ≡ n → n ≤ 254 → class_of bs ≡ Some n
unfolding class_of
classed bs n some few digits number small =
    let is : is_class bs ≡ true = and_from _ _ (and_from _ _ (and_from _ _ (le-leb 1 (length bs) some) (le-leb (length bs) 3 few)) digits) (le-leb (decimal_number bs) 254 (omega arith)) in
    rw (is, number) refl

one_digit : (n : ℕ) → n < 10 → n ≤ 254 → class_of (decimal_digit n ∷ []) ≡ Some n
one_digit n lt small = classed (decimal_digit n ∷ []) n (omega arith) (omega arith) (and_from _ _ (digit_is n) refl) (omega arith) small

two_digits : (n : ℕ) → n < 100 → n ≤ 254 → class_of (decimal_digit (n / 10) ∷ decimal_digit n ∷ []) ≡ Some n
two_digits n lt small = classed (decimal_digit (n / 10) ∷ decimal_digit n ∷ []) n (omega arith) (omega arith) (and_from _ _ (digit_is (n / 10)) (and_from _ _ (digit_is n) refl)) (omega arith) small

three_digits : (n : ℕ) → n ≤ 254 → class_of (decimal_digit (n / 100) ∷ decimal_digit (n / 10) ∷ decimal_digit n ∷ []) ≡ Some n
three_digits n small = classed (decimal_digit (n / 100) ∷ decimal_digit (n / 10) ∷ decimal_digit n ∷ []) n (omega arith) (omega arith) (and_from _ _ (digit_is (n / 100)) (and_from _ _ (digit_is (n / 10)) (and_from _ _ (digit_is n) refl))) (omega arith) small

digits_read : (n : ℕ) → n ≤ 254 → class_of (class_digits n) ≡ Some n
digits_read n small = cond_both (nat_lt n 10) _ _ (λ (bs : List ℕ). class_of bs ≡ Some n) (λ e. one_digit n (ltb-true n 10 e) small) (λ _. cond_both (nat_lt n 100) _ _ (λ (bs : List ℕ). class_of bs ≡ Some n) (λ e. two_digits n (ltb-true n 100 e) small) (λ _. three_digits n small))

pub class_reads : (n : ℕ) → n ≤ 254 → class_of (decimal n) ≡ Some n
class_reads n small = rw (class_is n (omega arith)) (digits_read n small)

one_lacks : (p : ℕ → Bool) → ((b : ℕ) → 48 ≤ b → b ≤ 57 → p b ≡ false) → (d : ℕ) → p (decimal_digit d) ≡ false
one_lacks p h d = h (decimal_digit d) (omega arith) (omega arith)

digits_lack : (p : ℕ → Bool) → ((b : ℕ) → 48 ≤ b → b ≤ 57 → p b ≡ false) → (n : ℕ) → Lacks p (class_digits n)
digits_lack p h n = cond_both (nat_lt n 10) _ _ (λ (bs : List ℕ). Lacks p bs) (λ _. lacks_cons p (decimal_digit n) [] (one_lacks p h n) refl) (λ _. cond_both (nat_lt n 100) _ _ (λ (bs : List ℕ). Lacks p bs) (λ _. lacks_cons p (decimal_digit (n / 10)) (decimal_digit n ∷ []) (one_lacks p h (n / 10)) (lacks_cons p (decimal_digit n) [] (one_lacks p h n) refl)) (λ _. lacks_cons p (decimal_digit (n / 100)) (decimal_digit (n / 10) ∷ decimal_digit n ∷ []) (one_lacks p h (n / 100)) (lacks_cons p (decimal_digit (n / 10)) (decimal_digit n ∷ []) (one_lacks p h (n / 10)) (lacks_cons p (decimal_digit n) [] (one_lacks p h n) refl))))

digits_some : (n : ℕ) → 0 < length (class_digits n)
digits_some n = cond_both (nat_lt n 10) _ _ (λ (bs : List ℕ). 0 < length bs) (λ _. omega arith) (λ _. cond_both (nat_lt n 100) _ _ (λ (bs : List ℕ). 0 < length bs) (λ _. omega arith) (λ _. omega arith))

blank_byte : (b : ℕ) → 48 ≤ b → is_blank b ≡ false
blank_byte b h = grind (arith, nat_tests)

pub class_lacks : (p : ℕ → Bool) → ((b : ℕ) → 48 ≤ b → b ≤ 57 → p b ≡ false) → (n : ℕ) → n ≤ 254 → Lacks p (decimal n)
class_lacks p h n small = rw (class_is n (omega arith)) (digits_lack p h n)

pub class_firm : (n : ℕ) → n ≤ 254 → Firm (decimal n)
class_firm n small = rw (class_is n (omega arith)) (solid (class_digits n) (digits_some n) (digits_lack is_blank (λ b low high. blank_byte b low) n))

two_letters : (k : Category) → 0 < length (category_code k)
two_letters Lu = omega arith
two_letters _ = omega arith

pub category_firm : (k : Category) → Firm (category_code k)
category_firm k = solid (category_code k) (two_letters k) (category_lacks is_blank (λ b low high. blank_byte b (omega arith)) k)

case_is : (bs : List ℕ) (c : ℕ) → 0 < length bs → point_of bs ≡ Some c → case_of bs ≡ Some (Some c)
case_is [] c some h = absurd (omega arith)
case_is (b ∷ bs) c some h = rw h refl

pub case_reads : (o : Option ℕ) → CaseOk o → case_of (case_text o) ≡ Some o
case_reads None ok = refl
case_reads (Some c) ok = case_is (hex_text c) c (hex_some c) (hex_text_spells_its_point c ok)

pub case_lacks : (p : ℕ → Bool) → ((d : ℕ) → d < 16 → p (hex_digit d) ≡ false) → (o : Option ℕ) → Lacks p (case_text o)
case_lacks p h None = refl
case_lacks p h (Some c) = hex_lacks p h c

pub case_trimmed : (o : Option ℕ) → trim (case_text o) ≡ case_text o
case_trimmed None = refl
case_trimmed (Some c) = trim_firm (hex_text c) (hex_firm c)

-- ---- decompositions

spaced_mapping : (cs : List ℕ) → words (32 ∷ mapping_text cs) ≡ words (mapping_text cs)
unfolding words
spaced_mapping cs = refl

pub decomposition_reads : (kind : Kind) (cs : List ℕ) → DecompositionOk kind cs → SpellsDecomposition (decomposition_text kind cs) kind cs
decomposition_reads Plain cs ok = (refl, ok)
decomposition_reads Canonical cs ok = (mapping_reads cs (ok.0, omega (arith, ok.2)), ok.1, ok.2)
decomposition_reads (Compat tag) cs ok =
    let m = mapping_reads cs ok.0 in
    (32 ∷ mapping_text cs, refl, (ap (λ (ws : List (List ℕ)). map point_of ws) (spaced_mapping cs) ∙ m.0, m.1), ok.1)

pub tag_lacks : (p : ℕ → Bool) → ((b : ℕ) → 60 ≤ b → b ≤ 122 → p b ≡ false) → (tag : Tag) → Lacks p (tag_text tag)
tag_lacks p h Font = lacks_cons p 60 (102 ∷ 111 ∷ 110 ∷ 116 ∷ 62 ∷ []) (h 60 (omega arith) (omega arith)) (lacks_cons p 102 (111 ∷ 110 ∷ 116 ∷ 62 ∷ []) (h 102 (omega arith) (omega arith)) (lacks_cons p 111 (110 ∷ 116 ∷ 62 ∷ []) (h 111 (omega arith) (omega arith)) (lacks_cons p 110 (116 ∷ 62 ∷ []) (h 110 (omega arith) (omega arith)) (lacks_cons p 116 (62 ∷ []) (h 116 (omega arith) (omega arith)) (lacks_cons p 62 [] (h 62 (omega arith) (omega arith)) refl)))))
tag_lacks p h NoBreak = lacks_cons p 60 (110 ∷ 111 ∷ 66 ∷ 114 ∷ 101 ∷ 97 ∷ 107 ∷ 62 ∷ []) (h 60 (omega arith) (omega arith)) (lacks_cons p 110 (111 ∷ 66 ∷ 114 ∷ 101 ∷ 97 ∷ 107 ∷ 62 ∷ []) (h 110 (omega arith) (omega arith)) (lacks_cons p 111 (66 ∷ 114 ∷ 101 ∷ 97 ∷ 107 ∷ 62 ∷ []) (h 111 (omega arith) (omega arith)) (lacks_cons p 66 (114 ∷ 101 ∷ 97 ∷ 107 ∷ 62 ∷ []) (h 66 (omega arith) (omega arith)) (lacks_cons p 114 (101 ∷ 97 ∷ 107 ∷ 62 ∷ []) (h 114 (omega arith) (omega arith)) (lacks_cons p 101 (97 ∷ 107 ∷ 62 ∷ []) (h 101 (omega arith) (omega arith)) (lacks_cons p 97 (107 ∷ 62 ∷ []) (h 97 (omega arith) (omega arith)) (lacks_cons p 107 (62 ∷ []) (h 107 (omega arith) (omega arith)) (lacks_cons p 62 [] (h 62 (omega arith) (omega arith)) refl))))))))
tag_lacks p h Initial = lacks_cons p 60 (105 ∷ 110 ∷ 105 ∷ 116 ∷ 105 ∷ 97 ∷ 108 ∷ 62 ∷ []) (h 60 (omega arith) (omega arith)) (lacks_cons p 105 (110 ∷ 105 ∷ 116 ∷ 105 ∷ 97 ∷ 108 ∷ 62 ∷ []) (h 105 (omega arith) (omega arith)) (lacks_cons p 110 (105 ∷ 116 ∷ 105 ∷ 97 ∷ 108 ∷ 62 ∷ []) (h 110 (omega arith) (omega arith)) (lacks_cons p 105 (116 ∷ 105 ∷ 97 ∷ 108 ∷ 62 ∷ []) (h 105 (omega arith) (omega arith)) (lacks_cons p 116 (105 ∷ 97 ∷ 108 ∷ 62 ∷ []) (h 116 (omega arith) (omega arith)) (lacks_cons p 105 (97 ∷ 108 ∷ 62 ∷ []) (h 105 (omega arith) (omega arith)) (lacks_cons p 97 (108 ∷ 62 ∷ []) (h 97 (omega arith) (omega arith)) (lacks_cons p 108 (62 ∷ []) (h 108 (omega arith) (omega arith)) (lacks_cons p 62 [] (h 62 (omega arith) (omega arith)) refl))))))))
tag_lacks p h Medial = lacks_cons p 60 (109 ∷ 101 ∷ 100 ∷ 105 ∷ 97 ∷ 108 ∷ 62 ∷ []) (h 60 (omega arith) (omega arith)) (lacks_cons p 109 (101 ∷ 100 ∷ 105 ∷ 97 ∷ 108 ∷ 62 ∷ []) (h 109 (omega arith) (omega arith)) (lacks_cons p 101 (100 ∷ 105 ∷ 97 ∷ 108 ∷ 62 ∷ []) (h 101 (omega arith) (omega arith)) (lacks_cons p 100 (105 ∷ 97 ∷ 108 ∷ 62 ∷ []) (h 100 (omega arith) (omega arith)) (lacks_cons p 105 (97 ∷ 108 ∷ 62 ∷ []) (h 105 (omega arith) (omega arith)) (lacks_cons p 97 (108 ∷ 62 ∷ []) (h 97 (omega arith) (omega arith)) (lacks_cons p 108 (62 ∷ []) (h 108 (omega arith) (omega arith)) (lacks_cons p 62 [] (h 62 (omega arith) (omega arith)) refl)))))))
tag_lacks p h Final = lacks_cons p 60 (102 ∷ 105 ∷ 110 ∷ 97 ∷ 108 ∷ 62 ∷ []) (h 60 (omega arith) (omega arith)) (lacks_cons p 102 (105 ∷ 110 ∷ 97 ∷ 108 ∷ 62 ∷ []) (h 102 (omega arith) (omega arith)) (lacks_cons p 105 (110 ∷ 97 ∷ 108 ∷ 62 ∷ []) (h 105 (omega arith) (omega arith)) (lacks_cons p 110 (97 ∷ 108 ∷ 62 ∷ []) (h 110 (omega arith) (omega arith)) (lacks_cons p 97 (108 ∷ 62 ∷ []) (h 97 (omega arith) (omega arith)) (lacks_cons p 108 (62 ∷ []) (h 108 (omega arith) (omega arith)) (lacks_cons p 62 [] (h 62 (omega arith) (omega arith)) refl))))))
tag_lacks p h Isolated = lacks_cons p 60 (105 ∷ 115 ∷ 111 ∷ 108 ∷ 97 ∷ 116 ∷ 101 ∷ 100 ∷ 62 ∷ []) (h 60 (omega arith) (omega arith)) (lacks_cons p 105 (115 ∷ 111 ∷ 108 ∷ 97 ∷ 116 ∷ 101 ∷ 100 ∷ 62 ∷ []) (h 105 (omega arith) (omega arith)) (lacks_cons p 115 (111 ∷ 108 ∷ 97 ∷ 116 ∷ 101 ∷ 100 ∷ 62 ∷ []) (h 115 (omega arith) (omega arith)) (lacks_cons p 111 (108 ∷ 97 ∷ 116 ∷ 101 ∷ 100 ∷ 62 ∷ []) (h 111 (omega arith) (omega arith)) (lacks_cons p 108 (97 ∷ 116 ∷ 101 ∷ 100 ∷ 62 ∷ []) (h 108 (omega arith) (omega arith)) (lacks_cons p 97 (116 ∷ 101 ∷ 100 ∷ 62 ∷ []) (h 97 (omega arith) (omega arith)) (lacks_cons p 116 (101 ∷ 100 ∷ 62 ∷ []) (h 116 (omega arith) (omega arith)) (lacks_cons p 101 (100 ∷ 62 ∷ []) (h 101 (omega arith) (omega arith)) (lacks_cons p 100 (62 ∷ []) (h 100 (omega arith) (omega arith)) (lacks_cons p 62 [] (h 62 (omega arith) (omega arith)) refl)))))))))
tag_lacks p h Circle = lacks_cons p 60 (99 ∷ 105 ∷ 114 ∷ 99 ∷ 108 ∷ 101 ∷ 62 ∷ []) (h 60 (omega arith) (omega arith)) (lacks_cons p 99 (105 ∷ 114 ∷ 99 ∷ 108 ∷ 101 ∷ 62 ∷ []) (h 99 (omega arith) (omega arith)) (lacks_cons p 105 (114 ∷ 99 ∷ 108 ∷ 101 ∷ 62 ∷ []) (h 105 (omega arith) (omega arith)) (lacks_cons p 114 (99 ∷ 108 ∷ 101 ∷ 62 ∷ []) (h 114 (omega arith) (omega arith)) (lacks_cons p 99 (108 ∷ 101 ∷ 62 ∷ []) (h 99 (omega arith) (omega arith)) (lacks_cons p 108 (101 ∷ 62 ∷ []) (h 108 (omega arith) (omega arith)) (lacks_cons p 101 (62 ∷ []) (h 101 (omega arith) (omega arith)) (lacks_cons p 62 [] (h 62 (omega arith) (omega arith)) refl)))))))
tag_lacks p h Super = lacks_cons p 60 (115 ∷ 117 ∷ 112 ∷ 101 ∷ 114 ∷ 62 ∷ []) (h 60 (omega arith) (omega arith)) (lacks_cons p 115 (117 ∷ 112 ∷ 101 ∷ 114 ∷ 62 ∷ []) (h 115 (omega arith) (omega arith)) (lacks_cons p 117 (112 ∷ 101 ∷ 114 ∷ 62 ∷ []) (h 117 (omega arith) (omega arith)) (lacks_cons p 112 (101 ∷ 114 ∷ 62 ∷ []) (h 112 (omega arith) (omega arith)) (lacks_cons p 101 (114 ∷ 62 ∷ []) (h 101 (omega arith) (omega arith)) (lacks_cons p 114 (62 ∷ []) (h 114 (omega arith) (omega arith)) (lacks_cons p 62 [] (h 62 (omega arith) (omega arith)) refl))))))
tag_lacks p h Sub = lacks_cons p 60 (115 ∷ 117 ∷ 98 ∷ 62 ∷ []) (h 60 (omega arith) (omega arith)) (lacks_cons p 115 (117 ∷ 98 ∷ 62 ∷ []) (h 115 (omega arith) (omega arith)) (lacks_cons p 117 (98 ∷ 62 ∷ []) (h 117 (omega arith) (omega arith)) (lacks_cons p 98 (62 ∷ []) (h 98 (omega arith) (omega arith)) (lacks_cons p 62 [] (h 62 (omega arith) (omega arith)) refl))))
tag_lacks p h Vertical = lacks_cons p 60 (118 ∷ 101 ∷ 114 ∷ 116 ∷ 105 ∷ 99 ∷ 97 ∷ 108 ∷ 62 ∷ []) (h 60 (omega arith) (omega arith)) (lacks_cons p 118 (101 ∷ 114 ∷ 116 ∷ 105 ∷ 99 ∷ 97 ∷ 108 ∷ 62 ∷ []) (h 118 (omega arith) (omega arith)) (lacks_cons p 101 (114 ∷ 116 ∷ 105 ∷ 99 ∷ 97 ∷ 108 ∷ 62 ∷ []) (h 101 (omega arith) (omega arith)) (lacks_cons p 114 (116 ∷ 105 ∷ 99 ∷ 97 ∷ 108 ∷ 62 ∷ []) (h 114 (omega arith) (omega arith)) (lacks_cons p 116 (105 ∷ 99 ∷ 97 ∷ 108 ∷ 62 ∷ []) (h 116 (omega arith) (omega arith)) (lacks_cons p 105 (99 ∷ 97 ∷ 108 ∷ 62 ∷ []) (h 105 (omega arith) (omega arith)) (lacks_cons p 99 (97 ∷ 108 ∷ 62 ∷ []) (h 99 (omega arith) (omega arith)) (lacks_cons p 97 (108 ∷ 62 ∷ []) (h 97 (omega arith) (omega arith)) (lacks_cons p 108 (62 ∷ []) (h 108 (omega arith) (omega arith)) (lacks_cons p 62 [] (h 62 (omega arith) (omega arith)) refl)))))))))
tag_lacks p h Wide = lacks_cons p 60 (119 ∷ 105 ∷ 100 ∷ 101 ∷ 62 ∷ []) (h 60 (omega arith) (omega arith)) (lacks_cons p 119 (105 ∷ 100 ∷ 101 ∷ 62 ∷ []) (h 119 (omega arith) (omega arith)) (lacks_cons p 105 (100 ∷ 101 ∷ 62 ∷ []) (h 105 (omega arith) (omega arith)) (lacks_cons p 100 (101 ∷ 62 ∷ []) (h 100 (omega arith) (omega arith)) (lacks_cons p 101 (62 ∷ []) (h 101 (omega arith) (omega arith)) (lacks_cons p 62 [] (h 62 (omega arith) (omega arith)) refl)))))
tag_lacks p h Narrow = lacks_cons p 60 (110 ∷ 97 ∷ 114 ∷ 114 ∷ 111 ∷ 119 ∷ 62 ∷ []) (h 60 (omega arith) (omega arith)) (lacks_cons p 110 (97 ∷ 114 ∷ 114 ∷ 111 ∷ 119 ∷ 62 ∷ []) (h 110 (omega arith) (omega arith)) (lacks_cons p 97 (114 ∷ 114 ∷ 111 ∷ 119 ∷ 62 ∷ []) (h 97 (omega arith) (omega arith)) (lacks_cons p 114 (114 ∷ 111 ∷ 119 ∷ 62 ∷ []) (h 114 (omega arith) (omega arith)) (lacks_cons p 114 (111 ∷ 119 ∷ 62 ∷ []) (h 114 (omega arith) (omega arith)) (lacks_cons p 111 (119 ∷ 62 ∷ []) (h 111 (omega arith) (omega arith)) (lacks_cons p 119 (62 ∷ []) (h 119 (omega arith) (omega arith)) (lacks_cons p 62 [] (h 62 (omega arith) (omega arith)) refl)))))))
tag_lacks p h Small = lacks_cons p 60 (115 ∷ 109 ∷ 97 ∷ 108 ∷ 108 ∷ 62 ∷ []) (h 60 (omega arith) (omega arith)) (lacks_cons p 115 (109 ∷ 97 ∷ 108 ∷ 108 ∷ 62 ∷ []) (h 115 (omega arith) (omega arith)) (lacks_cons p 109 (97 ∷ 108 ∷ 108 ∷ 62 ∷ []) (h 109 (omega arith) (omega arith)) (lacks_cons p 97 (108 ∷ 108 ∷ 62 ∷ []) (h 97 (omega arith) (omega arith)) (lacks_cons p 108 (108 ∷ 62 ∷ []) (h 108 (omega arith) (omega arith)) (lacks_cons p 108 (62 ∷ []) (h 108 (omega arith) (omega arith)) (lacks_cons p 62 [] (h 62 (omega arith) (omega arith)) refl))))))
tag_lacks p h Square = lacks_cons p 60 (115 ∷ 113 ∷ 117 ∷ 97 ∷ 114 ∷ 101 ∷ 62 ∷ []) (h 60 (omega arith) (omega arith)) (lacks_cons p 115 (113 ∷ 117 ∷ 97 ∷ 114 ∷ 101 ∷ 62 ∷ []) (h 115 (omega arith) (omega arith)) (lacks_cons p 113 (117 ∷ 97 ∷ 114 ∷ 101 ∷ 62 ∷ []) (h 113 (omega arith) (omega arith)) (lacks_cons p 117 (97 ∷ 114 ∷ 101 ∷ 62 ∷ []) (h 117 (omega arith) (omega arith)) (lacks_cons p 97 (114 ∷ 101 ∷ 62 ∷ []) (h 97 (omega arith) (omega arith)) (lacks_cons p 114 (101 ∷ 62 ∷ []) (h 114 (omega arith) (omega arith)) (lacks_cons p 101 (62 ∷ []) (h 101 (omega arith) (omega arith)) (lacks_cons p 62 [] (h 62 (omega arith) (omega arith)) refl)))))))
tag_lacks p h Fraction = lacks_cons p 60 (102 ∷ 114 ∷ 97 ∷ 99 ∷ 116 ∷ 105 ∷ 111 ∷ 110 ∷ 62 ∷ []) (h 60 (omega arith) (omega arith)) (lacks_cons p 102 (114 ∷ 97 ∷ 99 ∷ 116 ∷ 105 ∷ 111 ∷ 110 ∷ 62 ∷ []) (h 102 (omega arith) (omega arith)) (lacks_cons p 114 (97 ∷ 99 ∷ 116 ∷ 105 ∷ 111 ∷ 110 ∷ 62 ∷ []) (h 114 (omega arith) (omega arith)) (lacks_cons p 97 (99 ∷ 116 ∷ 105 ∷ 111 ∷ 110 ∷ 62 ∷ []) (h 97 (omega arith) (omega arith)) (lacks_cons p 99 (116 ∷ 105 ∷ 111 ∷ 110 ∷ 62 ∷ []) (h 99 (omega arith) (omega arith)) (lacks_cons p 116 (105 ∷ 111 ∷ 110 ∷ 62 ∷ []) (h 116 (omega arith) (omega arith)) (lacks_cons p 105 (111 ∷ 110 ∷ 62 ∷ []) (h 105 (omega arith) (omega arith)) (lacks_cons p 111 (110 ∷ 62 ∷ []) (h 111 (omega arith) (omega arith)) (lacks_cons p 110 (62 ∷ []) (h 110 (omega arith) (omega arith)) (lacks_cons p 62 [] (h 62 (omega arith) (omega arith)) refl)))))))))
tag_lacks p h CompatTag = lacks_cons p 60 (99 ∷ 111 ∷ 109 ∷ 112 ∷ 97 ∷ 116 ∷ 62 ∷ []) (h 60 (omega arith) (omega arith)) (lacks_cons p 99 (111 ∷ 109 ∷ 112 ∷ 97 ∷ 116 ∷ 62 ∷ []) (h 99 (omega arith) (omega arith)) (lacks_cons p 111 (109 ∷ 112 ∷ 97 ∷ 116 ∷ 62 ∷ []) (h 111 (omega arith) (omega arith)) (lacks_cons p 109 (112 ∷ 97 ∷ 116 ∷ 62 ∷ []) (h 109 (omega arith) (omega arith)) (lacks_cons p 112 (97 ∷ 116 ∷ 62 ∷ []) (h 112 (omega arith) (omega arith)) (lacks_cons p 97 (116 ∷ 62 ∷ []) (h 97 (omega arith) (omega arith)) (lacks_cons p 116 (62 ∷ []) (h 116 (omega arith) (omega arith)) (lacks_cons p 62 [] (h 62 (omega arith) (omega arith)) refl)))))))

pub decomposition_lacks : (p : ℕ → Bool) → ((b : ℕ) → 60 ≤ b → b ≤ 122 → p b ≡ false) → ((d : ℕ) → d < 16 → p (hex_digit d) ≡ false) → p 32 ≡ false → (kind : Kind) (cs : List ℕ) → Lacks p (decomposition_text kind cs)
decomposition_lacks p h k space Plain cs = refl
decomposition_lacks p h k space Canonical cs = mapping_lacks p k space cs
decomposition_lacks p h k space (Compat tag) cs = lacks_both p (tag_text tag) (32 ∷ mapping_text cs) (tag_lacks p h tag) (lacks_cons p 32 (mapping_text cs) space (mapping_lacks p k space cs))

tag_firm : (tag : Tag) → Firm (tag_text tag)
tag_firm Font = solid (tag_text Font) (omega arith) refl
tag_firm NoBreak = solid (tag_text NoBreak) (omega arith) refl
tag_firm Initial = solid (tag_text Initial) (omega arith) refl
tag_firm Medial = solid (tag_text Medial) (omega arith) refl
tag_firm Final = solid (tag_text Final) (omega arith) refl
tag_firm Isolated = solid (tag_text Isolated) (omega arith) refl
tag_firm Circle = solid (tag_text Circle) (omega arith) refl
tag_firm Super = solid (tag_text Super) (omega arith) refl
tag_firm Sub = solid (tag_text Sub) (omega arith) refl
tag_firm Vertical = solid (tag_text Vertical) (omega arith) refl
tag_firm Wide = solid (tag_text Wide) (omega arith) refl
tag_firm Narrow = solid (tag_text Narrow) (omega arith) refl
tag_firm Small = solid (tag_text Small) (omega arith) refl
tag_firm Square = solid (tag_text Square) (omega arith) refl
tag_firm Fraction = solid (tag_text Fraction) (omega arith) refl
tag_firm CompatTag = solid (tag_text CompatTag) (omega arith) refl

pub decomposition_trimmed : (kind : Kind) (cs : List ℕ) → DecompositionOk kind cs → trim (decomposition_text kind cs) ≡ decomposition_text kind cs
decomposition_trimmed Plain cs ok = refl
decomposition_trimmed Canonical cs ok = trim_firm (mapping_text cs) (mapping_firm cs ok.1)
decomposition_trimmed (Compat tag) cs ok = trim_firm (tag_text tag ++ 32 ∷ mapping_text cs) (firm_around (tag_text tag) 32 (mapping_text cs) (tag_firm tag) (mapping_firm cs ok.1))
