-- The text of a row of UnicodeData.txt is read as that row.
use Rattle.std.proofs.Common.{◌≡◌, ℕ, ◌+◌, ◌-◌, ◌<◌, Bool, true, false, cond, eqb, List, [], ◌∷◌, ◌++◌, length, map, get_or, Option, Some, refl, sym, ap, subst, ◌∙◌, append_assoc, arith, inl, inr, length-append, codes, nat_eq, slice_get, decimal}
use Rattle.std.specs.Option.{option_eq}
use Rattle.std.specs.List.{All, join_with_byte}
use Rattle.std.proofs.lemmas.Option.{slice_get-get_or}
use Rattle.std.proofs.lemmas.List.{get_or-append_right}
use Rattle.std.proofs.lemmas.List.Elements.{All-nil, All-cons, All-head, All-tail, All-from_recursion}
use Rattle.std.proofs.lemmas.Bool.Decides.{nat_tests}
use Rattle.ucd_facts.specs.NameProofs.{code_names}
use Rattle.ucd_points.specs.Lines.{is_lf, holds_line_feed, without_return}
use Rattle.ucd_facts.specs.Names.{category_code}
use Rattle.ucd_points.specs.Fields.{fields, trim, is_semicolon, is_name}
use Rattle.ucd_facts.specs.DataLines.{ReadsValues, ReadsSingle, ReadsPair}
use Rattle.ucd_facts.specs.Grammar.{Reads}
use Rattle.ucd_points.specs.HexText.{hex_digit, hex_text}
use Rattle.ucd_facts.specs.RowTexts.{decomposition_text, case_text, value_fields, data_line, first_name, last_name, range_text, data_text}
use Rattle.ucd_facts.specs.RowValues.{IsTrimmed, IsKept, SingleOk, NameOk, DataOk}
use Rattle.ucd_points.specs.declared.files.SourceFile.TheVariants.{UnicodeData}
use Rattle.ucd_facts.specs.declared.row.DataRow.{DataRow}
use Rattle.ucd_facts.specs.declared.row.Row.TheVariants.{Unit as DataLine}
use Rattle.source_rows.proofs.HexTexts.{hex_lacks}
use Rattle.ucd_points.specs.HexTextProofs.{hex_text_spells_its_point}
use Rattle.source_rows.proofs.Lacks.{Lacks, lacks_both, lacks_cons, lacks_each, lacks_join, split_join}
use Rattle.source_rows.proofs.Trims.{Firm, trim_firm, firm_between}
use Rattle.source_rows.proofs.Separators.{Separates, semicolon_separates, feed_separates, name_no_semicolon, name_no_feed}
use Rattle.source_rows.proofs.TextValues.{hex_firm, category_lacks, category_firm, class_reads, class_lacks, class_firm, case_reads, case_lacks, case_trimmed, decomposition_reads, decomposition_lacks, decomposition_trimmed}

-- ---- each field is trimmed, without `;` and LF

kept_both : (bs : List ℕ) → ((p : ℕ → Bool) → Separates p → Lacks p bs) → IsTrimmed bs → IsKept bs
kept_both bs lacks trimmed = record { trimmed = trimmed; no_semicolon = lacks is_semicolon semicolon_separates; no_feed = lacks is_lf feed_separates }

hex_kept : (c : ℕ) → IsKept (hex_text c)
hex_kept c = kept_both (hex_text c) (λ p s. hex_lacks p s.digit c) (trim_firm (hex_text c) (hex_firm c))

case_kept : (o : Option ℕ) → IsKept (case_text o)
case_kept o = kept_both (case_text o) (λ p s. case_lacks p s.digit o) (case_trimmed o)

value_kept : (row : DataRow) → DataOk row → All IsKept (value_fields row)
value_kept row ok =
    let category = kept_both (category_code row.category) (λ p s. category_lacks p (λ b low high. s.high b (omega arith) high) row.category) (trim_firm _ (category_firm row.category)) in
    let class = kept_both (decimal row.class) (λ p s. class_lacks p s.decimal row.class ok.class) (trim_firm _ (class_firm row.class ok.class)) in
    let decomposition = kept_both (decomposition_text row.kind row.mapping) (λ p s. decomposition_lacks p s.high s.digit s.space row.kind row.mapping) (decomposition_trimmed row.kind row.mapping ok.decomposition) in
    All-from_recursion IsKept (value_fields row) (category, (class, (ok.f4, (decomposition, (ok.f6, (ok.f7, (ok.f8, (ok.f9, (ok.f10, (ok.f11, (case_kept row.upper, (case_kept row.lower, (case_kept row.title, tt)))))))))))))

abbrev line_fields : DataRow → ℕ → List ℕ → List (List ℕ)
line_fields row c name = hex_text c ∷ name ∷ value_fields row

line_kept : (row : DataRow) (c : ℕ) (name : List ℕ) → DataOk row → IsKept name → All IsKept (line_fields row c name)
line_kept row c name ok named = All-cons IsKept (hex_text c) (name ∷ value_fields row) (hex_kept c) (All-cons IsKept name (value_fields row) named (value_kept row ok))

all_trimmed : (fs : List (List ℕ)) → All IsKept fs → map trim fs ≡ fs
all_trimmed [] h = refl
all_trimmed (f ∷ fs) h =
    let k = All-head IsKept f fs h in
    rw (k.trimmed, all_trimmed fs (All-tail IsKept f fs h)) refl

all_lack_semicolons : (fs : List (List ℕ)) → All IsKept fs → All (Lacks is_semicolon) fs
all_lack_semicolons [] h = All-nil (Lacks is_semicolon)
all_lack_semicolons (f ∷ fs) h = let k = All-head IsKept f fs h in All-cons (Lacks is_semicolon) f fs k.no_semicolon (all_lack_semicolons fs (All-tail IsKept f fs h))

all_lack_feeds : (fs : List (List ℕ)) → All IsKept fs → All (Lacks is_lf) fs
all_lack_feeds [] h = All-nil (Lacks is_lf)
all_lack_feeds (f ∷ fs) h = let k = All-head IsKept f fs h in All-cons (Lacks is_lf) f fs k.no_feed (all_lack_feeds fs (All-tail IsKept f fs h))

-- ---- a line

cut_again : (row : DataRow) (c : ℕ) (name : List ℕ) → DataOk row → IsKept name → fields UnicodeData (data_line row c name) ≡ line_fields row c name
unfolding fields data_line
cut_again row c name ok named =
    let kept = line_kept row c name ok named in
    ap (λ (fs : List (List ℕ)). map trim fs) (split_join is_semicolon 59 (hex_text c) (name ∷ value_fields row) refl (all_lack_semicolons (line_fields row c name) kept)) ∙ all_trimmed (line_fields row c name) kept

no_feed : (row : DataRow) (c : ℕ) (name : List ℕ) → DataOk row → IsKept name → holds_line_feed (data_line row c name) ≡ false
unfolding data_line
no_feed row c name ok named = lacks_join is_lf 59 (line_fields row c name) refl (all_lack_feeds (line_fields row c name) (line_kept row c name ok named))

values_read : (row : DataRow) (c : ℕ) (name : List ℕ) → DataOk row → ReadsValues (line_fields row c name) row
values_read row c name ok = record {
  category = code_names row.category ok.category;
  class = class_reads row.class ok.class;
  decomposition = decomposition_reads row.kind row.mapping ok.decomposition;
  upper = case_reads row.upper ok.upper;
  lower = case_reads row.lower ok.lower;
  title = case_reads row.title ok.title;
  kept = refl;
}

single_reads : (row : DataRow) → DataOk row → row.range ≡ false → SingleOk row → Reads UnicodeData (data_line row row.span.lo row.name) (DataLine row)
single_reads row ok single alone =
    let named : IsKept row.name = record { trimmed = alone.trimmed; no_semicolon = name_no_semicolon row.name alone.name; no_feed = name_no_feed row.name alone.name } in
    let line : ReadsSingle (line_fields row row.span.lo row.name) row = record { count = refl; code = hex_text_spells_its_point row.span.lo (omega (arith, ok.span.0, ok.span.1)); one = alone.one; single = single; is_named = alone.name; no_range = alone.no_range; name = refl; values = values_read row row.span.lo row.name ok } in
    inl (no_feed row row.span.lo row.name ok named, subst (λ (fs : List (List ℕ)). ReadsSingle fs row) (sym (cut_again row row.span.lo row.name ok named)) line)

-- ---- two lines

-- `<`, a label, and a closing that ends in `>`
closed_kept : (label closing : List ℕ) → is_name label ≡ true → ((p : ℕ → Bool) → Separates p → Lacks p closing) → Firm closing → IsKept (codes "<" ++ label ++ closing)
closed_kept label closing name lacks firm =
    let semicolons : Lacks is_semicolon (codes "<" ++ label ++ closing) = lacks_both is_semicolon (codes "<" ++ label) closing (lacks_cons is_semicolon 60 label refl (name_no_semicolon label name)) (lacks is_semicolon semicolon_separates) in
    let feeds : Lacks is_lf (codes "<" ++ label ++ closing) = lacks_both is_lf (codes "<" ++ label) closing (lacks_cons is_lf 60 label refl (name_no_feed label name)) (lacks is_lf feed_separates) in
    let whole : Firm (60 ∷ (label ++ closing)) = firm_between label closing firm in
    record { trimmed = trim_firm (60 ∷ (label ++ closing)) whole; no_semicolon = semicolons; no_feed = feeds }

first_lacks : (p : ℕ → Bool) → Separates p → Lacks p (codes ", First>")
first_lacks p s = lacks_cons p 44 (32 ∷ 70 ∷ 105 ∷ 114 ∷ 115 ∷ 116 ∷ 62 ∷ []) s.comma (lacks_cons p 32 (70 ∷ 105 ∷ 114 ∷ 115 ∷ 116 ∷ 62 ∷ []) s.space (lacks_cons p 70 (105 ∷ 114 ∷ 115 ∷ 116 ∷ 62 ∷ []) (s.high 70 (omega arith) (omega arith)) (lacks_cons p 105 (114 ∷ 115 ∷ 116 ∷ 62 ∷ []) (s.high 105 (omega arith) (omega arith)) (lacks_cons p 114 (115 ∷ 116 ∷ 62 ∷ []) (s.high 114 (omega arith) (omega arith)) (lacks_cons p 115 (116 ∷ 62 ∷ []) (s.high 115 (omega arith) (omega arith)) (lacks_cons p 116 (62 ∷ []) (s.high 116 (omega arith) (omega arith)) (lacks_cons p 62 [] (s.high 62 (omega arith) (omega arith)) refl)))))))

last_lacks : (p : ℕ → Bool) → Separates p → Lacks p (codes ", Last>")
last_lacks p s = lacks_cons p 44 (32 ∷ 76 ∷ 97 ∷ 115 ∷ 116 ∷ 62 ∷ []) s.comma (lacks_cons p 32 (76 ∷ 97 ∷ 115 ∷ 116 ∷ 62 ∷ []) s.space (lacks_cons p 76 (97 ∷ 115 ∷ 116 ∷ 62 ∷ []) (s.high 76 (omega arith) (omega arith)) (lacks_cons p 97 (115 ∷ 116 ∷ 62 ∷ []) (s.high 97 (omega arith) (omega arith)) (lacks_cons p 115 (116 ∷ 62 ∷ []) (s.high 115 (omega arith) (omega arith)) (lacks_cons p 116 (62 ∷ []) (s.high 116 (omega arith) (omega arith)) (lacks_cons p 62 [] (s.high 62 (omega arith) (omega arith)) refl))))))

first_kept : (label : List ℕ) → is_name label ≡ true → IsKept (first_name label)
first_kept label name = closed_kept label (codes ", First>") name first_lacks (record { some = omega arith; front = refl; back = refl })

last_kept : (label : List ℕ) → is_name label ≡ true → IsKept (last_name label)
last_kept label name = closed_kept label (codes ", Last>") name last_lacks (record { some = omega arith; front = refl; back = refl })

-- ---- no CR ends a line

abbrev is_return : ℕ → Bool
is_return b = eqb b 13

stays : (bs : List ℕ) → 0 < length bs → is_return (get_or bs (length bs - 1) 0) ≡ false → without_return bs ≡ bs
stays bs some other =
    let at : slice_get bs (length bs - 1) ≡ Some (get_or bs (length bs - 1) 0) = slice_get-get_or bs (length bs - 1) 0 (omega arith) in
    let no_return : option_eq nat_eq (slice_get bs (length bs - 1)) (Some 13) ≡ false = rw at other in
    rw no_return refl

join_last : (c : ℕ) (f : List ℕ) (fs : List (List ℕ)) (g : List ℕ) → join_with_byte c ((f ∷ fs) ++ g ∷ []) ≡ join_with_byte c (f ∷ fs) ++ c ∷ g
join_last c f [] g = refl
join_last c f (h ∷ fs) g = ap (λ (bs : List ℕ). f ++ c ∷ bs) (join_last c h fs g) ∙ sym (append_assoc f (c ∷ join_with_byte c (h ∷ fs)) (c ∷ g))

ends_in : (xs ys : List ℕ) → 0 < length ys → Lacks is_return ys → without_return (xs ++ ys) ≡ xs ++ ys
ends_in xs ys some lacks =
    let n : length (xs ++ ys) ≡ length xs + length ys = length-append xs ys in
    let at : get_or (xs ++ ys) (length (xs ++ ys) - 1) 0 ≡ get_or ys (length (xs ++ ys) - 1 - length xs) 0 = get_or-append_right xs ys (length xs) (length (xs ++ ys) - 1) 0 refl (omega arith) in
    stays (xs ++ ys) (omega arith) (ap is_return at ∙ lacks_each is_return ys lacks (length (xs ++ ys) - 1 - length xs) 0 (omega arith))

digit_no_return : (d : ℕ) → d < 16 → is_return (hex_digit d) ≡ false
digit_no_return d h = grind (arith, nat_tests)

-- fields 0 to 13
abbrev front_fields : DataRow → List ℕ → List (List ℕ)
front_fields row name = name ∷ category_code row.category ∷ decimal row.class ∷ row.kept.f4 ∷ decomposition_text row.kind row.mapping ∷ row.kept.f6 ∷ row.kept.f7 ∷ row.kept.f8 ∷ row.kept.f9 ∷ row.kept.f10 ∷ row.kept.f11 ∷ case_text row.upper ∷ case_text row.lower ∷ []

no_return : (row : DataRow) (c : ℕ) (name : List ℕ) → without_return (data_line row c name) ≡ data_line row c name
unfolding data_line
no_return row c name =
    let front = join_with_byte 59 (hex_text c ∷ front_fields row name) in
    let whole : data_line row c name ≡ front ++ 59 ∷ case_text row.title = join_last 59 (hex_text c) (front_fields row name) (case_text row.title) in
    let lacks : Lacks is_return (59 ∷ case_text row.title) = lacks_cons is_return 59 (case_text row.title) refl (case_lacks is_return digit_no_return row.title) in
    ap (λ (bs : List ℕ). without_return bs) whole ∙ ends_in front (59 ∷ case_text row.title) (omega arith) lacks ∙ sym whole

range_reads : (row : DataRow) → DataOk row → row.range ≡ true → is_name row.name ≡ true → Reads UnicodeData (range_text row) (DataLine row)
range_reads row ok range label =
    let lo = row.span.lo in
    let hi = row.span.hi in
    let first = first_name row.name in
    let last = last_name row.name in
    let first_ok = first_kept row.name label in
    let last_ok = last_kept row.name label in
    let pair : ReadsPair (line_fields row lo first) (line_fields row hi last) row = record {
      count = refl;
      code = hex_text_spells_its_point lo (omega (arith, ok.span.0, ok.span.1));
      range = range;
      label = label;
      first_name = refl;
      values = values_read row lo first ok;
      last_count = refl;
      last_name = refl;
      last_code = hex_text_spells_its_point hi ok.span.1;
      ordered = ok.span.0;
    } in
    let first_cut : line_fields row lo first ≡ fields UnicodeData (without_return (data_line row lo first)) = sym (ap (λ (bs : List ℕ). fields UnicodeData bs) (no_return row lo first) ∙ cut_again row lo first ok first_ok) in
    let last_cut : line_fields row hi last ≡ fields UnicodeData (data_line row hi last) = sym (cut_again row hi last ok last_ok) in
    let one : ReadsPair (fields UnicodeData (without_return (data_line row lo first))) (line_fields row hi last) row = subst (λ (fs : List (List ℕ)). ReadsPair fs (line_fields row hi last) row) first_cut pair in
    inr (record {
      front = data_line row lo first;
      last = data_line row hi last;
      lines = refl;
      one_line = no_feed row lo first ok first_ok;
      other_line = no_feed row hi last ok last_ok;
      pair = subst (λ (fs : List (List ℕ)). ReadsPair (fields UnicodeData (without_return (data_line row lo first))) fs row) last_cut one;
    })

by_range : (row : DataRow) (range : Bool) → row.range ≡ range → DataOk row → NameOk range row → Reads UnicodeData (cond range (range_text row) (data_line row row.span.lo row.name)) (DataLine row)
by_range row true e ok name = range_reads row ok e name
by_range row false e ok name = single_reads row ok e name

pub data_reads : (row : DataRow) → DataOk row → Reads UnicodeData (data_text row) (DataLine row)
data_reads row ok = by_range row row.range refl ok ok.name
