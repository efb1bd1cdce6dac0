-- The text of the key of a row that the file can have is read as that key.
use Rattle.std.proofs.Common.{◌≡◌, ℕ, zero, suc, ◌<◌, true, false, List, [], ◌∷◌, ◌++◌, length, take, Some, None, refl, sym, ap, subst, ◌∙◌, append_assoc, arith, inl, inr, codes, All, bytes_eq, append-nil, length-take-le}
use Rattle.std.proofs.lemmas.Bool.{cases_eq, eq-eqb, ne_eqb, false_from_ne_true}
use Rattle.std.proofs.lemmas.Option.{same_Some}
use Rattle.std.proofs.lemmas.Slice.Eq.{bytes_eq-Decides}
use Rattle.std.proofs.lemmas.List.Elements.{All-nil, All-cons, All-take}
use Rattle.ucd_facts.specs.NameProofs.{code_is_status}
use Rattle.ucd_points.specs.Lines.{holds_line_feed}
use Rattle.ucd_facts.specs.Names.{status_code}
use Rattle.ucd_points.specs.Bounds.{Bounds}
use Rattle.ucd_points.specs.Fields.{fields, field, trim, is_hash, is_name, point_of}
use Rattle.ucd_points.specs.MissingLines.{takes_missing, missing_rest, is_missing}
use Rattle.ucd_facts.specs.Mappings.{conditions_of}
use Rattle.ucd_points.specs.HexText.{hex_text, span_text}
use Rattle.ucd_facts.specs.RowTexts.{names_text}
use Rattle.ucd_facts.specs.RowValues.{RowOk, IsSpan, IsTrimmed, IsAliasName, AliasOk}
use Rattle.ucd_points.specs.HexTextProofs.{hex_text_spells_its_point}
use Rattle.ucd_points.specs.declared.files.SourceFile.TheVariants.{UnicodeData, PropList, Scripts, WordBreakProperty, CompositionExclusions, CaseFolding, SpecialCasing, PropertyAliases, PropertyValueAliases}
use Rattle.ucd_facts.specs.declared.row.AliasRow.{AliasRow}
use Rattle.ucd_facts.specs.declared.row.FoldStatus.{FoldStatus}
use Rattle.ucd_facts.specs.declared.row.FoldStatus.TheVariants.{C}
use Rattle.ucd_facts.specs.declared.row.Row.TheVariants.{Unit as DataLine, Value as ValueLine, Exclusion as ExclusionLine, Fold as FoldLine, Casing as CasingLine, Alias as AliasLine, Missing as MissingLine}
use Rattle.source_rows.specs.Fields.{fields_of, row_fields}
use Rattle.source_rows.specs.Keys.{key_of, condition_names, missing_names, SourceFile, Row}
use Rattle.source_rows.specs.KeyGrammar.{ReadsKey, ReadsCodeKey, ReadsMissingKey, ReadsValueKey, ReadsPropertyKey, ReadsFoldKey, ReadsCasingKey, ReadsAliasKey}
use Rattle.source_rows.specs.KeyTexts.{behind_name, joined_span, key_text, KeyTextsReadBack}
use Rattle.source_rows.specs.declared.key.Key.{Key}
use Rattle.source_rows.proofs.KeyGrammar.{keys_are_read}
use Rattle.source_rows.proofs.MissingLines.{no_rest, written}
use Rattle.source_rows.proofs.OtherTexts.{Piece, IsLine, line_is, hex_piece, span_piece, span_trimmed, piece, piece_both, none, spaced, spaced_trimmed, value_piece, alias_line, all_names, cut_fields}
use Rattle.source_rows.proofs.Seams.{before_no_seam}
use Rattle.source_rows.proofs.TextValues.{hex_firm, span_spelled, status_lacks}
use Rattle.source_rows.proofs.Trims.{trim_firm, space_behind}
use Rattle.source_rows.proofs.WordTexts.{spaced_trimmed as words_trimmed, conditions_are, conditions_no_feed, no_conditions}

-- ---- lines of one field and of two

code_line : (c : ℕ) → IsLine (hex_text c) (hex_text c ∷ [])
code_line c = line_is (hex_text c) (hex_text c) [] (hex_text c ∷ []) refl (All-cons Piece (hex_text c) [] (hex_piece c) (All-nil Piece)) (rw (trim_firm (hex_text c) (hex_firm c)) refl)

-- with a name behind the code point, and a space before the name
two_line : (c : ℕ) (name : List ℕ) → Piece name → IsTrimmed name → IsLine (hex_text c ++ 59 ∷ 32 ∷ name) (hex_text c ∷ name ∷ [])
two_line c name p t =
    let pieces = All-cons Piece (hex_text c) ((32 ∷ name) ∷ []) (hex_piece c) (All-cons Piece (32 ∷ name) [] (spaced name p) (All-nil Piece)) in
    line_is (hex_text c ++ 59 ∷ 32 ∷ name) (hex_text c) ((32 ∷ name) ∷ []) (hex_text c ∷ name ∷ []) refl pieces (rw (trim_firm (hex_text c) (hex_firm c), spaced_trimmed name t) refl)

-- and one behind the code point
three_line : (c : ℕ) (name : List ℕ) → Piece name → IsTrimmed name → IsLine (hex_text c ++ 32 ∷ 59 ∷ 32 ∷ name) (hex_text c ∷ name ∷ [])
three_line c name p t =
    let pieces = All-cons Piece (hex_text c ++ 32 ∷ []) ((32 ∷ name) ∷ []) (piece_both (hex_text c) (32 ∷ []) (hex_piece c) (spaced [] none)) (All-cons Piece (32 ∷ name) [] (spaced name p) (All-nil Piece)) in
    line_is (hex_text c ++ 32 ∷ 59 ∷ 32 ∷ name) (hex_text c ++ 32 ∷ []) ((32 ∷ name) ∷ []) (hex_text c ∷ name ∷ []) (sym (append_assoc (hex_text c) (32 ∷ []) (59 ∷ 32 ∷ name))) pieces (rw (space_behind (hex_text c), trim_firm (hex_text c) (hex_firm c), spaced_trimmed name t) refl)

-- ---- a code point

code_key_reads : (c : ℕ) (fs : List (List ℕ)) → c < 1114112 → fs ≡ hex_text c ∷ [] → ReadsCodeKey fs (record { code = Some c; names = [] })
code_key_reads c fs small e = subst (λ (gs : List (List ℕ)). ReadsCodeKey gs (record { code = Some c; names = [] })) (sym e) (record { count = refl; point = c; spelled = hex_text_spells_its_point c small; code = refl; names = refl })

data_fields : (c : ℕ) → fields_of (hex_text c) ≡ hex_text c ∷ []
data_fields c = ap fields_of (sym (before_no_seam is_hash (hex_text c) (hex_piece c).no_hash)) ∙ (code_line c).cut

coded : (c : ℕ) → c < 1114112 → (holds_line_feed (hex_text c) ≡ false) × ReadsCodeKey (cut_fields (hex_text c)) (record { code = Some c; names = [] })
coded c small = ((code_line c).no_feed, code_key_reads c (cut_fields (hex_text c)) small (code_line c).cut)

-- a code point alone, where a span behind a mark may stand too
plain_coded : (file : SourceFile) (c : ℕ) → c < 1114112 → (holds_line_feed (hex_text c) ≡ false) × ReadsValueKey (is_missing file (hex_text c)) (row_fields file (hex_text c)) (record { code = Some c; names = [] })
plain_coded file c small =
    let key = coded c small in
    let none = no_rest file (hex_text c) (hex_piece c).no_hash in
    (key.0, rw none key.1)

-- ---- the span of a missing row

-- two points have the same digits where they are the same
joined_is : (s : Bounds) → IsSpan s → joined_span (hex_text s.lo) (hex_text s.hi) ≡ span_text s
unfolding span_text
joined_is s ok =
    elim (cases_eq s.lo s.hi) [
      | inl same ↦ rw (same, (bytes_eq-Decides (hex_text s.hi) (hex_text s.hi)).1 refl, eq-eqb s.hi s.hi refl) refl
      | inr apart ↦ rw (false_from_ne_true (bytes_eq (hex_text s.lo) (hex_text s.hi)) (λ e. apart (one_point s ok ((bytes_eq-Decides (hex_text s.lo) (hex_text s.hi)).0 e))), ne_eqb s.lo s.hi apart) refl
    ]
  where
    one_point : (s : Bounds) → IsSpan s → hex_text s.lo ≡ hex_text s.hi → s.lo ≡ s.hi
    one_point s ok e =
        let lo = hex_text_spells_its_point s.lo (omega (arith, ok.0, ok.1)) in
        let hi = hex_text_spells_its_point s.hi ok.1 in
        same_Some s.lo s.hi (sym lo ∙ ap point_of e ∙ hi)

abbrev marked : List ℕ → List ℕ
marked text = codes "# @missing: " ++ text

marked_span : (file : SourceFile) (s : Bounds) → takes_missing file ≡ true → IsSpan s → (holds_line_feed (marked (span_text s)) ≡ false) × ReadsValueKey (is_missing file (marked (span_text s))) (row_fields file (marked (span_text s))) (record { code = Some s.lo; names = missing_names s.hi })
marked_span file s takes ok =
    let key : Key = record { code = Some s.lo; names = missing_names s.hi } in
    let some = written file (span_text s) takes in
    let line = line_is (32 ∷ span_text s) (32 ∷ span_text s) [] (span_text s ∷ []) refl (All-cons Piece (32 ∷ span_text s) [] (spaced (span_text s) (span_piece s)) (All-nil Piece)) (rw (spaced_trimmed (span_text s) (span_trimmed s)) refl) in
    let reads : ReadsMissingKey (span_text s ∷ []) key = record { count = refl; span = s; spelled = span_spelled s ok; code = refl; names = refl } in
    (line.no_feed, rw some (subst (λ (fs : List (List ℕ)). ReadsMissingKey fs key) (sym line.cut) reads))

missing_key_reads : (file : SourceFile) (s : Bounds) → takes_missing file ≡ true → IsSpan s → (holds_line_feed (marked (joined_span (hex_text s.lo) (hex_text s.hi))) ≡ false) × ReadsValueKey (is_missing file (marked (joined_span (hex_text s.lo) (hex_text s.hi)))) (row_fields file (marked (joined_span (hex_text s.lo) (hex_text s.hi)))) (record { code = Some s.lo; names = missing_names s.hi })
missing_key_reads file s takes ok = rw (joined_is s ok) (marked_span file s takes ok)

-- ---- a code point and a name

fold_key_reads : (c : ℕ) (s : FoldStatus) (fs : List (List ℕ)) → c < 1114112 → fs ≡ hex_text c ∷ (status_code s ∷ []) ∷ [] → ReadsFoldKey fs (record { code = Some c; names = (status_code s ∷ []) ∷ [] })
fold_key_reads c s fs small e = subst (λ (gs : List (List ℕ)). ReadsFoldKey gs (record { code = Some c; names = (status_code s ∷ []) ∷ [] })) (sym e) (record { count = refl; point = c; spelled = hex_text_spells_its_point c small; code = refl; status = s; lettered = code_is_status s; names = refl })

status_line : (c : ℕ) (s : FoldStatus) → IsLine (hex_text c ++ 59 ∷ 32 ∷ status_code s ∷ []) (hex_text c ∷ (status_code s ∷ []) ∷ [])
status_line c s = two_line c (status_code s ∷ []) (piece (status_code s ∷ []) (λ p separates. status_lacks p (λ b low high. separates.high b (omega arith) high) s)) (status_is_trimmed s)
  where
    status_is_trimmed : (s : FoldStatus) → IsTrimmed (status_code s ∷ [])
    status_is_trimmed C = refl
    status_is_trimmed _ = refl

property_key_reads : (c : ℕ) (name : List ℕ) (fs : List (List ℕ)) → c < 1114112 → is_name name ≡ true → fs ≡ hex_text c ∷ name ∷ [] → ReadsPropertyKey fs (record { code = Some c; names = name ∷ [] })
property_key_reads c name fs small named e = subst (λ (gs : List (List ℕ)). ReadsPropertyKey gs (record { code = Some c; names = name ∷ [] })) (sym e) (record { count = refl; point = c; spelled = hex_text_spells_its_point c small; code = refl; named = named; names = refl })

-- ---- a code point and conditions

record CasingKey (c : ℕ) (cs : List ℕ) (text : List ℕ) : Type 0 where
  no_feed : holds_line_feed text ≡ false
  reads : ReadsCasingKey (cut_fields text) (record { code = Some c; names = condition_names cs })

casing_key_reads : (c : ℕ) (cs : List ℕ) → c < 1114112 → conditions_of cs ≡ Some cs → Piece cs → IsTrimmed cs → CasingKey c cs (hex_text c ++ behind_name (codes "; ") (condition_names cs))
casing_key_reads c [] small ok p t =
    let line : IsLine (hex_text c ++ []) (hex_text c ∷ []) = subst (λ (text : List ℕ). IsLine text (hex_text c ∷ [])) (sym (append-nil (hex_text c))) (code_line c) in
    let reads : ReadsCasingKey (hex_text c ∷ []) (record { code = Some c; names = [] }) = record { most = omega arith; point = c; spelled = hex_text_spells_its_point c small; code = refl; conditions = []; worded = no_conditions; names = refl } in
    record { no_feed = line.no_feed; reads = subst (λ (fs : List (List ℕ)). ReadsCasingKey fs (record { code = Some c; names = [] })) (sym line.cut) reads }
casing_key_reads c (b ∷ bs) small ok p t =
    let line = two_line c (b ∷ bs) p t in
    let reads : ReadsCasingKey (hex_text c ∷ (b ∷ bs) ∷ []) (record { code = Some c; names = (b ∷ bs) ∷ [] }) = record { most = omega arith; point = c; spelled = hex_text_spells_its_point c small; code = refl; conditions = b ∷ bs; worded = ok; names = refl } in
    record { no_feed = line.no_feed; reads = subst (λ (fs : List (List ℕ)). ReadsCasingKey fs (record { code = Some c; names = (b ∷ bs) ∷ [] })) (sym line.cut) reads }

-- ---- names

first_taken : (n : ℕ) (names : List (List ℕ)) → 0 < n → field (take n names) 0 ≡ field names 0
first_taken zero names some = absurd (omega arith)
first_taken (suc n) [] some = refl
first_taken (suc n) (name ∷ names) some = refl

record AliasKey (count : ℕ) (names : List (List ℕ)) : Type 0 where
  no_feed : holds_line_feed (names_text names) ≡ false
  reads : ReadsAliasKey count (cut_fields (names_text names)) (record { code = None; names = names })

alias_key_reads : (count : ℕ) (row : AliasRow) → 0 < count → AliasOk count row → AliasKey count (take count row.names)
alias_key_reads count row some ok =
    let names = take count row.names in
    let each : All IsAliasName names = All-take IsAliasName count row.names ok.each in
    let many : length names ≡ count = length-take-le count row.names ok.count in
    let line = alias_line names (omega (arith, many)) each in
    let reads : ReadsAliasKey count names (record { code = None; names = names }) = record { as_many = many; first = ap is_name (first_taken count row.names some) ∙ ok.first; others = all_names names each; code = refl; names = refl } in
    record { no_feed = line.no_feed; reads = subst (λ (fs : List (List ℕ)). ReadsAliasKey count fs (record { code = None; names = names })) (sym line.cut) reads }

-- ---- by the file

text_reads : (file : SourceFile) (row : Row) → RowOk file row → ReadsKey file (key_text file (key_of file row)) (key_of file row)
unfolding fields missing_rest
text_reads UnicodeData (DataLine row) ok = let c = row.span.lo in ((code_line c).no_feed, code_key_reads c (fields_of (hex_text c)) (omega (arith, ok.span.0, ok.span.1)) (data_fields c))
text_reads PropList (ValueLine row) ok =
    let c = row.span.lo in
    let line = three_line c row.value (value_piece row.value ok.value) ok.value.trimmed in
    (line.no_feed, property_key_reads c row.value (cut_fields (hex_text c ++ 32 ∷ 59 ∷ 32 ∷ row.value)) (omega (arith, ok.span.0, ok.span.1)) ok.value.name line.cut)
text_reads Scripts (ValueLine row) ok = plain_coded Scripts row.span.lo (omega (arith, ok.span.0, ok.span.1))
text_reads Scripts (MissingLine row) ok = missing_key_reads Scripts row.span refl ok.span
text_reads WordBreakProperty (ValueLine row) ok = plain_coded WordBreakProperty row.span.lo (omega (arith, ok.span.0, ok.span.1))
text_reads WordBreakProperty (MissingLine row) ok = missing_key_reads WordBreakProperty row.span refl ok.span
text_reads CompositionExclusions (ExclusionLine row) ok = coded row.span.lo (omega (arith, ok.0, ok.1))
text_reads CaseFolding (FoldLine row) ok = let line = status_line row.code row.status in (line.no_feed, fold_key_reads row.code row.status (cut_fields (hex_text row.code ++ 59 ∷ 32 ∷ status_code row.status ∷ [])) ok.code line.cut)
text_reads SpecialCasing (CasingLine row) ok =
    let is = conditions_are row.conditions row.conditions ok.conditions in
    let key = casing_key_reads row.code row.conditions ok.code ok.conditions (record { no_semicolon = ok.no_semicolon; no_hash = ok.no_hash; no_feed = conditions_no_feed row.conditions is.0 }) (ap trim (sym is.1) ∙ words_trimmed row.conditions ∙ is.1) in
    (key.no_feed, key.reads)
text_reads PropertyAliases (AliasLine row) ok = let key = alias_key_reads 2 row (omega arith) ok in (key.no_feed, key.reads)
text_reads PropertyValueAliases (AliasLine row) ok = let key = alias_key_reads 3 row (omega arith) ok in (key.no_feed, key.reads)
text_reads _ _ ok = absurd ok

pub key_texts_read_back : KeyTextsReadBack
key_texts_read_back file row ok = (keys_are_read file (key_text file (key_of file row)) (key_of file row)).1 (text_reads file row ok)
