-- The text of a row of a file beside UnicodeData.txt is read as that row.
use Rattle.std.proofs.Common.{◌≡◌, ℕ, ◌<◌, Bool, true, false, List, [], ◌∷◌, ◌++◌, length, map, Some, refl, sym, ap, subst, ◌∙◌, append_assoc, arith, inr, codes}
use Rattle.std.specs.List.{All, list_any, list_all, join_with_byte, before_first}
use Rattle.std.proofs.lemmas.Bool.{and_from}
use Rattle.std.proofs.lemmas.List.Elements.{All-nil, All-cons, All-head, All-tail}
use Rattle.ucd_facts.specs.NameProofs.{code_is_status}
use Rattle.ucd_points.specs.Bounds.{Bounds}
use Rattle.ucd_points.specs.Lines.{is_lf, holds_line_feed}
use Rattle.ucd_facts.specs.Names.{status_code}
use Rattle.ucd_points.specs.Fields.{trim, is_semicolon, is_hash, is_name}
use Rattle.ucd_facts.specs.Mappings.{conditions_of}
use Rattle.ucd_facts.specs.OtherLines.{ReadsValue, ReadsExclusion, ReadsFold, ReadsCasing, ReadsAlias, is_name_or_empty}
use Rattle.ucd_points.specs.HexText.{hex_text, span_text}
use Rattle.ucd_facts.specs.RowTexts.{mapping_text, value_text, missing_text, exclusion_text, fold_text, conditions_text, casing_text, names_text, alias_text}
use Rattle.ucd_facts.specs.RowValues.{IsTrimmed, IsValueName, ValueOk, ExclusionOk, FoldOk, CasingOk, IsAliasName, AliasOk}
use Rattle.ucd_facts.specs.declared.row.FoldStatus.{FoldStatus}
use Rattle.ucd_facts.specs.declared.row.FoldStatus.TheVariants.{C}
use Rattle.ucd_facts.specs.declared.row.ValueRow.{ValueRow}
use Rattle.ucd_facts.specs.declared.row.ExclusionRow.{ExclusionRow}
use Rattle.ucd_facts.specs.declared.row.FoldRow.{FoldRow}
use Rattle.ucd_facts.specs.declared.row.CasingRow.{CasingRow}
use Rattle.ucd_facts.specs.declared.row.AliasRow.{AliasRow}
use Rattle.source_rows.specs.Fields.{fields_of}
use Rattle.source_rows.proofs.HexTexts.{hex_lacks}
use Rattle.ucd_points.specs.HexTextProofs.{hex_text_spells_its_point}
use Rattle.source_rows.proofs.Lacks.{Lacks, lacks_both, lacks_cons, lacks_join, split_join}
use Rattle.source_rows.proofs.Trims.{trim_firm, space_before, space_behind}
use Rattle.source_rows.proofs.Seams.{before_no_seam}
use Rattle.source_rows.proofs.Separators.{Separates, semicolon_separates, hash_separates, feed_separates, name_no_semicolon, name_no_feed}
use Rattle.source_rows.proofs.WordTexts.{spaced_trimmed as words_trimmed, conditions_are, conditions_no_feed, no_conditions}
use Rattle.source_rows.proofs.TextValues.{hex_firm, span_spelled, span_lacks, span_firm, mapping_reads, mapping_lacks, mapping_firm, status_lacks}

-- ---- pieces of a line, before they are trimmed

pub record Piece (bs : List ℕ) : Type 0 where
  pub no_semicolon : Lacks is_semicolon bs
  pub no_hash : Lacks is_hash bs
  pub no_feed : Lacks is_lf bs

pub piece : (bs : List ℕ) → ((p : ℕ → Bool) → Separates p → Lacks p bs) → Piece bs
piece bs lacks = record { no_semicolon = lacks is_semicolon semicolon_separates; no_hash = lacks is_hash hash_separates; no_feed = lacks is_lf feed_separates }

piece_cons : (b : ℕ) (bs : List ℕ) → is_semicolon b ≡ false → is_hash b ≡ false → is_lf b ≡ false → Piece bs → Piece (b ∷ bs)
piece_cons b bs s h f p = record { no_semicolon = lacks_cons is_semicolon b bs s p.no_semicolon; no_hash = lacks_cons is_hash b bs h p.no_hash; no_feed = lacks_cons is_lf b bs f p.no_feed }

pub spaced : (bs : List ℕ) → Piece bs → Piece (32 ∷ bs)
spaced bs p = piece_cons 32 bs refl refl refl p

pub none : Piece []
none = record { no_semicolon = refl; no_hash = refl; no_feed = refl }

pub piece_both : (xs ys : List ℕ) → Piece xs → Piece ys → Piece (xs ++ ys)
piece_both xs ys p q = record { no_semicolon = lacks_both is_semicolon xs ys p.no_semicolon q.no_semicolon; no_hash = lacks_both is_hash xs ys p.no_hash q.no_hash; no_feed = lacks_both is_lf xs ys p.no_feed q.no_feed }

semicolons : (fs : List (List ℕ)) → All Piece fs → All (Lacks is_semicolon) fs
semicolons [] h = All-nil (Lacks is_semicolon)
semicolons (f ∷ fs) h = let k = All-head Piece f fs h in All-cons (Lacks is_semicolon) f fs k.no_semicolon (semicolons fs (All-tail Piece f fs h))

hashes : (fs : List (List ℕ)) → All Piece fs → All (Lacks is_hash) fs
hashes [] h = All-nil (Lacks is_hash)
hashes (f ∷ fs) h = let k = All-head Piece f fs h in All-cons (Lacks is_hash) f fs k.no_hash (hashes fs (All-tail Piece f fs h))

feeds : (fs : List (List ℕ)) → All Piece fs → All (Lacks is_lf) fs
feeds [] h = All-nil (Lacks is_lf)
feeds (f ∷ fs) h = let k = All-head Piece f fs h in All-cons (Lacks is_lf) f fs k.no_feed (feeds fs (All-tail Piece f fs h))

-- what a text without comment is cut into
abbrev pub cut_fields : List ℕ → List (List ℕ)
cut_fields text = fields_of (before_first is_hash text)

pub record IsLine (text : List ℕ) (fs : List (List ℕ)) : Type 0 where
  pub no_hash : Lacks is_hash text
  pub no_feed : holds_line_feed text ≡ false
  pub cut : cut_fields text ≡ fs

pub line_is : (text f : List ℕ) (fs gs : List (List ℕ)) → text ≡ join_with_byte 59 (f ∷ fs) → All Piece (f ∷ fs) → map trim (f ∷ fs) ≡ gs → IsLine text gs
line_is text f fs gs e pieces trimmed =
    let no_hash : Lacks is_hash text = ap (λ (bs : List ℕ). list_any is_hash bs) e ∙ lacks_join is_hash 59 (f ∷ fs) refl (hashes (f ∷ fs) pieces) in
    let uncommented : before_first is_hash text ≡ join_with_byte 59 (f ∷ fs) = before_no_seam is_hash text no_hash ∙ e in
    let split = split_join is_semicolon 59 f fs refl (semicolons (f ∷ fs) pieces) in
    record {
      no_hash = no_hash;
      no_feed = ap holds_line_feed e ∙ lacks_join is_lf 59 (f ∷ fs) refl (feeds (f ∷ fs) pieces);
      cut = ap (λ (bs : List ℕ). fields_of bs) uncommented ∙ ap (λ (parts : List (List ℕ)). map trim parts) split ∙ trimmed;
    }

pub hex_piece : (c : ℕ) → Piece (hex_text c)
hex_piece c = piece (hex_text c) (λ p s. hex_lacks p s.digit c)

pub span_piece : (s : Bounds) → Piece (span_text s)
span_piece s = piece (span_text s) (λ p sep. span_lacks p sep.digit sep.dot s)

pub span_trimmed : (s : Bounds) → trim (span_text s) ≡ span_text s
span_trimmed s = trim_firm (span_text s) (span_firm s)

mapping_piece : (cs : List ℕ) → Piece (mapping_text cs)
mapping_piece cs = piece (mapping_text cs) (λ p s. mapping_lacks p s.digit s.space cs)

mapping_trimmed : (cs : List ℕ) → trim (mapping_text cs) ≡ mapping_text cs
unfolding mapping_text
mapping_trimmed [] = refl
mapping_trimmed (c ∷ cs) = trim_firm (mapping_text (c ∷ cs)) (mapping_firm (c ∷ cs) (omega arith))

pub spaced_trimmed : (bs : List ℕ) → IsTrimmed bs → trim (32 ∷ bs) ≡ bs
spaced_trimmed bs h = space_before bs ∙ h

-- ---- a span and a value

pub value_piece : (bs : List ℕ) → IsValueName bs → Piece bs
value_piece bs v = record { no_semicolon = name_no_semicolon bs v.name; no_hash = v.no_hash; no_feed = name_no_feed bs v.name }

value_joined : (row : ValueRow) → value_text row ≡ join_with_byte 59 ((span_text row.span ++ 32 ∷ []) ∷ (32 ∷ row.value) ∷ [])
value_joined row = append_assoc (span_text row.span) (codes " ; ") row.value ∙ sym (append_assoc (span_text row.span) (32 ∷ []) (59 ∷ 32 ∷ row.value))

pub record ValueLine (row : ValueRow) : Type 0 where
  pub no_hash : Lacks is_hash (value_text row)
  pub no_feed : holds_line_feed (value_text row) ≡ false
  pub reads : ReadsValue (cut_fields (value_text row)) row

pub value_reads : (row : ValueRow) → ValueOk row → ValueLine row
value_reads row ok =
    let pieces : All Piece ((span_text row.span ++ 32 ∷ []) ∷ (32 ∷ row.value) ∷ []) = All-cons Piece (span_text row.span ++ 32 ∷ []) ((32 ∷ row.value) ∷ []) (piece_both (span_text row.span) (32 ∷ []) (span_piece row.span) (spaced [] none)) (All-cons Piece (32 ∷ row.value) [] (spaced row.value (value_piece row.value ok.value)) (All-nil Piece)) in
    let trimmed : map trim ((span_text row.span ++ 32 ∷ []) ∷ (32 ∷ row.value) ∷ []) ≡ span_text row.span ∷ row.value ∷ [] = rw (space_behind (span_text row.span), span_trimmed row.span, spaced_trimmed row.value ok.value.trimmed) refl in
    let line = line_is (value_text row) (span_text row.span ++ 32 ∷ []) ((32 ∷ row.value) ∷ []) (span_text row.span ∷ row.value ∷ []) (value_joined row) pieces trimmed in
    record { no_hash = line.no_hash; no_feed = line.no_feed; reads = subst (λ (fs : List (List ℕ)). ReadsValue fs row) (sym line.cut) (record { count = refl; span = span_spelled row.span ok.span; name = ok.value.name; value = refl }) }

-- ---- the same behind the mark of a missing line

abbrev pub missing_behind : ValueRow → List ℕ
missing_behind row = span_text row.span ++ codes "; " ++ row.value

pub record MissingLine (row : ValueRow) : Type 0 where
  pub no_feed : holds_line_feed (missing_text row) ≡ false
  pub reads : ReadsValue (cut_fields (32 ∷ missing_behind row)) row

pub missing_reads : (row : ValueRow) → ValueOk row → MissingLine row
missing_reads row ok =
    let joined : 32 ∷ missing_behind row ≡ join_with_byte 59 ((32 ∷ span_text row.span) ∷ (32 ∷ row.value) ∷ []) = ap (λ (bs : List ℕ). 32 ∷ bs) (append_assoc (span_text row.span) (codes "; ") row.value) in
    let pieces : All Piece ((32 ∷ span_text row.span) ∷ (32 ∷ row.value) ∷ []) = All-cons Piece (32 ∷ span_text row.span) ((32 ∷ row.value) ∷ []) (spaced (span_text row.span) (span_piece row.span)) (All-cons Piece (32 ∷ row.value) [] (spaced row.value (value_piece row.value ok.value)) (All-nil Piece)) in
    let trimmed : map trim ((32 ∷ span_text row.span) ∷ (32 ∷ row.value) ∷ []) ≡ span_text row.span ∷ row.value ∷ [] = rw (spaced_trimmed (span_text row.span) (span_trimmed row.span), spaced_trimmed row.value ok.value.trimmed) refl in
    let line = line_is (32 ∷ missing_behind row) (32 ∷ span_text row.span) ((32 ∷ row.value) ∷ []) (span_text row.span ∷ row.value ∷ []) joined pieces trimmed in
    record { no_feed = line.no_feed; reads = subst (λ (fs : List (List ℕ)). ReadsValue fs row) (sym line.cut) (record { count = refl; span = span_spelled row.span ok.span; name = ok.value.name; value = refl }) }

-- ---- a span

pub record ExclusionLine (row : ExclusionRow) : Type 0 where
  pub no_feed : holds_line_feed (exclusion_text row) ≡ false
  pub reads : ReadsExclusion (cut_fields (exclusion_text row)) row

pub exclusion_reads : (row : ExclusionRow) → ExclusionOk row → ExclusionLine row
exclusion_reads row ok =
    let pieces : All Piece (span_text row.span ∷ []) = All-cons Piece (span_text row.span) [] (span_piece row.span) (All-nil Piece) in
    let trimmed : map trim (span_text row.span ∷ []) ≡ span_text row.span ∷ [] = rw (span_trimmed row.span) refl in
    let line = line_is (exclusion_text row) (span_text row.span) [] (span_text row.span ∷ []) refl pieces trimmed in
    record { no_feed = line.no_feed; reads = subst (λ (fs : List (List ℕ)). ReadsExclusion fs row) (sym line.cut) (record { count = refl; span = span_spelled row.span ok }) }

-- ---- CaseFolding.txt

status_trimmed : (s : FoldStatus) → trim (32 ∷ status_code s ∷ []) ≡ status_code s ∷ []
status_trimmed C = refl
status_trimmed _ = refl

abbrev fold_pieces : FoldRow → List (List ℕ)
fold_pieces row = (32 ∷ status_code row.status ∷ []) ∷ (32 ∷ mapping_text row.mapping) ∷ [] ∷ []

fold_joined : (row : FoldRow) → fold_text row ≡ join_with_byte 59 (hex_text row.code ∷ fold_pieces row)
fold_joined row = simp append_assoc refl

pub record FoldLine (row : FoldRow) : Type 0 where
  pub no_feed : holds_line_feed (fold_text row) ≡ false
  pub reads : ReadsFold (cut_fields (fold_text row)) row

pub fold_reads : (row : FoldRow) → FoldOk row → FoldLine row
fold_reads row ok =
    let status : Piece (status_code row.status ∷ []) = piece (status_code row.status ∷ []) (λ p s. status_lacks p (λ b low high. s.high b (omega arith) high) row.status) in
    let pieces : All Piece (hex_text row.code ∷ fold_pieces row) = All-cons Piece (hex_text row.code) (fold_pieces row) (hex_piece row.code) (All-cons Piece (32 ∷ status_code row.status ∷ []) ((32 ∷ mapping_text row.mapping) ∷ [] ∷ []) (spaced (status_code row.status ∷ []) status) (All-cons Piece (32 ∷ mapping_text row.mapping) ([] ∷ []) (spaced (mapping_text row.mapping) (mapping_piece row.mapping)) (All-cons Piece [] [] none (All-nil Piece)))) in
    let trimmed : map trim (hex_text row.code ∷ fold_pieces row) ≡ hex_text row.code ∷ (status_code row.status ∷ []) ∷ mapping_text row.mapping ∷ [] ∷ [] = rw (trim_firm (hex_text row.code) (hex_firm row.code), status_trimmed row.status, spaced_trimmed (mapping_text row.mapping) (mapping_trimmed row.mapping)) refl in
    let line = line_is (fold_text row) (hex_text row.code) (fold_pieces row) (hex_text row.code ∷ (status_code row.status ∷ []) ∷ mapping_text row.mapping ∷ [] ∷ []) (fold_joined row) pieces trimmed in
    record { no_feed = line.no_feed; reads = subst (λ (fs : List (List ℕ)). ReadsFold fs row) (sym line.cut) (record { count = inr (refl, refl); code = hex_text_spells_its_point row.code ok.code; status = code_is_status row.status; mapping = mapping_reads row.mapping ok.mapping; length_fits = ok.length_fits }) }

-- ---- SpecialCasing.txt

abbrev mapping_pieces : CasingRow → List (List ℕ) → List (List ℕ)
mapping_pieces row rest = (32 ∷ mapping_text row.lower) ∷ (32 ∷ mapping_text row.title) ∷ (32 ∷ mapping_text row.upper) ∷ rest

abbrev condition_pieces : List ℕ → List (List ℕ)
condition_pieces [] = [] ∷ []
condition_pieces (b ∷ bs) = (32 ∷ b ∷ bs) ∷ [] ∷ []

abbrev condition_fields : List ℕ → List (List ℕ)
condition_fields [] = [] ∷ []
condition_fields (b ∷ bs) = (b ∷ bs) ∷ [] ∷ []

abbrev mappings_text : List ℕ → List ℕ → List ℕ → List ℕ → List ℕ → List ℕ
mappings_text code lower title upper rest = code ++ codes "; " ++ lower ++ codes "; " ++ title ++ codes "; " ++ upper ++ codes ";" ++ rest

casing_is : (code lower title upper conditions : List ℕ) → mappings_text code lower title upper (conditions_text conditions) ≡ join_with_byte 59 (code ∷ (32 ∷ lower) ∷ (32 ∷ title) ∷ (32 ∷ upper) ∷ condition_pieces conditions)
casing_is code lower title upper [] = simp append_assoc refl
casing_is code lower title upper (b ∷ bs) = simp append_assoc refl

casing_joined : (row : CasingRow) → casing_text row ≡ join_with_byte 59 (hex_text row.code ∷ mapping_pieces row (condition_pieces row.conditions))
casing_joined row = casing_is (hex_text row.code) (mapping_text row.lower) (mapping_text row.title) (mapping_text row.upper) row.conditions

condition_all : (cs : List ℕ) → Piece cs → All Piece (condition_pieces cs)
condition_all [] p = All-cons Piece [] [] none (All-nil Piece)
condition_all (b ∷ bs) p = All-cons Piece (32 ∷ b ∷ bs) ([] ∷ []) (spaced (b ∷ bs) p) (All-cons Piece [] [] none (All-nil Piece))

condition_trims : (cs : List ℕ) → IsTrimmed cs → map trim (condition_pieces cs) ≡ condition_fields cs
condition_trims [] h = refl
condition_trims (b ∷ bs) h = rw (spaced_trimmed (b ∷ bs) h) refl

pub record CasingLine (row : CasingRow) : Type 0 where
  pub no_feed : holds_line_feed (casing_text row) ≡ false
  pub reads : ReadsCasing (cut_fields (casing_text row)) row

casing_fields : (row : CasingRow) (cs : List ℕ) → cs ≡ row.conditions → CasingOk row → ReadsCasing (hex_text row.code ∷ mapping_text row.lower ∷ mapping_text row.title ∷ mapping_text row.upper ∷ condition_fields cs) row
casing_fields row [] e ok = record { least = omega arith; most = omega arith; nothing_behind = refl; code = hex_text_spells_its_point row.code ok.code; lower = mapping_reads row.lower ok.lower; title = mapping_reads row.title ok.title; upper = mapping_reads row.upper ok.upper; conditions = no_conditions ∙ ap (λ (xs : List ℕ). Some xs) e }
casing_fields row (b ∷ bs) e ok = record { least = omega arith; most = omega arith; nothing_behind = refl; code = hex_text_spells_its_point row.code ok.code; lower = mapping_reads row.lower ok.lower; title = mapping_reads row.title ok.title; upper = mapping_reads row.upper ok.upper; conditions = ap conditions_of e ∙ ok.conditions }

pub casing_reads : (row : CasingRow) → CasingOk row → CasingLine row
casing_reads row ok =
    let is = conditions_are row.conditions row.conditions ok.conditions in
    let conditions : Piece row.conditions = record { no_semicolon = ok.no_semicolon; no_hash = ok.no_hash; no_feed = conditions_no_feed row.conditions is.0 } in
    let trimmed_conditions : trim row.conditions ≡ row.conditions = ap trim (sym is.1) ∙ words_trimmed row.conditions ∙ is.1 in
    let pieces : All Piece (hex_text row.code ∷ mapping_pieces row (condition_pieces row.conditions)) = All-cons Piece (hex_text row.code) (mapping_pieces row (condition_pieces row.conditions)) (hex_piece row.code) (All-cons Piece (32 ∷ mapping_text row.lower) ((32 ∷ mapping_text row.title) ∷ (32 ∷ mapping_text row.upper) ∷ condition_pieces row.conditions) (spaced (mapping_text row.lower) (mapping_piece row.lower)) (All-cons Piece (32 ∷ mapping_text row.title) ((32 ∷ mapping_text row.upper) ∷ condition_pieces row.conditions) (spaced (mapping_text row.title) (mapping_piece row.title)) (All-cons Piece (32 ∷ mapping_text row.upper) (condition_pieces row.conditions) (spaced (mapping_text row.upper) (mapping_piece row.upper)) (condition_all row.conditions conditions)))) in
    let fs = hex_text row.code ∷ mapping_text row.lower ∷ mapping_text row.title ∷ mapping_text row.upper ∷ condition_fields row.conditions in
    let trimmed : map trim (hex_text row.code ∷ mapping_pieces row (condition_pieces row.conditions)) ≡ fs = rw (trim_firm (hex_text row.code) (hex_firm row.code), spaced_trimmed (mapping_text row.lower) (mapping_trimmed row.lower), spaced_trimmed (mapping_text row.title) (mapping_trimmed row.title), spaced_trimmed (mapping_text row.upper) (mapping_trimmed row.upper), condition_trims row.conditions trimmed_conditions) refl in
    let line = line_is (casing_text row) (hex_text row.code) (mapping_pieces row (condition_pieces row.conditions)) fs (casing_joined row) pieces trimmed in
    record { no_feed = line.no_feed; reads = subst (λ (gs : List (List ℕ)). ReadsCasing gs row) (sym line.cut) (casing_fields row row.conditions refl ok) }

-- ---- alias files

-- a name with a space behind it, where another one follows
abbrev name_piece : List ℕ → List (List ℕ) → List ℕ
name_piece name [] = name
name_piece name (next ∷ names) = name ++ 32 ∷ []

abbrev pieces_behind : List (List ℕ) → List (List ℕ)
pieces_behind [] = []
pieces_behind (name ∷ names) = (32 ∷ name_piece name names) ∷ pieces_behind names

join_cons : (c b : ℕ) (x : List ℕ) (xs : List (List ℕ)) → join_with_byte c ((b ∷ x) ∷ xs) ≡ b ∷ join_with_byte c (x ∷ xs)
join_cons c b x [] = refl
join_cons c b x (y ∷ ys) = refl

names_joined : (name : List ℕ) (names : List (List ℕ)) → names_text (name ∷ names) ≡ join_with_byte 59 (name_piece name names ∷ pieces_behind names)
names_joined name [] = refl
names_joined name (next ∷ names) =
    append_assoc name (codes " ; ") (names_text (next ∷ names))
    ∙ ap (λ (bs : List ℕ). name ++ 32 ∷ 59 ∷ 32 ∷ bs) (names_joined next names)
    ∙ sym (ap (λ (bs : List ℕ). (name ++ 32 ∷ []) ++ 59 ∷ bs) (join_cons 59 32 (name_piece next names) (pieces_behind names)) ∙ append_assoc name (32 ∷ []) (59 ∷ 32 ∷ join_with_byte 59 (name_piece next names ∷ pieces_behind names)))

name_lacks : (p : ℕ → Bool) (bs : List ℕ) → ((cs : List ℕ) → is_name cs ≡ true → Lacks p cs) → is_name_or_empty bs ≡ true → Lacks p bs
name_lacks p [] f h = refl
name_lacks p (b ∷ bs) f h = f (b ∷ bs) h

alias_piece : (bs : List ℕ) → IsAliasName bs → Piece bs
alias_piece bs a = record { no_semicolon = name_lacks is_semicolon bs name_no_semicolon a.name; no_hash = a.no_hash; no_feed = name_lacks is_lf bs name_no_feed a.name }

piece_of_name : (name : List ℕ) (names : List (List ℕ)) → IsAliasName name → Piece (name_piece name names)
piece_of_name name [] a = alias_piece name a
piece_of_name name (next ∷ names) a = piece_both name (32 ∷ []) (alias_piece name a) (spaced [] none)

all_behind : (names : List (List ℕ)) → All IsAliasName names → All Piece (pieces_behind names)
all_behind [] h = All-nil Piece
all_behind (name ∷ names) h = All-cons Piece (32 ∷ name_piece name names) (pieces_behind names) (spaced (name_piece name names) (piece_of_name name names (All-head IsAliasName name names h))) (all_behind names (All-tail IsAliasName name names h))

name_trims : (name : List ℕ) (names : List (List ℕ)) → IsAliasName name → trim (name_piece name names) ≡ name
name_trims name [] a = a.trimmed
name_trims name (next ∷ names) a = space_behind name ∙ a.trimmed

behind_trims : (names : List (List ℕ)) → All IsAliasName names → map trim (pieces_behind names) ≡ names
behind_trims [] h = refl
behind_trims (name ∷ names) h = rw (space_before (name_piece name names), name_trims name names (All-head IsAliasName name names h), behind_trims names (All-tail IsAliasName name names h)) refl

pub all_names : (names : List (List ℕ)) → All IsAliasName names → list_all is_name_or_empty names ≡ true
all_names [] h = refl
all_names (name ∷ names) h = let a = All-head IsAliasName name names h in and_from _ _ a.name (all_names names (All-tail IsAliasName name names h))

pub record AliasLine (least : ℕ) (row : AliasRow) : Type 0 where
  pub no_feed : holds_line_feed (alias_text row) ≡ false
  pub reads : ReadsAlias least (cut_fields (alias_text row)) row

pub alias_line : (names : List (List ℕ)) → 0 < length names → All IsAliasName names → IsLine (names_text names) names
alias_line [] some h = absurd (omega arith)
alias_line (name ∷ names) some h =
    let a = All-head IsAliasName name names h in
    let rest = All-tail IsAliasName name names h in
    line_is (names_text (name ∷ names)) (name_piece name names) (pieces_behind names) (name ∷ names) (names_joined name names) (All-cons Piece (name_piece name names) (pieces_behind names) (piece_of_name name names a) (all_behind names rest)) (rw (name_trims name names a, behind_trims names rest) refl)

pub alias_reads : (least : ℕ) (row : AliasRow) → 0 < least → AliasOk least row → AliasLine least row
alias_reads least row positive ok =
    let line = alias_line row.names (omega (arith, ok.count)) ok.each in
    record { no_feed = line.no_feed; reads = subst (λ (fs : List (List ℕ)). ReadsAlias least fs row) (sym line.cut) (record { count = ok.count; first = ok.first; others = all_names row.names ok.each; names = refl }) }
