-- A file that loads ascends; and pieces whose items are kept and ascend have no fault.
use Rattle.std.proofs.Common.{◌≡◌, ℕ, ◌≤◌, Bool, true, false, List, [], ◌∷◌, ◌++◌, map, Option, Some, None, Result, Ok, Err, refl, sym, ap, subst, ◌∙◌, append_assoc, arith, nat_lt, All, append-nil, le-ltb}
use Rattle.std.proofs.lemmas.Bool.Decides.{nat_tests}
use Rattle.std.proofs.lemmas.List.Elements.{All-nil, All-cons, All-head, All-tail}
use Rattle.ucd_points.specs.declared.files.SourceFile.TheVariants.{UnicodeData, PropList, Scripts, WordBreakProperty, CompositionExclusions, CaseFolding, SpecialCasing, PropertyAliases, PropertyValueAliases}
use Rattle.source_rows.specs.declared.fault.RowFault.{RowFault}
use Rattle.release_rows.specs.Cuts.{begins_from, Rises, Ascends}
use Rattle.release_rows.specs.FileItems.{FileItem, rows_in, onto_rows, SourceFile, Row}
use Rattle.release_rows.specs.Keys.{falls_back, is_below, key_rule, last_start}
use Rattle.release_rows.specs.Loading.{content_row, file_item, first_fault, load_rule, piece_fault, row_rule}
use Rattle.release_rows.specs.Pieces.{Lines, piece_content}
use Rattle.release_rows.specs.Releases.{AreKeptBelow, IsKept}
use Rattle.release_rows.specs.declared.conflict.Conflict.{Conflict}
use Rattle.release_rows.specs.declared.load_stop.LoadRule.TheVariants.{K5}
use Rattle.release_rows.proofs.Kept.{later_by, no_rule_by}
use Rattle.release_rows.proofs.Operations.{rows-append}
use Rattle.release_rows.proofs.Order.{start, with_one}

-- ---- one more row behind the others

last_of : (P : Row → Type 0) (xs : List Row) (y : Row) → All P (xs ++ y ∷ []) → P y
last_of P [] y h = All-head P y [] h
last_of P (x ∷ xs) y h = last_of P xs y (All-tail P x (xs ++ y ∷ []) h)

at_least : (a c : ℕ) → nat_lt c a ≡ false → a ≤ c
at_least a c h = grind (arith, nat_tests)

one_behind : (rows : List Row) (row : Row) → Rises rows → is_below (start row) (last_start rows) ≡ false → Rises (rows ++ row ∷ [])
one_behind [] row h k = (All-nil (begins_from (start row)), tt)
one_behind (a ∷ []) row h k = (All-cons (begins_from (start a)) row [] (at_least (start a) (start row) k) (All-nil (begins_from (start a))), (All-nil (begins_from (start row)), tt))
one_behind (a ∷ b ∷ rows) row h k =
    let rest = one_behind (b ∷ rows) row h.1 k in
    let P = begins_from (start a) in
    let near : start a ≤ start b = All-head P b rows h.0 in
    let far : start b ≤ start row = last_of (begins_from (start b)) rows row rest.0 in
    (with_one P (b ∷ rows) row [] (subst (All P) (sym (append-nil (b ∷ rows))) h.0) (omega (arith, near, far)), rest)

not_back : (o : Option Conflict) (back : Bool) (file : SourceFile) (row : Row) (above : List Row) → key_rule file above row ≡ o → falls_back file above row ≡ back → row_rule file above row ≡ None → back ≡ false
not_back (Some rule) back file row above h k e = absurd (let x : Some (load_rule rule) ≡ None = (rw h at e) in cc)
not_back None true file row above h k e = absurd (let x : Some K5 ≡ None = (rw (h, k) at e) in cc)
not_back None false file row above h k e = refl

one_piece : (above : List FileItem) (p : Lines) (r : Result (Option Row) RowFault) → content_row UnicodeData (piece_content p) ≡ r → piece_fault UnicodeData above p ≡ None → Rises (rows_in above) → Rises (rows_in (above ++ file_item UnicodeData p ∷ []))
one_piece above p (Err fault) h free rise = absurd (let e = (rw h at free) in cc)
one_piece above p (Ok None) h free rise = rw (rows-append above (file_item UnicodeData p ∷ []), h, append-nil (rows_in above)) rise
one_piece above p (Ok (Some row)) h free rise =
    let none = no_rule_by UnicodeData above p row (row_rule UnicodeData (rows_in above) row) h refl free in
    rw (rows-append above (file_item UnicodeData p ∷ []), h) (one_behind (rows_in above) row rise (not_back (key_rule UnicodeData (rows_in above) row) (falls_back UnicodeData (rows_in above) row) UnicodeData row (rows_in above) refl refl none))

all_pieces : (above : List FileItem) (ps : List Lines) → first_fault UnicodeData above ps ≡ None → Rises (rows_in above) → Rises (rows_in (above ++ map (file_item UnicodeData) ps))
all_pieces above [] h rise = rw (append-nil above) rise
all_pieces above (p ∷ ps) h rise =
    let parts = later_by UnicodeData above p ps (piece_fault UnicodeData above p) refl h in
    rw (← append_assoc above (file_item UnicodeData p ∷ []) (map (file_item UnicodeData) ps)) (all_pieces (above ++ file_item UnicodeData p ∷ []) ps parts.1 (one_piece above p (content_row UnicodeData (piece_content p)) refl parts.0 rise))

pub pieces_ascend : (file : SourceFile) (ps : List Lines) → first_fault file [] ps ≡ None → Ascends file (rows_in (map (file_item file) ps))
pieces_ascend UnicodeData ps h = all_pieces [] ps h tt
pieces_ascend PropList ps h = tt
pieces_ascend Scripts ps h = tt
pieces_ascend WordBreakProperty ps h = tt
pieces_ascend CompositionExclusions ps h = tt
pieces_ascend CaseFolding ps h = tt
pieces_ascend SpecialCasing ps h = tt
pieces_ascend PropertyAliases ps h = tt
pieces_ascend PropertyValueAliases ps h = tt

-- ---- pieces without a fault

not_below : (xs : List Row) (row : Row) (ys : List Row) → Rises (xs ++ row ∷ ys) → is_below (start row) (last_start xs) ≡ false
not_below [] row ys h = refl
not_below (a ∷ []) row ys h = le-ltb (start row) (start a) (All-head (begins_from (start a)) row ys h.0)
not_below (a ∷ b ∷ xs) row ys h = not_below (b ∷ xs) row ys h.1

no_back : (file : SourceFile) (xs : List Row) (row : Row) (ys : List Row) → Ascends file (xs ++ row ∷ ys) → falls_back file xs row ≡ false
no_back UnicodeData xs row ys h = not_below xs row ys h
no_back PropList xs row ys h = refl
no_back Scripts xs row ys h = refl
no_back WordBreakProperty xs row ys h = refl
no_back CompositionExclusions xs row ys h = refl
no_back CaseFolding xs row ys h = refl
no_back SpecialCasing xs row ys h = refl
no_back PropertyAliases xs row ys h = refl
no_back PropertyValueAliases xs row ys h = refl

no_piece_fault : (file : SourceFile) (above : List FileItem) (p : Lines) (rest : List Row) (o : Option Row) → (file_item file p).row ≡ o → IsKept file above (file_item file p) → Ascends file (rows_in above ++ onto_rows o rest) → piece_fault file above p ≡ None
no_piece_fault file above p rest None e kept rise = rw (kept.is_read ∙ ap (λ (o : Option Row). Ok o) e) refl
no_piece_fault file above p rest (Some row) e kept rise =
    let free : key_rule file (rows_in above) row ≡ None = (rw e at kept.stands) in
    rw (kept.is_read ∙ ap (λ (o : Option Row). Ok o) e, free, no_back file (rows_in above) row rest rise) refl

pub no_faults : (file : SourceFile) (above : List FileItem) (ps : List Lines) → AreKeptBelow file above (map (file_item file) ps) → Ascends file (rows_in (above ++ map (file_item file) ps)) → first_fault file above ps ≡ None
no_faults file above [] kept rise = refl
no_faults file above (p ∷ ps) kept rise =
    let items = map (file_item file) ps in
    let here = no_piece_fault file above p (rows_in items) (file_item file p).row refl kept.0 (subst (Ascends file) (rows-append above (file_item file p ∷ items)) rise) in
    rw here (no_faults file (above ++ file_item file p ∷ []) ps kept.1 (rw (append_assoc above (file_item file p ∷ []) items) rise))
