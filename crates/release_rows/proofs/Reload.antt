-- The items of a file are those that its bytes are cut into again.
use Rattle.std.proofs.Common.{◌≡◌, ◌≢◌, ℕ, suc, ◌+◌, ◌-◌, Bool, true, false, List, [], ◌∷◌, ◌++◌, length, map, take, get_or, Option, Some, None, Ok, refl, sym, ap, subst, ◌∙◌, append_assoc, arith, nat_eq, All, slice_get}
use Rattle.std.specs.Option.{option_eq}
use Rattle.std.proofs.lemmas.Bool.{eqb-true, false≢true, or_parts, le-ltb}
use Rattle.std.proofs.lemmas.List.{take_all, take_more}
use Rattle.std.proofs.lemmas.List.Elements.{All-head, All-tail}
use Rattle.std.proofs.lemmas.List.Folds.{list_any-append}
use Rattle.std.proofs.lemmas.Option.{get_or_from_slice_get, slice_get_within}
use Rattle.ucd_lines.specs.Laws.{IsLine, AreLines, LinesAreUnique}
use Rattle.ucd_points.specs.Limits.{file_limit}
use Rattle.ucd_points.specs.Lines.{LineItem, lf, ended_item, ends_in_return, item_bytes, items_of, is_lf, holds_line_feed, joined}
use Rattle.ucd_points.specs.MissingLines.{is_trivia}
use Rattle.ucd_points.specs.declared.files.SourceFile.TheVariants.{UnicodeData}
use Rattle.source_rows.specs.Lines.{is_first_line}
use Rattle.source_rows.specs.RowLines.{TwoLines, RowsAreLinesOrRanges}
use Rattle.release_rows.specs.Cuts.{AreCut, Ascends, IsCut, IsToldApart}
use Rattle.release_rows.specs.FileItems.{FileItem, bytes_of, rows_in, SourceFile, Row}
use Rattle.release_rows.specs.Laws.{ReloadsTheSame}
use Rattle.release_rows.specs.Loading.{file_item, file_or_fault, first_fault}
use Rattle.release_rows.specs.Pieces.{one_line, opens_range, pieces, two_lines}
use Rattle.release_rows.specs.Releases.{AreKept}
use Rattle.release_rows.proofs.Kept.{pieces_join}
use Rattle.release_rows.proofs.Loads.{no_faults}
use Rattle.release_rows.proofs.Operations.{AllRead, all_read, is_read}
use Rattle.release_rows.proofs.Seeking.{StoredAs, content_stored}
use Rattle.release_rows.proofs.StoredRows.{no_feeds, one_feed}

-- ---- lines that are cut into the items

pub record Recut (file : SourceFile) (items : List FileItem) : Type 0 where
  pub lines : List LineItem
  pub are_lines : AreLines lines
  pub cut : map (file_item file) (pieces file lines) ≡ items
  pub none : items ≡ [] → lines ≡ []

-- ---- one line

-- a line that is read begins no range
closed_by : (content : List ℕ) (o : Option Row) → RowsAreLinesOrRanges → holds_line_feed content ≡ false → StoredAs UnicodeData content o → opens_range UnicodeData content ≡ false
closed_by content None law no_feed read = rw read refl
closed_by content (Some row) law no_feed read = rw (read.0, (law UnicodeData content row read.1).one no_feed refl) refl

closed : (file : SourceFile) (content : List ℕ) (o : Option Row) → RowsAreLinesOrRanges → holds_line_feed content ≡ false → StoredAs file content o → opens_range file content ≡ false
closed UnicodeData content o law no_feed read = closed_by content o law no_feed read
closed _ content o law no_feed read = refl

one_first : (file : SourceFile) (a : LineItem) (rest : List LineItem) → opens_range file a.content ≡ false → pieces file (a ∷ rest) ≡ one_line a ∷ pieces file rest
one_first file a [] h = refl
one_first file a (b ∷ rest) h = rw h refl

one_item : (file : SourceFile) (item : FileItem) → is_read file item → item.lines ≡ 1 → file_item file (one_line (record { content = item.content; ending = item.ending })) ≡ item
one_item file item read lines = rw (read, ← lines) refl

one_recut : (file : SourceFile) (item : FileItem) (rest : List FileItem) → RowsAreLinesOrRanges → is_read file item → IsCut item rest → IsToldApart item → holds_line_feed item.content ≡ false → Recut file rest → Recut file (item ∷ rest)
one_recut file item rest law read cut told no_feed more =
    let a : LineItem = record { content = item.content; ending = item.ending } in
    let alone = closed file item.content item.row law no_feed (content_stored file item.content item.row read) in
    record {
      lines = a ∷ more.lines;
      are_lines = (record { no_line_feed = no_feed; last = λ e. (more.none (cut.last e).0, (cut.last e).1); no_return = told }, more.are_lines);
      cut = ap (map (file_item file)) (one_first file a more.lines alone) ∙ rw (one_item file item read (rw (cut.lines, no_feeds item.content no_feed) refl), more.cut) refl;
      none = λ e. absurd cc;
    }

-- ---- two lines

-- what is before a LF, as a line with its end
abbrev Return : List ℕ → Type 0
Return front = take (length front - 1) front ++ 13 ∷ [] ≡ front

is_return : (o : Option ℕ) → option_eq nat_eq o (Some 13) ≡ true → o ≡ Some 13
is_return None h = absurd cc
is_return (Some b) h = ap Some (eqb-true b 13 h)

returned : (front : List ℕ) → ends_in_return front ≡ true → Return front
returned front h =
    let some = is_return (slice_get front (length front - 1)) h in
    let within = slice_get_within front (length front - 1) 13 some in
    let more = take_more front (length front - 1) 0 within in
    let is : get_or front (length front - 1) 0 ≡ 13 = get_or_from_slice_get front (length front - 1) 13 0 some in
    sym (rw (is, take_all (length front - 1 + 1) front (omega arith)) at more)

-- the line of what stands before a LF
record Ended (front : List ℕ) : Type 0 where
  bytes : item_bytes (ended_item front) ≡ front ++ 10 ∷ []
  line : (rest : List LineItem) → IsLine (ended_item front) rest

ended_by : (front : List ℕ) (cr : Bool) → ends_in_return front ≡ cr → holds_line_feed front ≡ false → Ended front
ended_by front true e lacks =
    let whole = returned front e in
    let pre = take (length front - 1) front in
    let pre_lacks : holds_line_feed pre ≡ false = (or_parts (holds_line_feed pre) (holds_line_feed (13 ∷ [])) (sym (list_any-append is_lf pre (13 ∷ [])) ∙ ap holds_line_feed whole ∙ lacks)).0 in
    record {
      bytes = rw e (sym (append_assoc pre (13 ∷ []) (10 ∷ [])) ∙ ap (λ (bs : List ℕ). bs ++ 10 ∷ []) whole);
      line = λ rest. record { no_line_feed = rw e pre_lacks; last = λ k. absurd (let x = (rw e at k) in cc); no_return = λ k. absurd (let x = (rw e at k) in cc) };
    }
ended_by front false e lacks = record {
  bytes = rw e refl;
  line = λ rest. record { no_line_feed = rw e lacks; last = λ k. absurd (let x = (rw e at k) in cc); no_return = λ k. rw (e, e) refl };
}

ends_cons : (x y : ℕ) (ys : List ℕ) → ends_in_return (x ∷ y ∷ ys) ≡ ends_in_return (y ∷ ys)
ends_cons x y ys =
    let long : length (x ∷ y ∷ ys) - 1 ≡ suc (length ys) = omega arith in
    let short : length (y ∷ ys) - 1 ≡ length ys = omega arith in
    rw (long, short) refl

pub ends_behind : (xs ys : List ℕ) → ys ≢ [] → ends_in_return (xs ++ ys) ≡ ends_in_return ys
ends_behind [] ys some = refl
ends_behind (x ∷ []) [] some = absurd (some refl)
ends_behind (x ∷ []) (y ∷ ys) some = ends_cons x y ys
ends_behind (x ∷ z ∷ xs) ys some = ends_cons x z (xs ++ ys) ∙ ends_behind (z ∷ xs) ys some

opens_by : (file : SourceFile) (content : List ℕ) → file ≡ UnicodeData → is_trivia file content ≡ false → is_first_line content ≡ true → opens_range file content ≡ true
opens_by file content same no_trivia begins = let here : is_trivia UnicodeData content ≡ false = (rw same at no_trivia) in rw (same, here, begins) refl

two_item : (file : SourceFile) (item : FileItem) (a b : LineItem) → is_read file item → item.lines ≡ 2 → item_bytes a ++ b.content ≡ item.content → b.ending ≡ item.ending → file_item file (two_lines a b) ≡ item
two_item file item a b read lines content ending = rw (content, ending, read, ← lines) refl

two_recut : (file : SourceFile) (item : FileItem) (rest : List FileItem) → is_read file item → IsCut item rest → IsToldApart item → TwoLines file item.content → Recut file rest → Recut file (item ∷ rest)
two_recut file item rest read cut told two more =
    let a = ended_item two.front in
    let b : LineItem = record { content = two.last; ending = item.ending } in
    let first = ended_by two.front (ends_in_return two.front) refl two.one_line in
    let opens = opens_by file a.content two.here two.no_trivia two.begins in
    let content : item_bytes a ++ two.last ≡ item.content = ap (λ (bs : List ℕ). bs ++ two.last) first.bytes ∙ append_assoc two.front (10 ∷ []) two.last ∙ sym two.lines in
    let counted : item.lines ≡ 2 = cut.lines ∙ rw (two.lines, one_feed two.front two.last two.one_line two.other_line) refl in
    let told_last : item.ending ≡ lf → ends_in_return two.last ≡ false = λ k. sym (ends_behind (two.front ++ 10 ∷ []) two.last two.some) ∙ ap ends_in_return (append_assoc two.front (10 ∷ []) two.last ∙ sym two.lines) ∙ told k in
    record {
      lines = a ∷ b ∷ more.lines;
      are_lines = (first.line (b ∷ more.lines), (record { no_line_feed = two.other_line; last = λ k. (more.none (cut.last k).0, two.some); no_return = told_last }, more.are_lines));
      cut = rw (opens, two_item file item a b read counted content refl, more.cut) refl;
      none = λ e. absurd cc;
    }

-- ---- an item, and all of them

item_recut : (file : SourceFile) (item : FileItem) (rest : List FileItem) (feed : Bool) (o : Option Row) → item.row ≡ o → holds_line_feed item.content ≡ feed → RowsAreLinesOrRanges → is_read file item → IsCut item rest → IsToldApart item → StoredAs file item.content o → Recut file rest → Recut file (item ∷ rest)
item_recut file item rest false o e no_feed law read cut told stored more = one_recut file item rest law read cut told no_feed more
item_recut file item rest true None e feed law read cut told stored more = absurd (false≢true (sym (cut.trivia e) ∙ feed))
item_recut file item rest true (Some row) e feed law read cut told stored more = two_recut file item rest read cut told ((law file item.content row stored.1).two feed) more

pub recut : (file : SourceFile) (items : List FileItem) → RowsAreLinesOrRanges → AllRead file items → AreCut items → All IsToldApart items → Recut file items
recut file [] law read cut told = record { lines = []; are_lines = tt; cut = refl; none = λ e. refl }
recut file (item ∷ rest) law read cut told =
    item_recut file item rest (holds_line_feed item.content) item.row refl refl law read.0 cut.0 (All-head IsToldApart item rest told) (content_stored file item.content item.row read.0) (recut file rest law read.1 cut.1 (All-tail IsToldApart item rest told))

-- ---- a file

same_file : (file : SourceFile) (items : List FileItem) → LinesAreUnique → RowsAreLinesOrRanges → AreKept file items → Ascends file (rows_in items) → AreCut items → All IsToldApart items → file_or_fault file (bytes_of items) ≡ Ok items
unfolding file_or_fault
same_file file items unique law kept rise cut told =
    let again = recut file items law (all_read file [] items kept) cut told in
    let ps = pieces file again.lines in
    let bytes : bytes_of items ≡ joined again.lines = ap bytes_of (sym again.cut) ∙ pieces_join file again.lines in
    let lines : items_of (bytes_of items) ≡ again.lines = ap items_of bytes ∙ unique again.lines again.are_lines in
    let none : first_fault file [] ps ≡ None = no_faults file [] ps (subst (AreKept file) (sym again.cut) kept) (subst (λ (is : List FileItem). Ascends file (rows_in is)) (sym again.cut) rise) in
    rw (lines, none) (ap (λ (is : List FileItem). Ok is) again.cut)

pub reloads_the_same : LinesAreUnique → RowsAreLinesOrRanges → ReloadsTheSame
reloads_the_same unique law file items sound told small = rw (le-ltb file_limit (length (bytes_of items)) small) (same_file file items unique law sound.kept sound.ascends sound.cut told)
