-- The items of a file are cut as its lines are, and stay so.
use Rattle.std.proofs.Common.{◌≡◌, ◌≢◌, ℕ, zero, suc, ◌+◌, Bool, true, false, cond, not, ◌&&◌, List, [], ◌∷◌, ◌++◌, map, filter, drop, None, refl, sym, ap, subst, ◌∙◌, append_assoc, one-add}
use Rattle.std.specs.List.{count_by, prefix_len}
use Rattle.std.proofs.lemmas.Bool.{and_parts, or_from}
use Rattle.std.proofs.lemmas.List.Folds.{list_any-append}
use Rattle.ucd_lines.specs.Laws.{IsLine, AreLines}
use Rattle.ucd_points.specs.Lines.{LineItem, LineEnding, unended, lf, cr_lf, ending_bytes, item_bytes, is_blank, is_lf, is_comment, unindented, holds_line_feed}
use Rattle.ucd_points.specs.MissingLines.{takes_missing, behind_hash, missing_rest, is_missing, is_trivia}
use Rattle.ucd_points.specs.declared.files.SourceFile.TheVariants.{UnicodeData}
use Rattle.source_rows.specs.Lines.{is_first_line}
use Rattle.source_rows.specs.Trivia.{RowsAreNoTrivia}
use Rattle.release_rows.specs.Cuts.{IsCut, AreCut}
use Rattle.release_rows.specs.FileItems.{FileItem, SourceFile, Row}
use Rattle.release_rows.specs.Keys.{same_key, overlaps}
use Rattle.release_rows.specs.Loading.{file_item}
use Rattle.release_rows.specs.OperationLaws.{OperationsKeepCuts}
use Rattle.release_rows.specs.Operations.{added_item, changed_item, edited, has_key, holds_row, item_of_row, overlaps_another, place_in, put_in, row_passes, with_end}
use Rattle.release_rows.specs.Pieces.{one_line, opens_range, pieces, two_lines}
use Rattle.release_rows.specs.declared.key_rule.KeyRule.TheVariants.{K1, K2, K4}
use Rattle.release_rows.specs.declared.operation.Op.TheVariants.{Add, Change, Withdraw}
use Rattle.release_rows.proofs.Operations.{AllRead, failed, is_read, items_are, passed}
use Rattle.release_rows.proofs.Seeking.{content_stored}
use Rattle.release_rows.proofs.StoredRows.{no_feeds, one_feed}

-- ---- one item

ended_cut : (item : FileItem) (rest more : List FileItem) → IsCut item rest → IsCut (with_end item) more
ended_cut item rest more h = record { lines = h.lines; trivia = h.trivia; last = λ e. absurd (never item.ending e) }
  where
    never : (e : LineEnding) → (with_end (record { content = []; ending = e; lines = 0; row = None })).ending ≡ unended → ⊥
    never unended h = cc
    never lf h = cc
    never cr_lf h = cc

-- an item that others follow has a line end
other_rest : (item next : FileItem) (rest more : List FileItem) → IsCut item (next ∷ rest) → IsCut item more
other_rest item next rest more h = record { lines = h.lines; trivia = h.trivia; last = λ e. absurd (let none : next ∷ rest ≡ [] = (h.last e).0 in cc) }

-- no bytes are no missing line, but trivia
none_missing : (file : SourceFile) → missing_rest file [] ≡ None
unfolding missing_rest
none_missing file = by (takes_missing file)
  where
    by : (takes : Bool) → cond takes (behind_hash (unindented [])) None ≡ None
    by true = refl
    by false = refl

some_bytes : (file : SourceFile) (bytes : List ℕ) → is_trivia file bytes ≡ false → bytes ≢ []
some_bytes file [] h e = absurd (let t = (rw (none_missing file) at h) in cc)
some_bytes file (b ∷ bs) h e = cc

row_cut : (row : Row) (bytes : List ℕ) (ending : LineEnding) (rest : List FileItem) → bytes ≢ [] → (ending ≡ unended → rest ≡ []) → IsCut (item_of_row row bytes ending) rest
row_cut row bytes ending rest some last = record { lines = refl; trivia = λ e. absurd cc; last = λ e. (last e, some) }

-- ---- an item that is put in

put_cut : (items : List FileItem) (n : ℕ) (row : Row) (bytes : List ℕ) → bytes ≢ [] → AreCut items → AreCut (put_in items n (added_item row bytes))
put_cut items zero row bytes some h = (row_cut row bytes lf items some (λ e. absurd cc), h)
put_cut [] (suc n) row bytes some h = (row_cut row bytes lf [] some (λ e. absurd cc), tt)
put_cut (x ∷ []) (suc zero) row bytes some h = (ended_cut x [] _ h.0, (row_cut row bytes lf [] some (λ e. absurd cc), tt))
put_cut (x ∷ []) (suc (suc n)) row bytes some h = (ended_cut x [] _ h.0, (row_cut row bytes lf [] some (λ e. absurd cc), tt))
put_cut (x ∷ y ∷ xs) (suc zero) row bytes some h = (ended_cut x (y ∷ xs) _ h.0, (row_cut row bytes lf (y ∷ xs) some (λ e. absurd cc), h.1))
put_cut (x ∷ y ∷ xs) (suc (suc n)) row bytes some h = (other_rest x y xs _ h.0, put_cut (y ∷ xs) (suc n) row bytes some h.1)

-- ---- an item in the place of another

map_none : {A : Type 0} {B : Type 0} (f : A → B) (xs : List A) → xs ≡ [] → map f xs ≡ []
map_none f xs e = ap (map f) e

changed_cut : (file : SourceFile) (row : Row) (bytes : List ℕ) (items : List FileItem) → bytes ≢ [] → AreCut items → AreCut (map (changed_item file row bytes) items)
changed_cut file row bytes [] some h = tt
changed_cut file row bytes (x ∷ xs) some h = (by (row_passes (same_key file row) x) refl, changed_cut file row bytes xs some h.1)
  where
    by : (b : Bool) → row_passes (same_key file row) x ≡ b → IsCut (changed_item file row bytes x) (map (changed_item file row bytes) xs)
    by true e = rw e (row_cut row bytes x.ending (map (changed_item file row bytes) xs) some (λ k. map_none (changed_item file row bytes) xs (h.0.last k).0))
    by false e = rw e (record { lines = h.0.lines; trivia = h.0.trivia; last = λ k. (map_none (changed_item file row bytes) xs (h.0.last k).0, (h.0.last k).1) })

-- ---- an item that is taken out

filter_cut : (p : FileItem → Bool) (items : List FileItem) → AreCut items → AreCut (filter p items)
filter_cut p [] h = tt
filter_cut p (x ∷ xs) h = by (p x) (filter_cut p xs h.1)
  where
    by : (b : Bool) → AreCut (filter p xs) → AreCut (cond b (x ∷ filter p xs) (filter p xs))
    by true k = (record { lines = h.0.lines; trivia = h.0.trivia; last = λ e. (ap (filter p) (h.0.last e).0, (h.0.last e).1) }, k)
    by false k = k

pub operations_keep_cuts : RowsAreNoTrivia → OperationsKeepCuts
unfolding edited
operations_keep_cuts law (Add file row bytes) items next op cut h =
    let a = failed (holds_row (same_key file row) items) _ K1 next h in
    let b = failed (holds_row (overlaps file row) items) _ K4 next a.1 in
    subst AreCut (items_are _ next b.1) (put_cut items (place_in file row items) row bytes (some_bytes file bytes (law file bytes row op.1)) cut)
operations_keep_cuts law (Change file row bytes) items next op cut h =
    let a = passed (holds_row (same_key file row) items) _ K2 next h in
    let b = failed (holds_row (overlaps_another file row) items) _ K4 next a.1 in
    subst AreCut (items_are _ next b.1) (changed_cut file row bytes items (some_bytes file bytes (law file bytes row op.1)) cut)
operations_keep_cuts law (Withdraw file key) items next op cut h =
    let a = passed (holds_row (has_key file key) items) _ K2 next h in
    subst AreCut (items_are _ next a.1) (filter_cut (λ item. not (row_passes (has_key file key) item)) items cut)

-- ---- the items of a file that is loaded

drop_one : (n b : ℕ) (bs : List ℕ) → drop (1 + n) (b ∷ bs) ≡ drop n bs
drop_one n b bs = rw one-add refl

-- what a comment begins with is one
comment_front : (xs ys : List ℕ) → is_comment (xs ++ ys) ≡ true → is_comment xs ≡ true
comment_front [] ys h = refl
comment_front (x ∷ xs) ys h = by (is_blank x) refl h (comment_front xs ys)
  where
    by : (b : Bool) → is_blank x ≡ b → is_comment (x ∷ (xs ++ ys)) ≡ true → (is_comment (xs ++ ys) ≡ true → is_comment xs ≡ true) → is_comment (x ∷ xs) ≡ true
    by true e k f = rw (e, drop_one (prefix_len is_blank xs) x xs) (f (rw (e, drop_one (prefix_len is_blank (xs ++ ys)) x (xs ++ ys)) at k))
    by false e k f = rw e (rw e at k)

lacks_both : (xs ys : List ℕ) → holds_line_feed xs ≡ false → holds_line_feed ys ≡ false → holds_line_feed (xs ++ ys) ≡ false
lacks_both xs ys h k = list_any-append is_lf xs ys ∙ or_from _ _ h k

-- a line that others follow has a line end, and then its bytes have one LF
one_line_feed : (a b : LineItem) (rest : List LineItem) → IsLine a (b ∷ rest) → holds_line_feed b.content ≡ false → count_by is_lf (item_bytes a ++ b.content) ≡ 1
one_line_feed a b rest h k = by a.ending refl
  where
    by : (e : LineEnding) → a.ending ≡ e → count_by is_lf (item_bytes a ++ b.content) ≡ 1
    by unended e = absurd (let none : b ∷ rest ≡ [] = (h.last e).0 in cc)
    by lf e = rw (e, append_assoc a.content (10 ∷ []) b.content) (one_feed a.content b.content h.no_line_feed k)
    by cr_lf e = rw (e, append_assoc a.content (13 ∷ 10 ∷ []) b.content, sym (append_assoc a.content (13 ∷ []) (10 ∷ b.content))) (one_feed (a.content ++ 13 ∷ []) b.content (lacks_both a.content (13 ∷ []) h.no_line_feed refl) k)

-- what opens a range is no comment
opens_no_comment : (file : SourceFile) (content : List ℕ) → opens_range file content ≡ true → is_comment content ≡ false
unfolding missing_rest
opens_no_comment UnicodeData content h = not_both (is_comment content) (and_parts (not (is_comment content && true)) (is_first_line content) h).0
  where
    not_both : (b : Bool) → not (b && true) ≡ true → b ≡ false
    not_both true h = absurd cc
    not_both false h = refl
opens_no_comment _ content h = absurd cc

some_behind : (xs ys : List ℕ) → ys ≢ [] → xs ++ ys ≢ []
some_behind [] ys h e = h e
some_behind (x ∷ xs) ys h e = absurd cc

two_cut : (file : SourceFile) (a b : LineItem) (rest : List LineItem) (items : List FileItem) → opens_range file a.content ≡ true → IsLine a (b ∷ rest) → IsLine b rest → (rest ≡ [] → items ≡ []) → is_read file (file_item file (two_lines a b)) → IsCut (file_item file (two_lines a b)) items
two_cut file a b rest items opens first last behind read =
    let item = file_item file (two_lines a b) in
    record {
      lines = rw (one_line_feed a b rest first last.no_line_feed) refl;
      trivia = λ none. absurd (let stored = content_stored file item.content item.row read in let trivia : is_trivia file item.content ≡ true = (rw none at stored) in let comment = (and_parts (is_comment item.content) (not (is_missing file item.content)) trivia).0 in let front : is_comment a.content ≡ true = comment_front a.content (ending_bytes a.ending ++ b.content) (rw (← append_assoc a.content (ending_bytes a.ending) b.content) comment) in let e : true ≡ false = sym front ∙ opens_no_comment file a.content opens in cc);
      last = λ e. (behind (last.last e).0, some_behind (item_bytes a) b.content (last.last e).1);
    }

one_cut : (file : SourceFile) (a : LineItem) (rest : List LineItem) (items : List FileItem) → IsLine a rest → (rest ≡ [] → items ≡ []) → IsCut (file_item file (one_line a)) items
one_cut file a rest items h behind = record {
  lines = rw (no_feeds a.content h.no_line_feed) refl;
  trivia = λ none. h.no_line_feed;
  last = λ e. (behind (h.last e).0, (h.last e).1);
}

none_of_none : (file : SourceFile) (lines : List LineItem) → lines ≡ [] → map (file_item file) (pieces file lines) ≡ []
none_of_none file lines e = rw e refl

pub pieces_cut : (file : SourceFile) (lines : List LineItem) → AreLines lines → AllRead file (map (file_item file) (pieces file lines)) → AreCut (map (file_item file) (pieces file lines))
pieces_cut file [] h read = tt
pieces_cut file (a ∷ []) h read = (one_cut file a [] [] h.0 (λ e. refl), tt)
pieces_cut file (a ∷ b ∷ rest) h read = by (opens_range file a.content) refl (pieces_cut file rest h.1.1) (pieces_cut file (b ∷ rest) h.1) read
  where
    by : (t : Bool) → opens_range file a.content ≡ t → (AllRead file (map (file_item file) (pieces file rest)) → AreCut (map (file_item file) (pieces file rest))) → (AllRead file (map (file_item file) (pieces file (b ∷ rest))) → AreCut (map (file_item file) (pieces file (b ∷ rest)))) → AllRead file (map (file_item file) (cond t (two_lines a b ∷ pieces file rest) (one_line a ∷ pieces file (b ∷ rest)))) → AreCut (map (file_item file) (cond t (two_lines a b ∷ pieces file rest) (one_line a ∷ pieces file (b ∷ rest))))
    by true opens two one k = (two_cut file a b rest (map (file_item file) (pieces file rest)) opens h.0 h.1.0 (none_of_none file rest) k.0, two k.1)
    by false opens two one k = (one_cut file a (b ∷ rest) (map (file_item file) (pieces file (b ∷ rest))) h.0 (none_of_none file (b ∷ rest)), one k.1)
