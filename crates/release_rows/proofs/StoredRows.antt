-- The row whose bytes are put at the end of a text stands there.
use Rattle.std.proofs.Common.{◌≡◌, ℕ, ◌+◌, Bool, true, false, cond, ◌||◌, List, [], ◌∷◌, ◌++◌, length, Ok, refl, inl, inr, arith, count_by}
use Rattle.std.proofs.Math.Seq.{drop-append_seam, take-length}
use Rattle.std.proofs.lemmas.Bool.{or_parts}
use Rattle.std.proofs.lemmas.List.Sums.{sum_by-cons}
use Rattle.ucd_facts.specs.Grammar.{Reads}
use Rattle.ucd_points.specs.Lines.{holds_line_feed, is_lf}
use Rattle.ucd_points.specs.declared.files.SourceFile.TheVariants.{UnicodeData, PropList, Scripts, WordBreakProperty, CompositionExclusions, CaseFolding, SpecialCasing, PropertyAliases, PropertyValueAliases}
use Rattle.ucd_facts.specs.declared.row.Row.TheVariants.{Unit as DataLine}
use Rattle.ucd_lines.specs.Items.{ending_of}
use Rattle.source_rows.specs.Faults.{row_or_fault, SourceFile, Row}
use Rattle.source_rows.specs.Laws.{RowsAreRead}
use Rattle.source_rows.specs.Trivia.{RowsAreNoTrivia}
use Rattle.release_rows.specs.Operations.{item_of_row}
use Rattle.release_rows.specs.StoredItems.{content_at, item_at}
use Rattle.release_rows.specs.declared.stored_item.StoredItem.{StoredItem}
use Rattle.release_rows.proofs.Operations.{row_is_read}

-- ---- how many lines there are

count_cons : (b : ℕ) (bs : List ℕ) → count_by is_lf (b ∷ bs) ≡ cond (is_lf b) 1 0 + count_by is_lf bs
count_cons b bs = sum_by-cons (λ x. cond (is_lf x) 1 0) b bs

pub no_feeds : (bs : List ℕ) → holds_line_feed bs ≡ false → count_by is_lf bs ≡ 0
no_feeds [] h = refl
no_feeds (b ∷ bs) h = let p = or_parts (is_lf b) (holds_line_feed bs) h in rw (count_cons b bs, p.0) (omega (arith, no_feeds bs p.1))

pub one_feed : (front last : List ℕ) → holds_line_feed front ≡ false → holds_line_feed last ≡ false → count_by is_lf (front ++ 10 ∷ last) ≡ 1
one_feed [] last h k = rw (count_cons 10 last) (omega (arith, no_feeds last k))
one_feed (b ∷ bs) last h k = let p = or_parts (is_lf b) (holds_line_feed bs) h in rw (count_cons b (bs ++ 10 ∷ last), p.0) (omega (arith, one_feed bs last p.1 k))

with_feed : (front last : List ℕ) → holds_line_feed (front ++ 10 ∷ last) ≡ true
with_feed [] last = refl
with_feed (b ∷ bs) last = rw (with_feed bs last) (either (is_lf b))
  where
    either : (a : Bool) → (a || true) ≡ true
    either true = refl
    either false = refl

range_lines : (bytes front last : List ℕ) → bytes ≡ front ++ 10 ∷ last → holds_line_feed front ≡ false → holds_line_feed last ≡ false → cond (holds_line_feed bytes) 2 1 ≡ count_by is_lf bytes + 1
range_lines bytes front last is h k = rw (is, with_feed front last, one_feed front last h k) refl

lines_are : (file : SourceFile) (bytes : List ℕ) (row : Row) → Reads file bytes row → cond (holds_line_feed bytes) 2 1 ≡ count_by is_lf bytes + 1
lines_are file bytes row (inl one) = rw (one.0, no_feeds bytes one.0) refl
lines_are UnicodeData bytes (DataLine row) (inr two) = range_lines bytes two.front two.last two.lines two.one_line two.other_line
lines_are UnicodeData bytes _ (inr two) = absurd two
lines_are PropList bytes row (inr two) = absurd two
lines_are Scripts bytes row (inr two) = absurd two
lines_are WordBreakProperty bytes row (inr two) = absurd two
lines_are CompositionExclusions bytes row (inr two) = absurd two
lines_are CaseFolding bytes row (inr two) = absurd two
lines_are SpecialCasing bytes row (inr two) = absurd two
lines_are PropertyAliases bytes row (inr two) = absurd two
lines_are PropertyValueAliases bytes row (inr two) = absurd two

-- ---- what was put there

put_there : (text bytes : List ℕ) (s : StoredItem) → s.start ≡ length text → s.len ≡ length bytes → content_at (text ++ bytes) s ≡ bytes
put_there text bytes s start len = rw (start, len, drop-append_seam text bytes) (take-length bytes)

pub item_there : (file : SourceFile) (row : Row) (text bytes : List ℕ) (s : StoredItem) → RowsAreRead → RowsAreNoTrivia → row_or_fault file bytes ≡ Ok row → s.start ≡ length text → s.len ≡ length bytes → s.lines ≡ cond (holds_line_feed bytes) 2 1 → item_at file (text ++ bytes) s ≡ item_of_row row bytes (ending_of s.ending)
item_there file row text bytes s read trivia h start len lines =
    rw (put_there text bytes s start len, row_is_read file row bytes trivia h, lines, lines_are file bytes row ((read file bytes row).0 h)) refl
