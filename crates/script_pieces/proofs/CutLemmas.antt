-- Cutting a text line by line: what stands before the first mark, and what is left behind it.
-- before text rest        what of the text stands before its rest
use Rattle.std.proofs.Common.{◌≡◌, ◌≢◌, ◌≤◌, ◌<◌, ℕ, ◌+◌, ◌-◌, Bool, true, false, List, [], ◌∷◌, ◌++◌, length, take, drop, refl, sym, ap, ◌∙◌, arith, append_assoc, length-append, length-drop, take_all, if◌then◌else◌}
use Rattle.std.proofs.Math.Seq.{take-append_seam, drop-append_seam}
use Rattle.ucd_points.specs.Lines.{LineEnding, LineItem, cr_lf, ending_bytes, item_bytes, items_of, joined, lf, unended}
use Rattle.ucd_lines.specs.Laws.{EndingsAreToldApart, IsLine, LinesAreUnique, NoLineFeedInside, OnlyTheLastIsUnended, lines_behind}
use Rattle.script_pieces.specs.Pieces.{Cut, cut, is_mark}

-- ---- the text behind a line

-- a line of a file has at least one byte
pub some_bytes : (line : LineItem) (rest : List LineItem) → IsLine line rest → 1 ≤ length (item_bytes line)
some_bytes line rest is = by line.content line.ending is.last
  where
    by : (content : List ℕ) (ending : LineEnding) → (ending ≡ unended → (rest ≡ []) × (content ≢ [])) → 1 ≤ length (content ++ ending_bytes ending)
    by [] unended last = absurd ((last refl).1 refl)
    by [] lf last = omega arith
    by [] cr_lf last = omega arith
    by (b ∷ bs) ending last = omega arith

pub line_bytes : (text : List ℕ) (item : LineItem) (rest : List LineItem) → items_of text ≡ item ∷ rest → joined (items_of text) ≡ text → text ≡ item_bytes item ++ joined rest
line_bytes text item rest is join = sym join ∙ ap joined is

pub behind_is : (text : List ℕ) (item : LineItem) (rest : List LineItem) → items_of text ≡ item ∷ rest → joined (items_of text) ≡ text → drop (length (item_bytes item)) text ≡ joined rest
behind_is text item rest is join = ap (drop (length (item_bytes item))) (line_bytes text item rest is join) ∙ drop-append_seam (item_bytes item) (joined rest)

pub lines_are : (text : List ℕ) (item : LineItem) (rest : List LineItem) → NoLineFeedInside → OnlyTheLastIsUnended → EndingsAreToldApart → LinesAreUnique
    → items_of text ≡ item ∷ rest → items_of (joined rest) ≡ rest
lines_are text item rest feeds ends told unique is = unique rest (lines_behind text (item ∷ []) rest feeds ends told is)

rest_is : (k : ℕ) (text : List ℕ) → take (length text - k) (drop k text) ≡ drop k text
rest_is k text = take_all (length text - k) (drop k text) (omega (arith, length-drop k text))

module _ (feeds : NoLineFeedInside) (ends : OnlyTheLastIsUnended) (told : EndingsAreToldApart)
    (text : List ℕ) (item : LineItem) (rest : List LineItem) (k : ℕ) (is : items_of text ≡ item ∷ rest) (join : joined (items_of text) ≡ text) (len : k ≡ length (item_bytes item)) where
  pub next_lines : LinesAreUnique → items_of text ≡ item ∷ items_of (take (length text - k) (drop k text))
  next_lines unique =
      is ∙ ap (λ (more : List LineItem). item ∷ more) (sym (ap items_of (rest_is k text ∙ ap (λ n. drop n text) len ∙ behind_is text item rest is join) ∙ lines_are text item rest feeds ends told unique is))

  pub next_shorter : length (take (length text - k) (drop k text)) < length text
  next_shorter =
      let one : 1 ≤ length (item_bytes item) = some_bytes item rest (lines_behind text [] (item ∷ rest) feeds ends told is).0 in
      omega (arith, one, len, ap length (rest_is k text), length-drop k text, ap length (line_bytes text item rest is join), length-append (item_bytes item) (joined rest))

-- ---- what stands before the first mark

abbrev pub before : List ℕ → List ℕ → List ℕ
before text rest = take (length text - length rest) text

pub before_is : (a b text : List ℕ) → text ≡ a ++ b → before text b ≡ a
before_is a b text e =
    let len : length text - length b ≡ length a = omega (arith, ap length e, length-append a b) in
    ap (λ n. take n text) len ∙ ap (take (length a)) e ∙ take-append_seam a b

pub before_more : (text rest bytes behind : List ℕ) → text ≡ before text rest ++ rest → rest ≡ bytes ++ behind → before text behind ≡ before text rest ++ bytes
before_more text rest bytes behind whole more =
    before_is (before text rest ++ bytes) behind text (whole ∙ ap (λ (it : List ℕ). before text rest ++ it) more ∙ sym (append_assoc (before text rest) bytes behind))

if_not : (t : Bool) (a b : Cut) → t ≡ false → (if t then a else b) ≡ b
if_not true a b e = absurd cc
if_not false a b e = refl

if_so : (t : Bool) (a b : Cut) → t ≡ true → (if t then a else b) ≡ a
if_so true a b e = refl
if_so false a b e = absurd cc

module _ (n : ℕ) (item : LineItem) (lines : List LineItem) where
  pub other_line : is_mark item ≡ false → cut n (item ∷ lines) ≡ record { front = item ∷ (cut (n + 1) lines).front; marked = (cut (n + 1) lines).marked }
  other_line = if_not (is_mark item) _ _

  pub mark_line : is_mark item ≡ true → cut n (item ∷ lines)
      ≡ record { front = []; marked = record { number = n; mark = item; lines = (cut (n + 1) lines).front } ∷ (cut (n + 1) lines).marked }
  mark_line = if_so (is_mark item) _ _

-- ---- the state of the loop

-- the lines before the rest are no marks: they stand in front of what is cut of the rest
pub record IsReached (text : List ℕ) (first : ℕ) (rest : List ℕ) (line : ℕ) : Type 0 where
  pub whole : text ≡ before text rest ++ rest
  pub front : joined (cut first (items_of text)).front ≡ before text rest ++ joined (cut line (items_of rest)).front
  pub marked : (cut first (items_of text)).marked ≡ (cut line (items_of rest)).marked
  pub lines : line + length rest ≤ first + length text

module _ (text : List ℕ) (first : ℕ) (rest : List ℕ) (line : ℕ) (at : IsReached text first rest line) where
  module _ (item : LineItem) (behind : List ℕ) (is : items_of rest ≡ item ∷ items_of behind) (bytes : rest ≡ item_bytes item ++ behind) (less : length behind < length rest) where
    cut_is : cut line (items_of rest) ≡ cut line (item ∷ items_of behind)
    cut_is = ap (cut line) is

    pub reached_next : is_mark item ≡ false → IsReached text first behind (line + 1)
    reached_next other =
        let more = before_more text rest (item_bytes item) behind at.whole bytes in
        let same = cut_is ∙ other_line line item (items_of behind) other in
        record {
          whole = at.whole ∙ ap (λ (it : List ℕ). before text rest ++ it) bytes ∙ sym (append_assoc (before text rest) (item_bytes item) behind) ∙ ap (λ (it : List ℕ). it ++ behind) (sym more);
          front = at.front ∙ ap (λ (it : Cut). before text rest ++ joined it.front) same
              ∙ sym (append_assoc (before text rest) (item_bytes item) (joined (cut (line + 1) (items_of behind)).front))
              ∙ ap (λ (it : List ℕ). it ++ joined (cut (line + 1) (items_of behind)).front) (sym more);
          marked = at.marked ∙ ap (λ (it : Cut). it.marked) same;
          lines = omega (arith, at.lines, less);
        }
