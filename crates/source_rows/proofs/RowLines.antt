-- A row has one line that begins no range, or the two lines of a range.
use Rattle.std.proofs.Common.{◌≡◌, ℕ, true, false, List, [], ◌∷◌, ◌++◌, Ok, Err, refl, sym, ◌∙◌, inl, inr}
use Rattle.std.proofs.lemmas.Bool.{false_from_ne_true, false≢true, and_parts}
use Rattle.ucd_facts.specs.Grammar.{Reads}
use Rattle.ucd_points.specs.Lines.{is_lf, is_comment, holds_line_feed, without_return}
use Rattle.ucd_points.specs.MissingLines.{is_trivia}
use Rattle.ucd_points.specs.Fields.{fields, field, point_of}
use Rattle.ucd_points.specs.declared.files.SourceFile.TheVariants.{UnicodeData, PropList, Scripts, WordBreakProperty, CompositionExclusions, CaseFolding, SpecialCasing, PropertyAliases, PropertyValueAliases}
use Rattle.ucd_facts.specs.declared.row.Row.TheVariants.{Unit as DataLine}
use Rattle.source_rows.specs.Lines.{are_first_fields, is_first_line}
use Rattle.source_rows.specs.DataFaults.{first_label, pair_end, pair_or_fault, unit_or_fault, values_or_fault}
use Rattle.source_rows.specs.Faults.{row_or_fault, line_or_fault, SourceFile, Row}
use Rattle.source_rows.specs.RowLines.{TwoLines, RowsAreLinesOrRanges}
use Rattle.source_rows.specs.declared.fault.RowFault.TheVariants.{G03, G04, G09}
use Rattle.source_rows.proofs.FirstLines.{no_row_alone}
use Rattle.source_rows.proofs.Found.{passed, found, after}
use Rattle.source_rows.proofs.Grammar.{has_feed, rows_are_read}
use Rattle.source_rows.proofs.Seams.{before_seam, after_seam}
use Rattle.source_rows.proofs.Trivia.{no_code, no_pair}

-- ---- one line

one_line : (file : SourceFile) (bytes : List ℕ) (row : Row) → line_or_fault file bytes ≡ Ok row → file ≡ UnicodeData → is_first_line bytes ≡ false
one_line UnicodeData bytes row h same = false_from_ne_true (is_first_line bytes) (λ first. no_row_alone (fields UnicodeData bytes) row first h)
one_line _ bytes row h same = absurd cc

-- ---- two lines

end_fault : (label : List ℕ) (lo : ℕ) (last : List ℕ) → last ≡ [] → pair_end label lo (fields UnicodeData last) ≡ Err G09
unfolding pair_end fields
end_fault label lo last none = rw none refl

no_end : (first : List (List ℕ)) (last : List ℕ) (row : Row) → last ≡ [] → pair_or_fault first (fields UnicodeData last) ≡ Ok row → ⊥
unfolding pair_or_fault unit_or_fault
no_end first last row none h =
    let a = passed (are_first_fields first) _ G03 row h in
    let b = found G04 (point_of (field first 0)) _ row a.1 in
    let c = after (values_or_fault first) _ row b.2 in
    let d = after (pair_end (first_label first) b.0 (fields UnicodeData last)) _ row c.2 in
    let e : Err G09 ≡ Ok d.0 = sym (end_fault (first_label first) b.0 last none) ∙ d.1 in
    cc

begins : (first last : List (List ℕ)) (row : Row) → pair_or_fault first last ≡ Ok row → are_first_fields first ≡ true
unfolding pair_or_fault
begins first last row h = (passed (are_first_fields first) _ G03 row h).0

pair_given : (front last : List ℕ) → holds_line_feed front ≡ false → holds_line_feed last ≡ false → row_or_fault UnicodeData (front ++ 10 ∷ last) ≡ pair_or_fault (fields UnicodeData (without_return front)) (fields UnicodeData last)
unfolding row_or_fault
pair_given front last one other = rw (has_feed front last, before_seam is_lf front 10 last one refl, after_seam is_lf front 10 last one refl, other) refl

two_lines : (file : SourceFile) (bytes : List ℕ) (row : Row) → row_or_fault file bytes ≡ Ok row → Reads file bytes row → holds_line_feed bytes ≡ true → TwoLines file bytes
two_lines file bytes row h (inl one) feed = absurd (false≢true (sym one.0 ∙ feed))
two_lines UnicodeData bytes (DataLine row) h (inr two) feed =
    let fs = fields UnicodeData (without_return two.front) in
    let given : pair_or_fault fs (fields UnicodeData two.last) ≡ Ok (DataLine row) = sym (pair_given two.front two.last two.one_line two.other_line) ∙ (rw two.lines at h) in
    record {
      here = refl;
      front = two.front;
      last = two.last;
      lines = two.lines;
      one_line = two.one_line;
      other_line = two.other_line;
      no_trivia = false_from_ne_true (is_trivia UnicodeData (without_return two.front)) (λ t. no_pair fs (fields UnicodeData two.last) (DataLine row) (no_code (without_return two.front) (and_parts (is_comment (without_return two.front)) _ t).0) given);
      begins = begins fs (fields UnicodeData two.last) (DataLine row) given;
      some = λ none. no_end fs two.last (DataLine row) none given;
    }
two_lines UnicodeData bytes _ h (inr two) feed = absurd two
two_lines PropList bytes row h (inr two) feed = absurd two
two_lines Scripts bytes row h (inr two) feed = absurd two
two_lines WordBreakProperty bytes row h (inr two) feed = absurd two
two_lines CompositionExclusions bytes row h (inr two) feed = absurd two
two_lines CaseFolding bytes row h (inr two) feed = absurd two
two_lines SpecialCasing bytes row h (inr two) feed = absurd two
two_lines PropertyAliases bytes row h (inr two) feed = absurd two
two_lines PropertyValueAliases bytes row h (inr two) feed = absurd two

alone : (file : SourceFile) (bytes : List ℕ) → holds_line_feed bytes ≡ false → row_or_fault file bytes ≡ line_or_fault file bytes
unfolding row_or_fault
alone file bytes no_feed = rw no_feed refl

pub rows_have_lines : RowsAreLinesOrRanges
rows_have_lines file bytes row h = record {
  one = λ no_feed. one_line file bytes row (sym (alone file bytes no_feed) ∙ h);
  two = λ feed. two_lines file bytes row h ((rows_are_read file bytes row).0 h) feed;
}
