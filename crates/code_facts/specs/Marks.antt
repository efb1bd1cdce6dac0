-- The marks that the rows of other files than UnicodeData.txt put on code points.
--
-- covers c span           whether the span, where there is one, covers c
-- holds mark rows c       whether rows of its file put the mark on c
-- file_of mark            the file whose rows put the mark
-- word_of mark            its bit in the word: 2, 4, or for a flag 2 to the power of 24 and its place
-- all_marks               the marks, the flags among them in the order of their places
-- mark_bit rows mark c    what the mark adds to the word of c: its bit where the rows of its file put it on c, else 0
-- marks_before n rows c   what the first n marks add to it together
-- marks_at rows c         what all marks add to it together
use Rattle.std.specs.Prelude.{ℕ, ◌+◌, ◌*◌, ◌^◌, Bool, false, List, ◌∷◌, map, length, Option, Some, None, take, sum_by}
use Rattle.ucd_points.specs.Bounds.{Bounds}
use Rattle.ucd_facts.specs.Enumerations.{flags}
use Rattle.ucd_facts.specs.Sets.{flag_place}
use Rattle.ucd_facts.specs.Facts.{Sources, within, excluded_at, flag_at}
use Rattle.ucd_facts.specs.Values.{mid_word_at}
use Rattle.ucd_points.specs.declared.files.SourceFile.{SourceFile}
use Rattle.ucd_points.specs.declared.files.SourceFile.TheVariants.{PropList, WordBreakProperty, CompositionExclusions}
use Rattle.ucd_facts.specs.declared.row.Row.{Row}
use Rattle.fact_tables.specs.Word.{one_if}
use Rattle.code_facts.specs.declared.mark.Mark.{Mark}
use Rattle.code_facts.specs.declared.mark.Mark.TheVariants.{Excluded, MidWord, Flagged}

abbrev pub covers : ℕ → Option Bounds → Bool
covers c (Some span) = within c span
covers c None = false

abbrev pub holds : Mark → List Row → ℕ → Bool
holds Excluded rows c = excluded_at rows c
holds MidWord rows c = mid_word_at rows c
holds (Flagged flag) rows c = flag_at rows flag c

abbrev pub file_of : Mark → SourceFile
file_of Excluded = CompositionExclusions
file_of MidWord = WordBreakProperty
file_of (Flagged flag) = PropList

abbrev pub word_of : Mark → ℕ
word_of Excluded = 2
word_of MidWord = 4
word_of (Flagged flag) = 2 ^ (24 + flag_place flag)

abbrev pub all_marks : List Mark
all_marks = Excluded ∷ MidWord ∷ map Flagged flags

abbrev pub mark_bit : Sources → Mark → ℕ → ℕ
mark_bit rows mark c = word_of mark * one_if (holds mark (rows (file_of mark)) c)

abbrev pub marks_before : ℕ → Sources → ℕ → ℕ
marks_before n rows c = sum_by (λ mark. mark_bit rows mark c) (take n all_marks)

abbrev pub marks_at : Sources → ℕ → ℕ
marks_at rows c = marks_before (length all_marks) rows c
