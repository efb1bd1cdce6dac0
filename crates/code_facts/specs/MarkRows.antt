-- The rows that put marks on code points, as they are kept.
--
-- is_flagged flag c row         the code points with a flag are of this flag, and c is one of them
-- names_flag value c span flag named   the value is the name of the flag named, that is the flag, and c is in the span
-- IsMarked mark spans sources   the spans cover just the code points on which the rows of the mark's file put it
-- AreFlagged flagged sources    of each flag they are just the code points on which rows of PropList.txt put it
-- KeepsMarkRows rows sources    what is kept is of the rows of the three files
use Rattle.std.specs.Prelude.{◌≡◌, ℕ, ◌<◌, Bool, ◌&&◌, ◌==◌, List}
use Rattle.std.specs.List.{list_any}
use Rattle.std.specs.Str.{bytes_eq}
use Rattle.ucd_facts.specs.Names.{flag_name}
use Rattle.ucd_points.specs.Bounds.{Bounds}
use Rattle.ucd_facts.specs.Facts.{Sources, within, flag_at}
use Rattle.ucd_facts.specs.Sets.{flag_place}
use Rattle.ucd_points.specs.declared.files.SourceFile.TheVariants.{PropList}
use Rattle.ucd_facts.specs.declared.property.Flag.{Flag}
use Rattle.code_facts.specs.Marks.{holds, file_of}
use Rattle.code_facts.specs.declared.mark.Mark.{Mark}
use Rattle.code_facts.specs.declared.mark.Mark.TheVariants.{Excluded, MidWord}
use Rattle.code_facts.specs.declared.mark_rows.Flagged.{Flagged}
use Rattle.code_facts.specs.declared.mark_rows.MarkRows.{MarkRows as Kept}

abbrev pub is_flagged : Flag → ℕ → Flagged → Bool
is_flagged flag c row = (flag_place row.flag == flag_place flag) && within c row.span

abbrev pub names_flag : List ℕ → ℕ → Bounds → Flag → Flag → Bool
names_flag value c span flag named = (flag_place named == flag_place flag) && (bytes_eq value (flag_name named) && within c span)

abbrev pub IsMarked : Mark → List Bounds → Sources → Type 0
IsMarked mark spans sources = (c : ℕ) → c < 1114112 → list_any (within c) spans ≡ holds mark (sources (file_of mark)) c

abbrev pub AreFlagged : List Flagged → Sources → Type 0
AreFlagged flagged sources = (flag : Flag) (c : ℕ) → list_any (is_flagged flag c) flagged ≡ flag_at (sources PropList) flag c

pub record KeepsMarkRows (rows : Kept) (sources : Sources) : Type 0 where
  pub excluded : IsMarked Excluded rows.excluded.items sources
  pub mid_word : IsMarked MidWord rows.mid_word.items sources
  pub flagged : AreFlagged rows.flagged.items sources
