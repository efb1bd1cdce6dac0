-- What questions need of the rows alone, and when it stays.
-- AreRowNames names files     the names mean what the rows of these files say, and the sets have the code points that they give
-- AreNamesBut names edited files   the names and the sets are those of files of which only the edited ones have other rows than these
-- AreNamesKept kept files           what is kept is that of the edited files, if anything is
-- HasNames kept files         names and sets are kept, and they are those of these files
-- tells part file             this part of what is kept is told by the rows of this file
-- edits part ops              an operation is on such a file
-- edited_by edited ops        the files that were edited, and those that the operations edit
-- SameTold p old next         each file that p names has the same items
-- UneditedStay ops old next   so it is of each p that names no file that an operation is on
use Rattle.std.specs.Prelude.{◌≡◌, Bool, true, false, ◌||◌, List, Option, Some, None, ⊤}
use Rattle.std.specs.List.{list_any}
use Rattle.ucd_points.specs.declared.files.SourceFile.TheVariants.{PropList, Scripts, WordBreakProperty, PropertyAliases, PropertyValueAliases}
use Rattle.property_aliases.specs.Edits.{AreSameBut}
use Rattle.property_aliases.specs.Found.{AreAliasesOf}
use Rattle.property_aliases.specs.Numbers.{AreNumbersOf}
use Rattle.property_aliases.specs.declared.edited.Edited.{Edited}
use Rattle.release_rows.specs.Operations.{op_file}
use Rattle.release_rows.specs.declared.operation.Op.{Op}
use Rattle.unicodeset_eval.specs.Found.{AreRowSets}
use Rattle.release_rows.specs.Releases.{items_at, rows_of_items, FileItem, SourceFile}
use Rattle.set_answers.specs.Questions.{files_sources}
use Rattle.set_answers.specs.declared.kept_names.KeptNames.{KeptNames}
use Rattle.set_answers.specs.declared.kept_names.Part.{Part}
use Rattle.set_answers.specs.declared.kept_names.Part.TheVariants as part
use Rattle.set_answers.specs.declared.row_names.RowNames.{RowNames}

pub record AreRowNames (names : RowNames) (files : List (List FileItem)) : Type 0 where
  pub meant : AreAliasesOf names.aliases (files_sources files)
  pub numbers : AreNumbersOf names.aliases.numbers (rows_of_items files)
  pub sets : AreRowSets names.sets (rows_of_items files)

pub record AreNamesBut (names : RowNames) (edited : Edited) (files : List (List FileItem)) : Type 0 where
  pub old : List (List FileItem)
  pub are : AreRowNames names old
  pub same : AreSameBut edited (rows_of_items old) (rows_of_items files)

abbrev pub AreNamesKeptOf : Option RowNames → Edited → List (List FileItem) → Type 0
AreNamesKeptOf None edited files = ⊤
AreNamesKeptOf (Some names) edited files = AreNamesBut names edited files

abbrev pub AreNamesKept : KeptNames → List (List FileItem) → Type 0
AreNamesKept kept files = AreNamesKeptOf kept.names kept.edited files

abbrev pub HasNamesOf : Option RowNames → List (List FileItem) → Type 0
HasNamesOf None files = ⊥
HasNamesOf (Some names) files = AreRowNames names files

abbrev pub HasNames : KeptNames → List (List FileItem) → Type 0
HasNames kept files = HasNamesOf kept.names files

abbrev pub tells : Part → SourceFile → Bool
tells part.Listed PropList = true
tells part.Scripts Scripts = true
tells part.Breaks WordBreakProperty = true
tells part.Aliases PropertyAliases = true
tells part.Aliases PropertyValueAliases = true
tells _ _ = false

abbrev pub edits : Part → List Op → Bool
edits part ops = list_any (λ op. tells part (op_file op)) ops

abbrev pub edited_by : Edited → List Op → Edited
edited_by edited ops = record {
  listed = edited.listed || edits part.Listed ops;
  scripts = edited.scripts || edits part.Scripts ops;
  breaks = edited.breaks || edits part.Breaks ops;
  aliases = edited.aliases || edits part.Aliases ops;
}

abbrev pub SameTold : (SourceFile → Bool) → List (List FileItem) → List (List FileItem) → Type 0
SameTold p old next = (file : SourceFile) → p file ≡ true → items_at next file ≡ items_at old file

abbrev pub UneditedStay : List Op → List (List FileItem) → List (List FileItem) → Type 0
UneditedStay ops old next = (p : SourceFile → Bool) → list_any (λ op. p (op_file op)) ops ≡ false → SameTold p old next
