-- What questions need of the rows alone stays while groups edit other files.
-- names_stay    what is kept stays, once the files that a group edits are noted
-- again_meant   what is kept is what names are made again of
use Rattle.std.proofs.Common.{List, Option, Some, None, refl, sym, ap, ◌∙◌}
use Rattle.std.proofs.lemmas.Bool.{or_parts}
use Rattle.ucd_points.specs.declared.files.SourceFile.TheVariants.{PropList, Scripts, WordBreakProperty, PropertyAliases, PropertyValueAliases}
use Rattle.property_aliases.specs.Edits.{AreKeptBut, AreSameBut}
use Rattle.property_aliases.specs.declared.edited.Edited.{Edited}
use Rattle.release_rows.specs.FileItems.{FileItem, rows_in}
use Rattle.release_rows.specs.Releases.{rows_of_items}
use Rattle.release_rows.specs.declared.operation.Op.{Op}
use Rattle.set_answers.specs.RowNames.{AreNamesBut, AreNamesKeptOf, UneditedStay, edited_by, edits, tells}
use Rattle.set_answers.specs.declared.kept_names.Part.TheVariants as part
use Rattle.set_answers.specs.declared.row_names.RowNames.{RowNames}

abbrev Files : Type 0
Files = List (List FileItem)

-- ---- what is kept

same_after : (e : Edited) (ops : List Op) (old files next : Files) → UneditedStay ops files next → AreSameBut e (rows_of_items old) (rows_of_items files)
    → AreSameBut (edited_by e ops) (rows_of_items old) (rows_of_items next)
same_after e ops old files next stay same = record {
  listed = λ off. let parts = or_parts e.listed (edits part.Listed ops) off in same.listed parts.0 ∙ ap rows_in (sym (stay (tells part.Listed) parts.1 PropList refl));
  scripts = λ off. let parts = or_parts e.scripts (edits part.Scripts ops) off in same.scripts parts.0 ∙ ap rows_in (sym (stay (tells part.Scripts) parts.1 Scripts refl));
  breaks = λ off. let parts = or_parts e.breaks (edits part.Breaks ops) off in same.breaks parts.0 ∙ ap rows_in (sym (stay (tells part.Breaks) parts.1 WordBreakProperty refl));
  properties = λ off. let parts = or_parts e.aliases (edits part.Aliases ops) off in same.properties parts.0 ∙ ap rows_in (sym (stay (tells part.Aliases) parts.1 PropertyAliases refl));
  values = λ off. let parts = or_parts e.aliases (edits part.Aliases ops) off in same.values parts.0 ∙ ap rows_in (sym (stay (tells part.Aliases) parts.1 PropertyValueAliases refl));
}

pub names_stay : (names : Option RowNames) (e : Edited) (ops : List Op) (files next : Files) → UneditedStay ops files next → AreNamesKeptOf names e files → AreNamesKeptOf names (edited_by e ops) next
names_stay None e ops files next stay kept = tt
names_stay (Some names) e ops files next stay kept = record { old = kept.old; are = kept.are; same = same_after e ops kept.old files next stay kept.same }

-- ---- made again

pub again_meant : (names : RowNames) (e : Edited) (files : Files) → AreNamesBut names e files → AreKeptBut names.aliases e (rows_of_items files)
again_meant names e files but = record { old = rows_of_items but.old; meant = but.are.meant; numbers = but.are.numbers; same = but.same }
