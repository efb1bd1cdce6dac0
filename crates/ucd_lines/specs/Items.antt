-- The lines that the code hands out, as the definitions name them. UAX #44, section 4.2.
-- ending_of e   what ends the line: nothing, LF, or CR LF
-- item_of i     the line of an item: its content and what ends it
use Rattle.ucd_points.specs.Lines.{LineItem, LineEnding, unended, lf, cr_lf}
use Rattle.ucd_lines.specs.declared.item.Ending.{Ending}
use Rattle.ucd_lines.specs.declared.item.Ending.TheVariants.{None, Lf, CrLf}
use Rattle.ucd_lines.specs.declared.item.Item.{Item}

abbrev pub ending_of : Ending → LineEnding
ending_of None = unended
ending_of Lf = lf
ending_of CrLf = cr_lf

abbrev pub item_of : Item → LineItem
item_of item = record { content = item.content.now; ending = ending_of item.ending }
