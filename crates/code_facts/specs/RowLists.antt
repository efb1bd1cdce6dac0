-- The rows of a release, listed file by file.
--
-- sources_of lists        the listed rows of each file; of the files that give no facts, none
-- AreRowsOf lists rows    the lists are the rows of their files
use Rattle.std.specs.Prelude.{◌≡◌, []}
use Rattle.ucd_facts.specs.Facts.{Sources}
use Rattle.ucd_points.specs.declared.files.SourceFile.TheVariants.{UnicodeData, CaseFolding, SpecialCasing, PropList, WordBreakProperty, CompositionExclusions}
use Rattle.code_facts.specs.declared.row_lists.RowLists.{RowLists}

abbrev pub sources_of : RowLists → Sources
sources_of lists UnicodeData = lists.unicode_data.items
sources_of lists CaseFolding = lists.case_folding.items
sources_of lists SpecialCasing = lists.special_casing.items
sources_of lists PropList = lists.prop_list.items
sources_of lists WordBreakProperty = lists.word_break.items
sources_of lists CompositionExclusions = lists.exclusions.items
sources_of lists _ = []

pub record AreRowsOf (lists : RowLists) (rows : Sources) : Type 0 where
  pub unicode_data : lists.unicode_data.items ≡ rows UnicodeData
  pub case_folding : lists.case_folding.items ≡ rows CaseFolding
  pub special_casing : lists.special_casing.items ≡ rows SpecialCasing
  pub prop_list : lists.prop_list.items ≡ rows PropList
  pub word_break : lists.word_break.items ≡ rows WordBreakProperty
  pub exclusions : lists.exclusions.items ≡ rows CompositionExclusions
