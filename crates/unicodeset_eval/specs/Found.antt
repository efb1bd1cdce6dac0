-- What the code looks at, where a definition looks at rows.
-- passes_test test R                what a test says by the record R alone: Assigned is every category but Cn, which no row has; the tests of
--                             derived properties are `passes`; false for the others
-- no_points                   the set without members
-- has_at sets k c             whether the set with number k has c; never where the number is not used
-- AreRowSets sets rows        the sets of scripts, of word breaks and of listed properties have the code points that the rows give
-- AreSetsBut sets edited rows  the sets are those of rows of which only the edited files have others than these
-- says R sets test c          what the records and these sets say of c
use Rattle.std.specs.Prelude.{◌≡◌, ℕ, ◌<◌, Bool, true, false, not, ◌==◌, nat_lt, List, [], slice_index_or}
use Rattle.ucd_facts.specs.Facts.{Sources}
use Rattle.ucd_facts.specs.Predicates.{category_place}
use Rattle.ucd_model.specs.Records.{Record}
use Rattle.ucd_facts.specs.Values.{script_at, word_break_at}
use Rattle.ucd_facts.specs.declared.category.Category.TheVariants.{Cn}
use Rattle.ucd_points.specs.declared.files.SourceFile.TheVariants.{PropList, Scripts, WordBreakProperty}
use Rattle.property_aliases.specs.Edits.{AreSameBut}
use Rattle.property_aliases.specs.Sources.{break_names, script_names}
use Rattle.property_aliases.specs.declared.edited.Edited.{Edited}
use Rattle.property_aliases.specs.declared.property.Test.{Test}
use Rattle.property_aliases.specs.declared.property.Test.TheVariants as test
use Rattle.unicodeset_eval.specs.Edges.{Edges, has}
use Rattle.unicodeset_eval.specs.Tests.{passes, same_truth, is_numbered, is_listed}
use Rattle.unicodeset_eval.specs.declared.row_sets.RowSets.{RowSets}

abbrev pub passes_test : Test → Record → Bool
passes_test test.Assigned R = not (category_place R.category == category_place Cn)
passes_test test R = passes test R

abbrev pub no_points : Edges
no_points = record { has_zero = false; edges = [] }

abbrev pub has_at : List Edges → ℕ → ℕ → Bool
has_at sets number c = has (slice_index_or sets number no_points) c

pub record AreRowSets (sets : RowSets) (rows : Sources) : Type 0 where
  pub scripts : (k c : ℕ) → c < 1114112 → has_at sets.scripts.items k c ≡ is_numbered (script_names (rows Scripts)) k (script_at (rows Scripts) c)
  pub breaks : (k c : ℕ) → c < 1114112 → has_at sets.breaks.items k c ≡ is_numbered (break_names (rows WordBreakProperty)) k (word_break_at (rows WordBreakProperty) c)
  pub listed : (k c : ℕ) → has_at sets.listed.items k c ≡ is_listed (rows PropList) k c

pub record AreSetsBut (sets : RowSets) (edited : Edited) (rows : Sources) : Type 0 where
  pub old : Sources
  pub are : AreRowSets sets old
  pub same : AreSameBut edited old rows

abbrev pub says : (ℕ → Record) → RowSets → Test → ℕ → Bool
says R sets test.Any c = true
says R sets test.Ascii c = nat_lt c 0x80
says R sets (test.Script number) c = has_at sets.scripts.items number c
says R sets (test.WordBreak number) c = has_at sets.breaks.items number c
says R sets (test.Listed number wanted) c = same_truth wanted (has_at sets.listed.items number c)
says R sets test c = passes_test test (R c)
