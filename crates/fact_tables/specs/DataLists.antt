-- Lists of four kinds of mappings.
--
-- HasNoneNext l c   each list of c is empty next
use Rattle.std.specs.Prelude.{◌≡◌, ℕ, []}
use Rattle.fact_tables.specs.PointLists.{lists_next}
use Rattle.fact_tables.specs.declared.data_lists.DataLists.{DataLists}

pub record HasNoneNext (l : DataLists) (c : ℕ) : Type 0 where
  pub mapping : lists_next l.mappings c ≡ []
  pub upper : lists_next l.uppers c ≡ []
  pub lower : lists_next l.lowers c ≡ []
  pub title : lists_next l.titles c ≡ []
