-- What may be told of all entries of a list.
-- IsHinted hints entry      the entry's tag may be one of the tags, and the entry is covered
use Rattle.part_list.specs.Covers.{IsCovered}
use Rattle.part_list.specs.SeenNumbers.{IsKnown}
use Rattle.part_list.specs.declared.hints.Hints.{Hints}
use Rattle.part_list.specs.declared.entry.Entry.{Entry}

pub record IsHinted {A : Type 0} (hints : Hints A) (entry : Entry A) : Type 0 where
  pub known : IsKnown hints.tags entry
  pub covered : IsCovered hints.cover entry
