-- What an edit puts into a list.
-- put_entries put    the entries, in order
use Rattle.std.specs.Prelude.{List, ◌++◌, option_to_list}
use Rattle.part_list.specs.declared.put.Put.{Put}
use Rattle.part_list.specs.declared.entry.Entry.{Entry}

abbrev pub put_entries : {A : Type 0} → Put A → List (Entry A)
put_entries put = option_to_list put.first ++ option_to_list put.second
