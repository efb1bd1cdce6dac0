-- Edits of the changes of a layout.
-- edited e xs                      xs with the changes from e.from up to e.behind replaced by those of e
-- SetsSpan eq d xs lo hi v d' xs'  the layout d', xs' is the layout d, xs with the value v from lo to hi
use Rattle.std.specs.Prelude.{◌≡◌, ℕ, ◌<◌, Bool, List, ◌++◌, take, drop, option_to_list}
use Rattle.range_table.specs.declared.change.Change.{Change}
use Rattle.range_table.specs.declared.edit.Edit.{Edit}
use Rattle.range_table.specs.Values.{with_span}
use Rattle.range_table.specs.Layout.{Follow, value_at}

abbrev pub edited : {V : Type 0} → Edit V → List (Change V) → List (Change V)
edited e xs = take e.from xs ++ (option_to_list e.begins ++ (option_to_list e.ends ++ drop e.behind xs))

pub record SetsSpan {V : Type 0} (eq : V → V → Bool) (d : V) (xs : List (Change V)) (lo hi : ℕ) (v d' : V) (xs' : List (Change V)) : Type 0 where
  pub follow : Follow eq 0 d' xs'
  pub values : (c : ℕ) → c < 1114112 → value_at d' xs' c ≡ with_span (value_at d xs) lo hi v c
