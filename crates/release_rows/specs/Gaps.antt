-- Where an entry is put.
-- IsGapAt gap n parts    the gap is that behind the first n entries: the one before the first entry, the one behind the entry at
--                        the place before n, or the only one of a list without entries
use Rattle.std.specs.Prelude.{◌≡◌, ℕ, ◌+◌, List, length}
use Rattle.part_list.specs.Parts.{flat, place, IsEntry}
use Rattle.release_rows.specs.declared.edits.Gap.{Gap}
use Rattle.release_rows.specs.declared.edits.Gap.TheVariants.{Front, Behind, Only}

abbrev pub IsGapAt : {A : Type 0} → Gap → ℕ → List (List A) → Type 0
IsGapAt (Front spot) n parts = IsEntry parts spot × (place parts spot ≡ 0) × (n ≡ 0)
IsGapAt (Behind spot) n parts = IsEntry parts spot × (place parts spot + 1 ≡ n)
IsGapAt Only n parts = (length (flat parts) ≡ 0) × (n ≡ 0)
