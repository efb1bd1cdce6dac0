-- The tags that entries of a list may have.
-- may_have tags t      t may be one of the tags: each may if nothing is known
-- IsKnown tags entry   the entry's tag may be one of the tags
-- Grows old new        the new tags have all of the old ones
use Rattle.std.specs.Prelude.{◌≡◌, ℕ, Bool, true, Option, Some, None}
use Rattle.std.specs.BTreeSet.{BTreeSet, contains}
use Rattle.std.specs.Ordering.{nat_cmp}
use Rattle.part_list.specs.declared.entry.Entry.{Entry}
use Rattle.part_list.specs.declared.seen_numbers.SeenNumbers.{SeenNumbers}

abbrev is_seen : Option (BTreeSet ℕ) → ℕ → Bool
is_seen None t = true
is_seen (Some seen) t = contains nat_cmp seen t

abbrev pub may_have : SeenNumbers → ℕ → Bool
may_have tags t = is_seen tags.seen t

abbrev pub IsKnown : {A : Type 0} → SeenNumbers → Entry A → Type 0
IsKnown tags entry = may_have tags entry.tag ≡ true

abbrev pub Grows : SeenNumbers → SeenNumbers → Type 0
Grows old new = (t : ℕ) → may_have old t ≡ true → may_have new t ≡ true
