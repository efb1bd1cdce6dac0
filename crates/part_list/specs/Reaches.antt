-- The code points that the entries of a part speak of, and their tags.
-- IsWithin reach entry    the entry's code points lie in the reach, both the first and the last, and so does its tag
-- IsWider old new         the new reach has all of the old one
-- Skips p reach           no entry within the reach passes p
use Rattle.std.specs.Prelude.{◌≡◌, ◌≤◌, Bool, false}
use Rattle.part_list.specs.declared.reach.Reach.{Reach}
use Rattle.part_list.specs.declared.entry.Entry.{Entry}

pub record IsWithin {A : Type 0} (reach : Reach) (entry : Entry A) : Type 0 where
  pub least : reach.least ≤ entry.code
  pub code : entry.code ≤ reach.most
  pub last : entry.last ≤ reach.most
  pub least_tag : reach.least_tag ≤ entry.tag
  pub most_tag : entry.tag ≤ reach.most_tag

pub record IsWider (old new : Reach) : Type 0 where
  pub least : new.least ≤ old.least
  pub most : old.most ≤ new.most
  pub least_tag : new.least_tag ≤ old.least_tag
  pub most_tag : old.most_tag ≤ new.most_tag

abbrev pub Skips : {A : Type 0} → (Entry A → Bool) → Reach → Type 0
Skips {A} p reach = (entry : Entry A) → IsWithin reach entry → p entry ≡ false
