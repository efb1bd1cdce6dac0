-- A part of a list.
-- PartValue A               its entries now and next, and whether what is next is kept apart from what is now
-- committed part            the part once what is next is what is now
-- discarded part            the part once what is now is what is next
-- has_entries part          whether there are entries, now or next
-- shown version part        what is now, or what is next
-- parts_now, parts_next     of each part what is now, and what is next
use Rattle.std.specs.Prelude.{Bool, false, ◌||◌, nat_lt, List, length, map}
use Rattle.part_list.specs.declared.now_or_next.NowOrNext.{NowOrNext}
use Rattle.part_list.specs.declared.now_or_next.NowOrNext.TheVariants.{Now, Next}

pub record PartValue (A : Type 0) : Type 0 where
  pub now : List A
  pub next : List A
  pub edited : Bool

abbrev pub committed : {A : Type 0} → PartValue A → PartValue A
committed part = record { now = part.next; next = part.next; edited = false }

abbrev pub discarded : {A : Type 0} → PartValue A → PartValue A
discarded part = record { now = part.now; next = part.now; edited = false }

abbrev pub has_entries : {A : Type 0} → PartValue A → Bool
has_entries part = nat_lt 0 (length part.now) || nat_lt 0 (length part.next)

abbrev pub shown : {A : Type 0} → NowOrNext → PartValue A → List A
shown Now part = part.now
shown Next part = part.next

abbrev pub parts_now : {A : Type 0} → List (PartValue A) → List (List A)
parts_now parts = map (λ part. part.now) parts

abbrev pub parts_next : {A : Type 0} → List (PartValue A) → List (List A)
parts_next parts = map (λ part. part.next) parts
