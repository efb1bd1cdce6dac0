-- The names of rows of UnicodeData.txt, in the order of the file.
-- named_in row          the code points and the name of a row of UnicodeData.txt, as the one item of a list; no item for other rows
-- named rows            those of all rows
-- name_at list c        the name of the first row that covers c; None where none does
-- AreAbove n list       the rows follow one another from n on, each from its first code point to its last one
-- BeginsAt n list       the same, but the first row may begin before n; it does not end there
-- end_at n list         one past the last code point up to which all from n on have one name: to the end of the first row, or to before
--                       its beginning; one past the last code point where there is no row
-- name_here n list      the name of n by the first row; None where it begins behind n, and where there is none
-- row_name row          the name of a row; None where there is none
-- left_behind n list    the rows without the first one, where it ends before n
-- IsRest whole n rest   of the whole the rows of n and of the code points behind it are the rest
-- AreLeft old new before after   before and after are rows of old and new that follow one another; the names that they give a
--                       code point differ where those that old and new give it do
-- Takes x y step b c d e   of a row x of the old release and a row y of the new one the step takes what it says: for Same both,
--                       which are one row; for Old the old one, whose name is put behind b, so that c has it; for New the new
--                       one, whose name is put behind d, so that e has it
-- begins_first x y      the row x does not begin behind the row y; true where one of the two is no row of UnicodeData.txt
-- KeepsStep x y step    the row that a step takes alone does not begin behind the other one
-- olds step, news step   how many rows of each release a step takes
use Rattle.std.specs.Prelude.{◌≡◌, ◌≤◌, ◌+◌, ℕ, Bool, true, false, nat_le, if◌then◌else◌, List, [], ◌∷◌, ◌++◌, Option, Some, None, flat_map}
use Rattle.ucd_facts.specs.Facts.{within}
use Rattle.ucd_facts.specs.declared.row.Row.{Row}
use Rattle.ucd_facts.specs.declared.row.Row.TheVariants.{Unit as DataLine}
use Rattle.stability_policies.specs.Policies.{differ}
use Rattle.stability_policies.specs.declared.differing.Step.{Step}
use Rattle.stability_policies.specs.declared.differing.Step.TheVariants.{Same, Old, New}
use Rattle.stability_policies.specs.declared.named_row.NamedRow.{NamedRow}

abbrev pub named_in : Row → List NamedRow
named_in (DataLine row) = (record { span = row.span; name = row.name }) ∷ []
named_in _ = []

abbrev pub named : List Row → List NamedRow
named rows = flat_map named_in rows

abbrev pub name_at : List NamedRow → ℕ → Option (List ℕ)
name_at [] c = None
name_at (row ∷ rows) c = if within c row.span then Some row.name else name_at rows c

abbrev pub AreAbove : ℕ → List NamedRow → Type 0
AreAbove n [] = Unit {0}
AreAbove n (row ∷ rows) = (n ≤ row.span.lo) × (row.span.lo ≤ row.span.hi) × AreAbove (row.span.hi + 1) rows

abbrev pub BeginsAt : ℕ → List NamedRow → Type 0
BeginsAt n [] = Unit {0}
BeginsAt n (row ∷ rows) = (n ≤ row.span.hi) × (row.span.lo ≤ row.span.hi) × AreAbove (row.span.hi + 1) rows

abbrev pub end_at : ℕ → List NamedRow → ℕ
end_at n [] = 1114112
end_at n (row ∷ rows) = if nat_le row.span.lo n then row.span.hi + 1 else row.span.lo

abbrev pub name_here : ℕ → List NamedRow → Option (List ℕ)
name_here n [] = None
name_here n (row ∷ rows) = if nat_le row.span.lo n then Some row.name else None

abbrev pub left_behind : ℕ → List NamedRow → List NamedRow
left_behind n [] = []
left_behind n (row ∷ rows) = if nat_le n row.span.hi then row ∷ rows else rows

abbrev pub row_name : Option NamedRow → Option (List ℕ)
row_name (Some row) = Some row.name
row_name None = None

pub record IsRest (whole : List NamedRow) (n : ℕ) (rest : List NamedRow) : Type 0 where
  pub begins : BeginsAt n rest
  pub same : (c : ℕ) → n ≤ c → name_at whole c ≡ name_at rest c

-- ---- rows that differ

pub record AreLeft (old new before after : List NamedRow) : Type 0 where
  pub before_above : AreAbove 0 before
  pub after_above : AreAbove 0 after
  pub same : (c : ℕ) → differ (name_at before c) (name_at after c) ≡ differ (name_at old c) (name_at new c)

abbrev pub Takes : Row → Row → Step → List NamedRow → List NamedRow → List NamedRow → List NamedRow → Type 0
Takes x y Same b c d e = (x ≡ y) × (c ≡ b) × (e ≡ d)
Takes x y Old b c d e = (c ≡ b ++ named_in x) × (e ≡ d)
Takes x y New b c d e = (c ≡ b) × (e ≡ d ++ named_in y)

abbrev pub begins_first : Row → Row → Bool
begins_first (DataLine x) (DataLine y) = nat_le x.span.lo y.span.lo
begins_first _ _ = true

abbrev pub KeepsStep : Row → Row → Step → Type 0
KeepsStep x y Same = Unit {0}
KeepsStep x y Old = begins_first x y ≡ true
KeepsStep x y New = begins_first x y ≡ false

abbrev pub olds : Step → ℕ
olds Same = 1
olds Old = 1
olds New = 0

abbrev pub news : Step → ℕ
news Same = 1
news Old = 0
news New = 1
