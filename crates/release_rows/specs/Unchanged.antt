-- What an operation leaves as it was: everything but its row keeps its bytes and its order.
-- has_row op row          the row has the operation's key: that of the row which is added or changed, or the one that is withdrawn
-- others op items         the items but for those with such a row, in order; comments and empty lines are among them
-- in_front op next        how many items stand in front of the row that was added; none if no row is added
-- ended_at n items        the items, of which the last one of the first n has a LF if it had no line end
-- HasEnd item             the item has a line end
-- standing op item        whether the item has such a row, and its line end
-- KeepsPlace op items next   there was no such row before an addition; a changed row stands in its place and keeps its line end;
--                         there is no such row after a withdrawal
-- KeepsOthers op items next   the others are the same items in the same order, but that the one in front of an added row has a LF if
--                         it had no line end. If every item had a line end, they are the same. Their contents always are
-- KeepsFiles op files next   so it is in the operation's file, and every other file has the same items
-- EverythingElseStays     so it is after each operation that breaks no rule
use Rattle.std.specs.Prelude.{◌≡◌, ◌≢◌, ℕ, Bool, not, List, ◌++◌, map, take, drop, filter, Ok}
use Rattle.std.specs.List.{All, position_or_len}
use Rattle.ucd_points.specs.Lines.{LineEnding, unended}
use Rattle.release_rows.specs.Keys.{same_key}
use Rattle.release_rows.specs.Operations.{ended, has_key, op_file, op_or_rule, row_passes}
use Rattle.release_rows.specs.Releases.{items_at, FileItem, SourceFile, Row}
use Rattle.release_rows.specs.declared.operation.Op.{Op}
use Rattle.release_rows.specs.declared.operation.Op.TheVariants.{Add, Change, Withdraw}

abbrev pub has_row : Op → Row → Bool
has_row (Add file row bytes) other = same_key file row other
has_row (Change file row bytes) other = same_key file row other
has_row (Withdraw file key) other = has_key file key other

abbrev pub others : Op → List FileItem → List FileItem
others op items = filter (λ item. not (row_passes (has_row op) item)) items

abbrev pub in_front : Op → List FileItem → ℕ
in_front (Add file row bytes) next = position_or_len (row_passes (same_key file row)) next
in_front _ next = 0

abbrev pub ended_at : ℕ → List FileItem → List FileItem
ended_at n items = ended (take n items) ++ drop n items

abbrev pub HasEnd : FileItem → Type 0
HasEnd item = item.ending ≢ unended

abbrev pub standing : Op → FileItem → Bool × LineEnding
standing op item = (row_passes (has_row op) item, item.ending)

abbrev pub KeepsPlace : Op → List FileItem → List FileItem → Type 0
KeepsPlace (Add file row bytes) items next = others (Add file row bytes) items ≡ items
KeepsPlace (Change file row bytes) items next = map (standing (Change file row bytes)) next ≡ map (standing (Change file row bytes)) items
KeepsPlace (Withdraw file key) items next = others (Withdraw file key) next ≡ next

pub record KeepsOthers (op : Op) (items next : List FileItem) : Type 0 where
  pub exactly : others op next ≡ ended_at (in_front op next) (others op items)
  pub same : All HasEnd items → others op next ≡ others op items
  pub contents : map (λ item. item.content) (others op next) ≡ map (λ item. item.content) (others op items)
  pub place : KeepsPlace op items next

pub record KeepsFiles (op : Op) (files next : List (List FileItem)) : Type 0 where
  pub here : KeepsOthers op (items_at files (op_file op)) (items_at next (op_file op))
  pub elsewhere : (file : SourceFile) → file ≢ op_file op → items_at next file ≡ items_at files file

abbrev pub EverythingElseStays : Type 0
EverythingElseStays = (op : Op) (files next : List (List FileItem)) → op_or_rule files op ≡ Ok next → KeepsFiles op files next
