-- The lines of a file. UAX #44, section 4.2.
-- is_blank b              the byte is white space: space or tab
-- is_lf b                 the byte is LF
-- contents bytes          the contents of the lines in order: a line ends after LF, and what ends it, LF or CR LF, is not part of
--                         its content; the last line may lack it; no bytes have no line. A CR that no LF follows belongs to the
--                         content
-- contents_of_pieces ps   the contents of what stands between LFs: every piece but the last was ended by a LF, and loses one CR
--                         at its end; an empty last piece is no line
-- without_return bs       without one CR at the end, where one is there
-- holds_line_feed bs      a LF is among the bytes, so that they are no line's content
-- LineEnding              what ends a line: unended, nothing at the end of the file; lf, LF; cr_lf, CR LF
-- LineItem                a line: its content and its LineEnding
-- items_of bytes          the same lines, each with what ends it
-- items_of_pieces ps      those lines, from what stands between LFs, as contents_of_pieces
-- ended_item piece        the line of what stands before a LF: CR LF ended it where the piece ends in CR
-- ends_in_return bs       the last byte is CR; false for no bytes
-- ending_bytes ending     the bytes of an ending: none, LF, or CR LF
-- item_bytes item         a line's content and the bytes of its ending
-- joined items            contents and endings put together again
-- unindented bs           the bytes behind the white space at their beginning
-- is_comment content      the line is blank, or its first byte other than white space is `#`
use Rattle.std.specs.Prelude.{ℕ, ◌-◌, Bool, true, List, [], ◌∷◌, ◌++◌, length, take, drop, ◌==◌, if◌then◌else◌, slice_get, Some, nat_eq, ◌||◌}
use Rattle.std.specs.Option.{option_eq}
use Rattle.std.specs.List.{slice_split, prefix_len, list_any, flat_map}

abbrev pub is_blank : ℕ → Bool
is_blank b = (b == 32) || (b == 9)

abbrev pub is_lf : ℕ → Bool
is_lf b = b == 10

abbrev pub holds_line_feed : List ℕ → Bool
holds_line_feed bs = list_any is_lf bs

abbrev pub without_return : List ℕ → List ℕ
without_return bs = if option_eq nat_eq (slice_get bs (length bs - 1)) (Some 13) then take (length bs - 1) bs else bs

abbrev pub contents_of_pieces : List (List ℕ) → List (List ℕ)
contents_of_pieces [] = []
contents_of_pieces ([] ∷ []) = []
contents_of_pieces ((b ∷ bs) ∷ []) = (b ∷ bs) ∷ []
contents_of_pieces (piece ∷ next ∷ pieces) = without_return piece ∷ contents_of_pieces (next ∷ pieces)

unfoldable pub contents : List ℕ → List (List ℕ)
contents bytes = contents_of_pieces (slice_split is_lf bytes)

pub data LineEnding : Type 0 where
  unended : LineEnding
  lf : LineEnding
  cr_lf : LineEnding

pub record LineItem : Type 0 where
  pub content : List ℕ
  pub ending : LineEnding

abbrev pub ends_in_return : List ℕ → Bool
ends_in_return bs = option_eq nat_eq (slice_get bs (length bs - 1)) (Some 13)

abbrev pub ended_item : List ℕ → LineItem
ended_item piece = record { content = without_return piece; ending = if ends_in_return piece then cr_lf else lf }

abbrev pub items_of_pieces : List (List ℕ) → List LineItem
items_of_pieces [] = []
items_of_pieces ([] ∷ []) = []
items_of_pieces ((b ∷ bs) ∷ []) = record { content = b ∷ bs; ending = unended } ∷ []
items_of_pieces (piece ∷ next ∷ pieces) = ended_item piece ∷ items_of_pieces (next ∷ pieces)

unfoldable pub items_of : List ℕ → List LineItem
items_of bytes = items_of_pieces (slice_split is_lf bytes)

abbrev pub ending_bytes : LineEnding → List ℕ
ending_bytes unended = []
ending_bytes lf = 10 ∷ []
ending_bytes cr_lf = 13 ∷ 10 ∷ []

abbrev pub item_bytes : LineItem → List ℕ
item_bytes item = item.content ++ ending_bytes item.ending

abbrev pub joined : List LineItem → List ℕ
joined items = flat_map item_bytes items

abbrev begins_comment : List ℕ → Bool
begins_comment [] = true
begins_comment (b ∷ bs) = b == 35

abbrev pub unindented : List ℕ → List ℕ
unindented bs = drop (prefix_len is_blank bs) bs

abbrev pub is_comment : List ℕ → Bool
is_comment content = begins_comment (unindented content)
