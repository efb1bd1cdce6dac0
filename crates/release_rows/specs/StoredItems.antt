-- The pieces and items of the code, as the definitions name them.
-- piece_of p                the lines of a piece: its first one, and the second where it has one
-- content_at text s         the content that stands where an item says
-- item_at file text s       the item that stands there: the row is read from the content
-- IsItem file text s        the item lies within the text, has one line or two, and its content is trivia or reads as a row; what
--                           is kept of what the row gives is that of the row
-- HasSpan row code last      they are the first and the last code point of the row; nothing of
--                           trivia
-- stored_at file text e     the item of an entry
-- IsStored file text e      the entry's item is one, and the entry has the code points of its row and the tag of its content
-- IsWhole file text items   the items put together are the text
-- AreWhole file text items  so are those now, and those next
-- IsKeptFile file text added items   the entries now and next are stored; each list has fewer than 2^32 and those added since the
--                           file was loaded, and these are fewer than 2^32
-- row_or_none result        the row that was read; where there is a fault, a row that nothing rests on
-- read_as file content      the row that the content is read as, by row_or_none
-- HasRow file content e      the content reads as a row, and the entry has its code points and what is kept of what it gives
-- IsBriefOf b file row first   the row has one code point, and this is kept of what it gives
-- IsRowText file content b first last   the content reads as a row from the first to the last of these, and what is kept, if anything is, is kept
--                           of a row of one code point
-- ShowsValued value row     the value is the row, which is one of a file that gives values; None of other rows
-- ShowsValue value row      the value is that of a row of a span and a value; None of other rows, missing rows among them
-- ShowsMissing value row    the value is that of a missing row; None of other rows
use Rattle.std.specs.Prelude.{◌≡◌, ◌≢◌, ℕ, ◌+◌, ◌<◌, ◌≤◌, ◌^◌, List, map, length, take, drop, Option, Some, None, Result, Ok, Err, All, option_map}
use Rattle.ucd_facts.specs.declared.row.Row.TheVariants.{Value as ValueLine, Exclusion as ExclusionLine, Missing as MissingLine}
use Rattle.ucd_lines.specs.Items.{item_of, ending_of}
use Rattle.source_rows.specs.Faults.{row_or_fault}
use Rattle.source_rows.specs.RowRefs.{value_in, valued_in}
use Rattle.source_rows.specs.declared.fault.RowFault.{RowFault}
use Rattle.source_rows.specs.declared.values.ValueText.{ValueText}
use Rattle.source_rows.specs.declared.values.Valued.{Valued}
use Rattle.part_list.specs.Parts.{PartLists, now_in, next_in}
use Rattle.part_list.specs.declared.entry.Entry.{Entry}
use Rattle.source_rows.specs.Keys.{row_span}
use Rattle.release_rows.specs.Briefs.{brief_of, no_brief}
use Rattle.release_rows.specs.Pieces.{Lines}
use Rattle.release_rows.specs.FileItems.{FileItem, bytes_of, SourceFile, Row}
use Rattle.release_rows.specs.Loading.{content_row, row_read}
use Rattle.release_rows.specs.Tags.{content_tag}
use Rattle.release_rows.specs.declared.brief.Brief.{Brief}
use Rattle.release_rows.specs.declared.piece.RowLines.{RowLines}
use Rattle.release_rows.specs.declared.stored_item.StoredItem.{StoredItem}

abbrev pub piece_of : RowLines → Lines
piece_of p = record { first = item_of p.first; last = option_map item_of p.last }

abbrev pub content_at : List ℕ → StoredItem → List ℕ
content_at text s = take s.len (drop s.start text)

abbrev pub item_at : SourceFile → List ℕ → StoredItem → FileItem
item_at file text s = record { content = content_at text s; ending = ending_of s.ending; lines = s.lines; row = row_read (content_row file (content_at text s)) }

pub record IsItem (file : SourceFile) (text : List ℕ) (s : StoredItem) : Type 0 where
  pub fits : s.start + s.len ≤ length text
  pub some : 1 ≤ s.lines
  pub few : s.lines ≤ 2
  pub is_read : content_row file (content_at text s) ≡ Ok (row_read (content_row file (content_at text s)))
  pub brief : s.brief ≡ brief_of (row_read (content_row file (content_at text s)))

abbrev pub HasSpan : Option Row → ℕ → ℕ → Type 0
HasSpan None code last = Unit {0}
HasSpan (Some row) code last = (code ≡ (row_span row).lo) × (last ≡ (row_span row).hi)

abbrev pub stored_at : SourceFile → List ℕ → Entry StoredItem → FileItem
stored_at file text e = item_at file text e.item

pub record IsStored (file : SourceFile) (text : List ℕ) (e : Entry StoredItem) : Type 0 where
  pub item : IsItem file text e.item
  pub span : HasSpan (item_at file text e.item).row e.code e.last
  pub tag : e.tag ≡ content_tag file (content_at text e.item)

abbrev pub IsWhole : SourceFile → List ℕ → List (Entry StoredItem) → Type 0
IsWhole file text items = bytes_of (map (stored_at file text) items) ≡ text

pub record AreWhole (file : SourceFile) (text : List ℕ) (items : PartLists (Entry StoredItem)) : Type 0 where
  pub now : IsWhole file text (now_in items)
  pub next : IsWhole file text (next_in items)

pub record IsKeptFile (file : SourceFile) (text : List ℕ) (added : ℕ) (items : PartLists (Entry StoredItem)) : Type 0 where
  pub now : All (IsStored file text) (now_in items)
  pub next : All (IsStored file text) (next_in items)
  pub few_now : length (now_in items) < 2 ^ 32 + added
  pub few_next : length (next_in items) < 2 ^ 32 + added
  pub few_added : added < 2 ^ 32

abbrev row_or_none : Result Row RowFault → Row
row_or_none (Ok row) = row
row_or_none (Err fault) = ExclusionLine (record { span = record { lo = 0; hi = 0 } })

abbrev pub read_as : SourceFile → List ℕ → Row
read_as file content = row_or_none (row_or_fault file content)

pub record HasRow (file : SourceFile) (content : List ℕ) (e : Entry StoredItem) : Type 0 where
  pub read : row_or_fault file content ≡ Ok (read_as file content)
  pub brief : e.item.brief ≡ brief_of (Some (read_as file content))
  pub span : HasSpan (Some (read_as file content)) e.code e.last

abbrev pub IsBriefOf : Brief → SourceFile → Row → ℕ → Type 0
IsBriefOf b file row first = (b ≡ brief_of (Some row)) × HasSpan (Some row) first first

pub record IsRowText (file : SourceFile) (content : List ℕ) (b : Brief) (first last : ℕ) : Type 0 where
  pub read : row_or_fault file content ≡ Ok (read_as file content)
  pub span : HasSpan (Some (read_as file content)) first last
  pub brief : b ≢ no_brief → IsBriefOf b file (read_as file content) first

abbrev pub ShowsValued : Option Valued → Row → Type 0
ShowsValued (Some v) row = row ≡ valued_in v
ShowsValued None (ValueLine row) = ⊥
ShowsValued None (MissingLine row) = ⊥
ShowsValued None _ = Unit {0}

abbrev pub ShowsValue : Option ValueText → Row → Type 0
ShowsValue (Some v) (ValueLine row) = row ≡ value_in v
ShowsValue None (ValueLine row) = ⊥
ShowsValue (Some v) _ = ⊥
ShowsValue None _ = Unit {0}

abbrev pub ShowsMissing : Option ValueText → Row → Type 0
ShowsMissing (Some v) (MissingLine row) = row ≡ value_in v
ShowsMissing None (MissingLine row) = ⊥
ShowsMissing (Some v) _ = ⊥
ShowsMissing None _ = Unit {0}
