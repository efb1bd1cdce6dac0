-- What is looked for among the entries of a file, by the code points of an entry and the content in which its item stands.
-- is_row file content                    the content is no trivia
-- has_names file names content           it is that of a row, in whose key are these names
-- is_of_group file group content         it is that of a row of the group of this name
-- starts_alike, meets_another, comes_behind, is_alike   the entry has the key of these names and this code point; it has another
--                                        one and overlaps the code points from this one to the last; it is of the group and has a
--                                        greater key; it is of the group. In each its tag does not tell that it is not so
-- forbids s                              no other row may have the code points: the rows of the file have spans, and it is no missing
--                                        row that is looked for
-- Sought                                 what is looked for: the test, the file and its text, the first code point and the last one,
--                                        the names of the key and of the group, the tag, and whether it is a missing row
-- with_test sought test                  the same with another test
-- entry_passes sought e                  the entry passes the test
-- IsSoughtRow file row text s            what is looked for are the code points, the key and the group of this row, and a tag of theirs
use Rattle.std.specs.Prelude.{◌≡◌, ℕ, Bool, true, ◌&&◌, not, List, ◌==◌, nat_le, bytes_eq}
use Rattle.std.specs.Ordering.{ordering_then, nat_cmp, is_eq, is_lt}
use Rattle.ucd_points.specs.MissingLines.{is_trivia}
use Rattle.source_rows.specs.Keys.{row_span, key_names}
use Rattle.source_rows.specs.KeyNames.{content_group, content_names, group_of, names_cmp}
use Rattle.part_list.specs.declared.entry.Entry.{Entry}
use Rattle.release_rows.specs.Keys.{has_spans, is_missing_row, row_end, SourceFile, Row}
use Rattle.release_rows.specs.StoredItems.{content_at}
use Rattle.release_rows.specs.Tags.{HasTag, tag_fits, tag_rises, tells_group, tells_key, tells_order}
use Rattle.release_rows.specs.declared.search.Test.{Test}
use Rattle.release_rows.specs.declared.search.Test.TheVariants.{SameKey, OverlapsAnother, Follows, SameGroup, Any}
use Rattle.release_rows.specs.declared.stored_item.StoredItem.{StoredItem}

abbrev pub is_row : SourceFile → List ℕ → Bool
is_row file content = not (is_trivia file content)

abbrev pub has_names : SourceFile → List (List ℕ) → List ℕ → Bool
has_names file names content = is_row file content && is_eq (names_cmp names (content_names file content))

abbrev pub is_of_group : SourceFile → List ℕ → List ℕ → Bool
is_of_group file group content = is_row file content && bytes_eq group (content_group file content)

pub record Sought : Type 0 where
  pub test : Test
  pub file : SourceFile
  pub text : List ℕ
  pub code : ℕ
  pub last : ℕ
  pub names : List (List ℕ)
  pub group : List ℕ
  pub tag : ℕ
  pub missing : Bool

abbrev pub with_test : Sought → Test → Sought
with_test s test = record { test = test; file = s.file; text = s.text; code = s.code; last = s.last; names = s.names; group = s.group; tag = s.tag; missing = s.missing }

abbrev pub starts_alike : Sought → Entry StoredItem → Bool
starts_alike s e = (s.code == e.code) && (tag_fits (tells_key s.file) s.tag e.tag && has_names s.file s.names (content_at s.text e.item))

abbrev pub forbids : Sought → Bool
forbids s = has_spans s.file && not s.missing

abbrev pub meets_another : Sought → Entry StoredItem → Bool
meets_another s e = forbids s && (not (s.code == e.code) && ((nat_le s.code e.last && nat_le e.code s.last) && (tag_fits (tells_key s.file) s.tag e.tag && has_names s.file s.names (content_at s.text e.item))))

abbrev pub is_alike : Sought → Entry StoredItem → Bool
is_alike s e = tag_fits (tells_group s.file) s.tag e.tag && is_of_group s.file s.group (content_at s.text e.item)

abbrev pub comes_behind : Sought → Entry StoredItem → Bool
comes_behind s e =
    tag_rises (tells_order s.file) s.code e.code s.tag e.tag
    && (is_alike s e && is_lt (ordering_then (nat_cmp s.code e.code) (names_cmp s.names (content_names s.file (content_at s.text e.item)))))

abbrev passes_by : Test → Sought → Entry StoredItem → Bool
passes_by SameKey s e = starts_alike s e
passes_by OverlapsAnother s e = meets_another s e
passes_by Follows s e = comes_behind s e
passes_by SameGroup s e = is_alike s e
passes_by Any s e = true

abbrev pub entry_passes : Sought → Entry StoredItem → Bool
entry_passes s e = passes_by s.test s e

pub record IsSoughtRow (file : SourceFile) (row : Row) (text : List ℕ) (s : Sought) : Type 0 where
  pub file_is : s.file ≡ file
  pub text_is : s.text ≡ text
  pub code : s.code ≡ (row_span row).lo
  pub last : s.last ≡ row_end file row
  pub names : s.names ≡ key_names file row
  pub group : s.group ≡ group_of file row
  pub tag : HasTag file s.tag (key_names file row) (group_of file row)
  pub missing : s.missing ≡ is_missing_row row
