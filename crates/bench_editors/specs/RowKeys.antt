-- Rows by numbers and texts, and the revisions that are kept under them.
-- KeyParts             the place of a file among the source files; one more than a first code point, or 0; and names
-- start_of code        one more than the code point; 0 if there is none
-- row_parts row        of a file and a key
-- key_parts k          of a key of the map
-- same_parts a b       all are the same
-- row_key_cmp a b      by the place of the file, then by the code point, then by the names, each by its bytes
-- found_in m parts     the revision that is kept under these parts
-- last_in m parts      that revision; 0 if none is kept
use Rattle.std.specs.Prelude.{ℕ, ◌+◌, Bool, ◌&&◌, ◌==◌, List, map, Option, Some, None, unwrap_or}
use Rattle.std.specs.Cmp.Lexicographic.{slice_cmp}
use Rattle.std.specs.Map.{lookup}
use Rattle.std.specs.Ordering.{ordering_then, nat_cmp}
use Rattle.std.specs.declared.cmp.Ordering.{Ordering}
use Rattle.ucd_points.specs.SourceFiles.{file_place}
use Rattle.source_rows.specs.Keys.{same_texts}
use Rattle.bench_editors.specs.Rows.{Touched}
use Rattle.bench_editors.specs.declared.row_key.RowKey.{RowKey}
use Rattle.bench_editors.specs.declared.row_revisions.RowRevisions.{RowRevisions}

pub record KeyParts : Type 0 where
  pub file : ℕ
  pub start : ℕ
  pub names : List (List ℕ)

abbrev pub start_of : Option ℕ → ℕ
start_of (Some c) = c + 1
start_of None = 0

abbrev pub row_parts : Touched → KeyParts
row_parts row = record { file = file_place row.file; start = start_of row.key.code; names = row.key.names }

abbrev pub key_parts : RowKey → KeyParts
key_parts k = record { file = k.file; start = k.start; names = map (λ name. name.items) k.names.items }

abbrev pub same_parts : KeyParts → KeyParts → Bool
same_parts a b = (a.file == b.file) && (a.start == b.start) && same_texts a.names b.names

abbrev pub row_key_cmp : RowKey → RowKey → Ordering
row_key_cmp a b =
    ordering_then (nat_cmp a.file b.file) (ordering_then (nat_cmp a.start b.start) (slice_cmp (λ m n. slice_cmp nat_cmp m.items n.items) a.names.items b.names.items))

abbrev pub found_in : RowRevisions → KeyParts → Option ℕ
found_in m parts = lookup (λ k. same_parts parts (key_parts k)) m.last.entries

abbrev pub last_in : RowRevisions → KeyParts → ℕ
last_in m parts = unwrap_or (found_in m parts) 0
