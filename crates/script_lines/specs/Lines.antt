-- What a line of a script says by itself.
-- Said                         nothing, of a blank line and a comment; `begin`; `end`; the text of a question; a row that is put
--                              into a file; a key of a row that is taken out of one; or no command
-- is_space b                   the byte is a space
-- file_named path              the source file that lies at this path below the folder of a release; None where none does
-- behind word content          what stands behind the word, where the content begins with it, else None
-- on_file said file text       what is said of the file, where there is one
-- with_file said text          the same of the file at the path up to the first space, with what stands behind that
-- or_else found other          what was found, where anything was, else the other
-- orders content               what `add FILE LINE`, `change FILE LINE` or `withdraw FILE KEY` says, with one space between the
--                              parts; no command of all other contents
-- asks_or text other           the question of this text, where there is one, else the other
-- ordered content              what `set TEXT` says, with one space, TEXT being all that follows it, maybe nothing; orders of all
--                              other contents
-- said content                 what a line of this content says: `begin` and `end` stand alone, the others have a word and a space
-- last_text content            LINE, of a line `last LINE`; None of other lines
-- said_by line                 what a line of the code says
use Rattle.std.specs.Prelude.{ℕ, Bool, List, length, take, drop, find, Option, Some, None, ◌==◌, nat_lt, codes, if◌then◌else◌, bytes_eq}
use Rattle.std.specs.List.{position_or_len, before_first, after_first}
use Rattle.ucd_points.specs.MissingLines.{is_trivia}
use Rattle.ucd_points.specs.SourceFiles.{source_path, source_files}
use Rattle.ucd_points.specs.declared.files.SourceFile.{SourceFile}
use Rattle.ucd_points.specs.declared.files.SourceFile.TheVariants.{UnicodeData}
use Rattle.script_lines.specs.declared.line.Line.{Line}
use Rattle.script_lines.specs.declared.line.Line.TheVariants.{Skipped, Begin, End, Row, Withdraw, Set, Other}
use Rattle.script_lines.specs.declared.line.Put.{Put}
use Rattle.script_lines.specs.declared.line.Put.TheVariants.{Add, Change}

pub data Said : Type 0 where
  nothing : Said
  begins : Said
  ends : Said
  asks : List ℕ → Said
  puts : Put → SourceFile → List ℕ → Said
  withdraws : SourceFile → List ℕ → Said
  no_command : Said

abbrev pub is_space : ℕ → Bool
is_space b = b == 32

abbrev pub file_named : List ℕ → Option SourceFile
file_named path = find (λ file. bytes_eq (source_path file) path) source_files

abbrev pub behind : List ℕ → List ℕ → Option (List ℕ)
behind word content = if bytes_eq (take (length word) content) word then Some (drop (length word) content) else None

abbrev pub on_file : (SourceFile → List ℕ → Said) → Option SourceFile → List ℕ → Said
on_file say (Some file) text = say file text
on_file say None text = no_command

abbrev pub with_file : (SourceFile → List ℕ → Said) → List ℕ → Said
with_file say text = if nat_lt (position_or_len is_space text) (length text) then on_file say (file_named (before_first is_space text)) (after_first is_space text) else no_command

abbrev pub or_else : (SourceFile → List ℕ → Said) → Option (List ℕ) → Said → Said
or_else say (Some text) other = with_file say text
or_else say None other = other

abbrev pub orders : List ℕ → Said
orders content = or_else (puts Add) (behind (codes "add ") content) (or_else (puts Change) (behind (codes "change ") content) (or_else withdraws (behind (codes "withdraw ") content) no_command))

abbrev pub asks_or : Option (List ℕ) → Said → Said
asks_or (Some text) other = asks text
asks_or None other = other

abbrev pub ordered : List ℕ → Said
ordered content = asks_or (behind (codes "set ") content) (orders content)

abbrev pub said : List ℕ → Said
said content =
    if is_trivia UnicodeData content
    then nothing
    else (if bytes_eq content (codes "begin")
    then begins
    else (if bytes_eq content (codes "end")
    then ends
    else ordered content))

abbrev pub last_text : List ℕ → Option (List ℕ)
last_text content = behind (codes "last ") content

abbrev pub said_by : Line → Said
said_by Skipped = nothing
said_by Begin = begins
said_by End = ends
said_by (Row put file text) = puts put file text.now
said_by (Withdraw file text) = withdraws file text.now
said_by (Set text) = asks text.now
said_by Other = no_command
