-- Words on sinks in memory.
--   SinkView               a MemorySink as its callers see it: what was written, for how many bytes it
--                          has room in all, and how many puts failed
--   room_left sink         for how many bytes there is room yet
--   after_put bytes sink   the sink after a put: what fits is appended, and what does not is one fault
use Rattle.std.specs.Prelude.{ℕ, ◌-◌, List, ◌++◌, take, length, nat_lt}
use Rattle.shelf_io.specs.Counts.{faults_after}

pub record SinkView : Type 0 where
  pub written : List ℕ
  pub room : ℕ
  pub faults : ℕ

abbrev pub room_left : SinkView → ℕ
room_left sink = sink.room - length sink.written

abbrev pub after_put : List ℕ → SinkView → SinkView
after_put bytes sink = record sink {
  written = sink.written ++ take (room_left sink) bytes;
  faults = faults_after (nat_lt (room_left sink) (length bytes)) sink.faults;
}
