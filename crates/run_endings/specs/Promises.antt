-- What every run keeps: one line for each promise, whatever the words, the shelf and the sink.
-- shelf_seen, sink_seen            what is seen of a shelf and of a sink before and after the run
-- NoFault shelf sink               no read, no write and no put failed
-- Promises p words shelf sink status what a run keeps that ends with this status:
-- headline            where the words have a form, what is held is not refused, no outside call fails and memory suffices, the
--                     status is that of the ending, Done where it says so, and the shelf is the old one with just the files of the
--                     ending replaced, each exactly what the program's definitions give. Memory suffices where the status is not 6
-- complete            then no other status comes but Memory
-- finished            with Clean and Done what was seen is not refused, the status is that of its ending, every file is written,
--                     and the summary is told. What was seen is what is held, where the shelf tells it
-- fine_only           Clean, Done and WriteFault come only where what was seen is not refused
-- bad_words           BadWords comes exactly where the words have no listed form; nothing is read then
-- refused_only        LoadRefused comes only where what was seen is refused, by the line that is told
-- refused             what is refused gives no other status unless a read failed or memory ran out
-- no_failed_read      with any status but ReadFault and Memory no other path became that of the last failed read
-- read_fault_only     ReadFault comes only where a read failed
-- read_fault_told     its line names a path that is needed, and the last failed one where the shelf tells it
-- no_read_fault       where the words need no file, ReadFault does not come
-- write_fault         with WriteFault what was seen is not refused; a write failed and the line names its path, the files before it
--                     are written and those after it are not touched; or all files are written and the summary could not be told
-- memory_told         with Memory the line says so
-- unchanged, no_write_fault   with BadWords, LoadRefused, ReadFault and Memory nothing was written
use Rattle.std.specs.Prelude.{◌≡◌, ◌≢◌, ◌⊎◌, ◌↔◌, ℕ, List, [], IsTrue, Some, None}
use Rattle.shelf_io.specs.Counts.{Rose}
use Rattle.shelf_io.specs.Contents.{SameContents}
use Rattle.shelf_io.specs.declared.shelf.Shelf.{Ghosts as ShelfGhosts}
use Rattle.shelf_io.specs.declared.sink.Sink.{Ghosts as SinkGhosts}
use Rattle.run_endings.specs.Outcome.{ShelfSeen, SinkSeen, Told, Leaves, IsWriteStopped, IsUntold, IsNeeded, FinishesWell, MayWrite, PassesReads, WritesNothing, status_of}
use Rattle.run_endings.specs.Printed.{read_failed, out_of_memory}
use Rattle.run_endings.specs.Endings.{Program, Ending, EndsAs, Refuses, Finishes, Replaced, Sees, IsFine, seen_in, expected, needed}
use Rattle.run_endings.specs.declared.status.Status.{Status}
use Rattle.run_endings.specs.declared.status.Status.TheVariants.{BadWords, LoadRefused, ReadFault, WriteFault, Memory}

abbrev pub shelf_seen : {S : Type 0} → ShelfGhosts S → S → S → ShelfSeen
shelf_seen g old new = record {
  tells = g.tells;
  tells_failed = g.tells_failed;
  old = g.holds old;
  new = g.holds new;
  reads_old = g.read_faults old;
  reads_new = g.read_faults new;
  writes_old = g.write_faults old;
  writes_new = g.write_faults new;
  failed_old = g.last_failed old;
  failed = g.last_failed new;
}

abbrev pub sink_seen : {K : Type 0} → SinkGhosts K → K → K → SinkSeen
sink_seen g old new = record {
  tells = g.tells;
  old = g.written old;
  new = g.written new;
  faults_old = g.faults old;
  faults_new = g.faults new;
}

pub record NoFault (shelf : ShelfSeen) (sink : SinkSeen) : Type 0 where
  pub reads : ¬ Rose shelf.reads_old shelf.reads_new
  pub writes : ¬ Rose shelf.writes_old shelf.writes_new
  pub puts : ¬ Rose sink.faults_old sink.faults_new

pub record Promises {Job : Type 0} (p : Program Job) (words : List (List ℕ)) (shelf : ShelfSeen) (sink : SinkSeen) (status : Status) : Type 0 where
  pub headline : IsTrue shelf.tells → (ending : Ending) → expected p words (seen_in p words shelf.old) ≡ Finishes ending → NoFault shelf sink
      → status ≢ Memory → (status ≡ status_of ending) × Replaced ending.files shelf.old shelf.new
  pub complete : IsTrue shelf.tells → (ending : Ending) → expected p words (seen_in p words shelf.old) ≡ Finishes ending → NoFault shelf sink
      → (status ≡ status_of ending) ⊎ (status ≡ Memory)
  pub finished : FinishesWell status
      → Sees shelf.tells shelf.old (needed p words) (λ seen. EndsAs p words seen (λ ending. Leaves ending shelf sink status))
  pub fine_only : MayWrite status → Sees shelf.tells shelf.old (needed p words) (IsFine p words)
  pub bad_words : (status ≡ BadWords) ↔ (p.form words ≡ None)
  pub bad_words_unread : status ≡ BadWords → shelf.reads_new ≡ shelf.reads_old
  pub bad_words_told : status ≡ BadWords → Told p.usage sink
  pub refused_only : status ≡ LoadRefused
      → Sees shelf.tells shelf.old (needed p words) (λ seen. (line : List ℕ) × (expected p words seen ≡ Refuses line) × Told line sink)
  pub refused : IsTrue shelf.tells → (line : List ℕ) → expected p words (seen_in p words shelf.old) ≡ Refuses line
      → ¬ Rose shelf.reads_old shelf.reads_new → (status ≡ LoadRefused) ⊎ (status ≡ Memory)
  pub no_failed_read : IsTrue shelf.tells_failed → PassesReads status → shelf.failed ≡ shelf.failed_old
  pub read_fault_only : status ≡ ReadFault → Rose shelf.reads_old shelf.reads_new
  pub read_fault_told : status ≡ ReadFault → (path : List ℕ) × IsNeeded p words path
      × (IsTrue shelf.tells_failed → path ≡ shelf.failed) × Told (read_failed path) sink
  pub no_read_fault : (job : Job) → p.form words ≡ Some job → p.needed job ≡ [] → status ≢ ReadFault
  pub write_fault : status ≡ WriteFault → Sees shelf.tells shelf.old (needed p words) (λ seen. EndsAs p words seen (λ ending.
      IsWriteStopped p words ending shelf sink ⊎ IsUntold ending shelf sink))
  pub memory_told : status ≡ Memory → Told out_of_memory sink
  pub unchanged : IsTrue shelf.tells → WritesNothing status → SameContents shelf.old shelf.new
  pub no_write_fault : WritesNothing status → shelf.writes_new ≡ shelf.writes_old
