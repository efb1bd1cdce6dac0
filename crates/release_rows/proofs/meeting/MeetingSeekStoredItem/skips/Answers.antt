use Rattle.std.proofs.Common.{sym, ◌∙◌}
use Rattle.std.proofs.lemmas.Bool.{not-true}
use Rattle.release_rows.proofs.MeetingEntries.{misses_all}
use Rattle.release_rows.proofs.meeting.MeetingSeekStoredItem.skips.Goals as goal

-- an entry within the bounds is no wider than they are
pub returns : goal.returns
returns c skipped entry within =
    misses_all entry.code entry.last c.args.reach.least c.args.reach.most c.args.self.now.spans.now within.least within.last (sym c.meets.ensures ∙ not-true c.meets.result skipped)
