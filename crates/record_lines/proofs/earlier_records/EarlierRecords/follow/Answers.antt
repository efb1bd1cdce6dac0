use Rattle.std.proofs.Common.{if◌then◌else◌, ap, ◌∙◌}
use Rattle.ucd_model.specs.Records.{Record}
use Rattle.ucd_model.specs.Sameness.{is_in}
use Rattle.record_table.specs.Records.{record_now}
use Rattle.record_lines.proofs.Following.{written_is}
use Rattle.record_lines.proofs.earlier_records.EarlierRecords.follow.Goals as goal

pub returns-clause-ok : goal.returns-clause-ok
returns-clause-ok g c point lt =
    c.sweep.ensures.now point lt ∙ c.commit.ensures.committed point lt ∙ c.in_ok-prepare.ensures.ok point lt
    ∙ written_is c.args.changed.now c.in_ok-records.records.items (g.B.Records.record_of c.args.bench.now) (record_now c.discard.new.self) point c.in_ok-records.ensures
    ∙ ap (λ (r : Record). if is_in c.args.changed.now point then g.B.Records.record_of c.args.bench.now point else r) (c.discard.ensures.now point lt)
