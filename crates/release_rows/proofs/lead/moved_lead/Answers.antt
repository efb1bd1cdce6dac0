use Rattle.std.proofs.Common.{refl, sym, ◌∙◌, arith}
use Rattle.release_rows.proofs.Leads.{lead_grown, lead_stays, lead_trimmed}
use Rattle.release_rows.proofs.lead.moved_lead.Goals as goal

pub returns-then-lead-count : goal.returns-then-lead-count
returns-then-lead-count c row items added is some within lead =
    lead_stays c.args.search.now.file c.args.search.now.text items added c.args.count c.args.lead lead c.if-lead-count.true within

pub returns-then-is_in_group_below : goal.returns-then-is_in_group_below
returns-then-is_in_group_below c row items added is some within lead =
    let behind = c.if-lead-count.false in
    lead_trimmed c.args.search.now.file c.args.search.now.text items added c.args.count c.args.lead _ lead (omega arith) within refl refl refl

pub returns-in-Some : goal.returns-in-Some
returns-in-Some c row items added is some within lead =
    let behind = c.if-lead-count.false in
    let more = c.in-Some.ensures in
    lead_grown c.args.search.now row items added c.args.count c.args.lead _ c.contents_have_keys.ensures is some lead (omega arith) within (sym c.is_in_group_below.ensures ∙ c.if-is_in_group_below.false) refl refl (omega arith)

pub returns-in-None : goal.returns-in-None
returns-in-None c row items added is some within lead =
    let behind = c.if-lead-count.false in
    lead_trimmed c.args.search.now.file c.args.search.now.text items added c.args.count c.args.lead _ lead (omega arith) within refl refl refl
