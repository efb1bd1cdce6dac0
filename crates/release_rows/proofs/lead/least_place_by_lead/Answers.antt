use Rattle.release_rows.proofs.Leads.{lead_passes}
use Rattle.release_rows.proofs.lead.least_place_by_lead.Goals as goal

pub returns-then-is_in_group_up_to : goal.returns-then-is_in_group_up_to
returns-then-is_in_group_up_to c row items is lead =
    lead_passes c.args.search.now row items c.args.lead c.contents_have_keys.ensures is lead (c.is_in_group_up_to.ensures.group c.if-is_in_group_up_to.true) (c.is_in_group_up_to.ensures.order c.if-is_in_group_up_to.true)
