use Rattle.std.proofs.Common.{is_ok}
use Rattle.release_rows.specs.Leads.{IsLead}
use Rattle.release_rows.proofs.Leads.{leads_with}
use Rattle.release_rows.proofs.lead.put_lead.Goals as goal

pub returns : goal.returns
returns c file text items one all =
    rw c.insert.ensures.items (leads_with (IsLead file text items) c.args.leads.now.items c.lead_place-place.result c.args.lead (is_ok c.insert.result) all one)
