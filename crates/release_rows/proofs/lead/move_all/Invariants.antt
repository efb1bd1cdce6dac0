use Rattle.std.proofs.Common.{◌≡◌, ℕ, ◌-◌, ◌<◌, ◌≤◌, List, length, get_or, Some}
use Rattle.release_rows.specs.FileItems.{FileItem, Row}
use Rattle.release_rows.specs.Leads.{AreLeads, IsLead}
use Rattle.release_rows.specs.Operations.{put_in}
use Rattle.release_rows.specs.Searches.{IsSoughtRow}
use Rattle.release_rows.specs.declared.lead.Lead.{Lead}
use Rattle.release_rows.proofs.lead.move_all.Given as goal

-- the leads so far are moved, those that are left are as they were
abbrev pub invariant-leads : goal.invariant-leads
invariant-leads l = record {
  within : l.at ≤ length l.leads.items;
  long : length l.leads.items ≡ length l.fn.leads.items;
  left : (k : ℕ) (d : Lead) → l.at ≤ k → get_or l.leads.items k d ≡ get_or l.fn.leads.items k d;
  moved : (row : Row) (items : List FileItem) (added : FileItem) → IsSoughtRow l.search.file row l.search.text l.search → added.row ≡ Some row → l.count ≤ length items → AreLeads l.search.file l.search.text items l.fn.leads.items → (k : ℕ) (d : Lead) → k < l.at → IsLead l.search.file l.search.text (put_in items l.count added) (get_or l.leads.items k d);
}

abbrev pub decreases-leads : goal.decreases-leads
decreases-leads l = length l.leads.items - l.at
