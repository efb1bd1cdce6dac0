-- Leads: rows with counts of items among which no row of their group has a greater key.
-- NoneFollows file row items   none of the items has a row that follows this one
-- GivesRow file text item row   the item lies within the text, and its content reads as the row
-- IsLead file text items lead   the lead's item gives a row of its code point, which none of its count of items follows
-- AreLeads file text items leads   so it is of each lead
-- KeepLeads file text items leads   so it is of each lead that is kept
use Rattle.std.specs.Prelude.{◌≡◌, ℕ, ◌+◌, ◌≤◌, false, List, length, take, Ok, All, IfSome}
use Rattle.source_rows.specs.Faults.{row_or_fault}
use Rattle.source_rows.specs.Keys.{row_span}
use Rattle.release_rows.specs.FileItems.{FileItem, SourceFile, Row}
use Rattle.release_rows.specs.Operations.{follows, row_passes}
use Rattle.release_rows.specs.StoredItems.{content_at}
use Rattle.release_rows.specs.declared.lead.Lead.{Lead}
use Rattle.release_rows.specs.declared.lead.Leads.{Leads}
use Rattle.release_rows.specs.declared.stored_item.StoredItem.{StoredItem}

abbrev pub NoneFollows : SourceFile → Row → List FileItem → Type 0
NoneFollows file row items = All (λ item. row_passes (follows file row) item ≡ false) items

pub record GivesRow (file : SourceFile) (text : List ℕ) (item : StoredItem) (row : Row) : Type 0 where
  pub fits : item.start + item.len ≤ length text
  pub reads : row_or_fault file (content_at text item) ≡ Ok row

pub record IsLead (file : SourceFile) (text : List ℕ) (items : List FileItem) (lead : Lead) : Type 0 where
  pub row : Row
  pub gives : GivesRow file text lead.item row
  pub code : lead.code ≡ (row_span row).lo
  pub none : NoneFollows file row (take lead.count items)

abbrev pub AreLeads : SourceFile → List ℕ → List FileItem → List Lead → Type 0
AreLeads file text items leads = All (IsLead file text items) leads

abbrev pub KeepLeads : SourceFile → List ℕ → List FileItem → Leads → Type 0
KeepLeads file text items leads = IfSome leads.list (λ list. AreLeads file text items list.items)
