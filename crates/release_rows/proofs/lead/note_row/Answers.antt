use Rattle.std.proofs.Common.{◌≡◌, false, refl, ap, ◌∙◌}
use Rattle.source_rows.specs.Keys.{row_span}
use Rattle.release_rows.specs.Searches.{Sought}
use Rattle.release_rows.specs.Keys.{is_missing_in}
use Rattle.release_rows.proofs.Leads.{lead_of}
use Rattle.release_rows.proofs.lead.note_row.Goals as goal

pub returns : goal.returns
returns c row items added is gives some place within all =
    let s = c.args.search.now in
    let code : c.search.inside.code ≡ (row_span row).lo = ap (λ (x : Sought). x.code) c.search.view_is ∙ is.code in
    let plain : is_missing_in s.file row ≡ false = rw c.requires refl in
    c.put_lead.ensures s.file s.text _ (lead_of s.file s.text row items added _ gives code plain place within) (c.move_all.ensures row items added is some within all)
