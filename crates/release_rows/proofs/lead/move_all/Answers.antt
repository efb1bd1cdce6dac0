use Rattle.std.proofs.Common.{◌<◌, length, sym, subst, ◌∙◌, arith, get_or-set_other, length-set}
use Rattle.release_rows.specs.Leads.{IsLead}
use Rattle.release_rows.specs.Operations.{put_in}
use Rattle.release_rows.proofs.Leads.{moved_more}
use Rattle.release_rows.proofs.lead.move_all.Goals as goal

pub leads-preserved : goal.leads-preserved
leads-preserved c =
    let s = c.args.search.now in
    let at = c.leads.at in
    let xs = c.leads.leads.items in
    let new = c.moved_lead.result in
    let size = c.len.ensures in
    let test = c.leads-test.true in
    let lt : at < length xs = omega arith in
    let long = length-set xs at new in
    let same = c.leads.invariant.long in
    record {
      within = omega arith;
      long = long ∙ same;
      left = λ k d le. get_or-set_other xs at k new d (omega arith) ∙ c.leads.invariant.left k d (omega arith);
      moved = λ row items added is some within all k d less.
          moved_more (IsLead s.file s.text (put_in items c.args.count added)) xs at k new d lt (omega arith)
          (c.leads.invariant.moved row items added is some within all k d)
          (c.moved_lead.ensures row items added is some within (subst (IsLead s.file s.text items) (sym (c.index.ensures ∙ c.leads.invariant.left at c.index.result.now (omega arith))) (all at c.index.result.now (omega arith))));
    }
