use Rattle.std.proofs.Common.{arith}
use Rattle.release_rows.proofs.LeadingFiles.{leads_file}
use Rattle.release_rows.proofs.patch.way_back.Goals as goal

-- the patch leads on over one more file
pub files-preserved : goal.files-preserved
files-preserved c = record {
  within = omega (arith, c.files-test.true);
  leads = leads_file c.args.files.now c.files.patch c.put_way_back.new.patch c.files.at c.index-files-at.result c.requires c.files-test.true c.files.invariant.leads c.in_ok-put_way_back.ensures;
}
