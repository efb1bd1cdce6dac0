use Rattle.std.proofs.Common.{arith}
use Rattle.release_rows.specs.Releases.{committed}
use Rattle.release_rows.proofs.FilesEdited.{more_done}
use Rattle.release_rows.proofs.nine_files.commit_all.Goals as goal

-- one more file is done
pub files-preserved : goal.files-preserved
files-preserved c =
    let test = c.files-test.true in
    record {
      within = omega arith;
      so_far = more_done committed c.args.files.now c.files.files c.files.at c.index-files-at.result _ c.told-files c.files.invariant.so_far (omega arith) c.commit.ensures;
    }
