use Rattle.release_rows.proofs.file_text.FileText.put_way_back.Goals as goal

pub returns : goal.returns
returns c = rw (← c.self.view_is, ← c.as_slice.ensures) c.put_way_back.ensures
