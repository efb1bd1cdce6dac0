use Rattle.release_rows.proofs.noted.note_hashes.Goals as goal

pub returns-then-not-are_unknown-clause-noted : goal.returns-then-not-are_unknown-clause-noted
returns-then-not-are_unknown-clause-noted c row is code =
    let law = c.contents_have_keys.ensures c.args.file c.args.content.now row is in
    record {
      group = c.put-then-not-are_unknown.ensures.grows _ (rw (law.group, ← c.content_section.ensures, ← c.group_hash.ensures) c.put.ensures.put);
      key = rw (← code, law.names, ← c.content_hash.ensures) c.put-then-not-are_unknown.ensures.put;
    }
