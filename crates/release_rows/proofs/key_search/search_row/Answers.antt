use Rattle.std.proofs.Common.{refl, sym, ap, ◌∙◌}
use Rattle.source_rows.specs.Keys.{code_number}
use Rattle.source_rows.specs.declared.key.Key.{Key}
use Rattle.release_rows.proofs.Seeking.{code_is}
use Rattle.release_rows.proofs.Tagging.{tag_of}
use Rattle.release_rows.proofs.key_search.search_row.Goals as goal

pub returns : goal.returns
returns c =
    let law = c.contents_have_keys.ensures c.args.file c.args.bytes.now c.args.row.now c.requires.reads in
    record {
      file_is = refl;
      text_is = refl;
      code = c.code_or_zero.ensures ∙ ap (λ (k : Key). code_number k.code) c.requires.key ∙ code_is c.args.row.now;
      last = c.unshared_end.ensures.end;
      names = c.as_slice.ensures ∙ ap (λ (k : Key). k.names) c.requires.key;
      group = c.content_section.ensures ∙ sym law.group;
      tag = rw (c.content_tag.ensures, law.names, law.group) (tag_of c.args.file c.args.bytes.now);
      missing = c.is_missing_line.ensures;
    }
