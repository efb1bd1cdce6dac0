use Rattle.release_rows.proofs.KeyTexts.{missing_text}
use Rattle.release_rows.proofs.row_key.missing_names_text.Goals as goal

-- src/row_key.rt: the mark and a `;`, and the digits behind it
pub returns : goal.returns
returns c = rw (c.in_ok-extend_from_slice.ensures.items, c.in_ok-text.ensures.items, c.as_slice.ensures, c.in_ok-put_hex.ensures.ok, c.new-digits.ensures) (missing_text c.args.last)
