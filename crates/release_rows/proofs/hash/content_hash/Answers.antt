use Rattle.std.proofs.Common.{[], refl, ◌∙◌}
use Rattle.release_rows.proofs.hash.content_hash.Goals as goal

pub returns-in-PropList : goal.returns-in-PropList
returns-in-PropList c = c.with_name.ensures [] ∙ rw (c.content_section.ensures, c.in-PropList.is) refl
