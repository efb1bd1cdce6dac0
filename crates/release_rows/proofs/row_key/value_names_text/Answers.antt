use Rattle.std.proofs.Common.{ℕ, List, sym, ap, ◌∙◌}
use Rattle.std.proofs.lemmas.Result.{IfOk-weaker}
use Rattle.source_rows.specs.Keys.{value_names, SourceFile}
use Rattle.release_rows.specs.Places.{names_of}
use Rattle.release_rows.proofs.KeyTexts.{one_name}
use Rattle.release_rows.proofs.row_key.value_names_text.Goals as goal

pub returns-in-PropList : goal.returns-in-PropList
returns-in-PropList c = IfOk-weaker c.from_slice.result _ _ (λ text e. ap (λ (bs : List ℕ). names_of bs) e ∙ one_name c.args.value.now c.requires ∙ sym (ap (λ (f : SourceFile). value_names f c.args.value.now) c.in-PropList.is)) c.from_slice.ensures.items
