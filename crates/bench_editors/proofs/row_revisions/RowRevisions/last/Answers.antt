use Rattle.std.proofs.Common.{Option, ℕ, ap, ◌∙◌, unwrap_or}
use Rattle.bench_editors.proofs.KeyLemmas.{found_by}
use Rattle.bench_editors.proofs.row_revisions.RowRevisions.last.Goals as goal

pub returns : goal.returns
returns c = let found = ap (λ (o : Option ℕ). unwrap_or o 0) (c.copied.ensures ∙ c.get.ensures.value ∙ found_by c.args.key.now c.args.self.now.last) in c.unwrap_or.ensures ∙ found
