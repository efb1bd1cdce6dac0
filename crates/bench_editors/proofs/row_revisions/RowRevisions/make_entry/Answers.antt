use Rattle.std.proofs.Common.{IsSome, sym, subst, ◌∙◌}
use Rattle.bench_editors.proofs.KeyLemmas.{entries_stay, entry_is_zero, entry_there, found_by, is_there}
use Rattle.bench_editors.proofs.row_revisions.RowRevisions.make_entry.Goals as goal

pub returns-in_ok-insert-clause-same : goal.returns-in_ok-insert-clause-same
returns-in_ok-insert-clause-same c =
    entry_is_zero c.args.key c.args.self.now.last c.insert.new.self c.in_ok-insert.ensures.updates (sym c.contains_key.ensures ∙ c.if-not-contains_key.true)

pub returns-in_ok-insert-clause-kept : goal.returns-in_ok-insert-clause-kept
returns-in_ok-insert-clause-kept c = entries_stay c.args.key c.args.self.now.last c.insert.new.self c.in_ok-insert.ensures.updates

pub returns-in_ok-insert-clause-there : goal.returns-in_ok-insert-clause-there
returns-in_ok-insert-clause-there c = entry_there c.args.key c.args.self.now.last c.insert.new.self c.in_ok-insert.ensures.updates

pub returns-else-not-contains_key-clause-there : goal.returns-else-not-contains_key-clause-there
returns-else-not-contains_key-clause-there c =
    subst IsSome (found_by c.args.key c.args.self.now.last) (is_there _ (sym c.contains_key.ensures ∙ c.if-not-contains_key.false))
