use Rattle.std.proofs.Common.{IsSome, sym, subst, ◌∙◌}
use Rattle.bench_editors.proofs.KeyLemmas.{found_by, updated}
use Rattle.bench_editors.proofs.row_revisions.RowRevisions.put.Goals as goal

pub returns-in-Some : goal.returns-in-Some
returns-in-Some c =
    let some = subst IsSome (sym (found_by c.args.key.now c.args.self.now.last)) c.requires in
    updated c.args.key.now c.args.self.now.last (c.get_mut.follows.lender c.args.revision) c.args.revision ((c.get_mut.follows.holds c.args.revision).3 some)

-- the key has an entry
pub returns-in_default : goal.returns-in_default
returns-in_default c =
    λ parts. absurd (let none = subst IsSome (sym (c.in_default.ensures.value ∙ found_by c.args.key.now c.args.self.now.last)) c.requires in cc)
