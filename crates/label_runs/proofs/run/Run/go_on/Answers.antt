use Rattle.std.proofs.Common.{◌≡◌, ◌∙◌, ◌<◌, ℕ, sym, ap, append_assoc, arith, false}
use Rattle.ucd_model.specs.Labels.{Label, same_label}
use Rattle.label_runs.specs.Runs.{IsStretch}
use Rattle.label_runs.proofs.RunLemmas.{open_ends}
use Rattle.label_runs.proofs.run.Run.go_on.Goals as goal

-- the label of the next number is another one
next_is_other : (n : ℕ) (f : ℕ → Label) (mid end : ℕ) (a b : Label) → IsStretch n f mid end b → same_label a b ≡ false → mid < n → same_label a (f mid) ≡ false
next_is_other n f mid end a b next other lt = let some = next.some in ap (same_label a) (next.alike mid (omega arith) some) ∙ other

pub returns-clause-lines : goal.returns-clause-lines
returns-clause-lines c = λ n f run next front lines.
    let other : same_label c.args.self.now.label c.args.label.now ≡ false = sym c.is_same.ensures ∙ c.if-is_same.false in
    let ends = open_ends n f c.args.self.now.first c.args.self.now.end c.args.self.now.label run (next_is_other n f c.args.self.now.end c.args.end c.args.self.now.label c.args.label.now next other) in
    rw (c.in_ok-count.ensures.line, lines, c.restart.ensures, ends.0) (append_assoc front _ _)

pub returns-clause-total : goal.returns-clause-total
returns-clause-total c = λ n f run next.
    let other : same_label c.args.self.now.label c.args.label.now ≡ false = sym c.is_same.ensures ∙ c.if-is_same.false in
    let ends = open_ends n f c.args.self.now.first c.args.self.now.end c.args.self.now.label run (next_is_other n f c.args.self.now.end c.args.end c.args.self.now.label c.args.label.now next other) in
    rw (c.restart.ensures, c.in_ok-count.ensures.length) ends.1
