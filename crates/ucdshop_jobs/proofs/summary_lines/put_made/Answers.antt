use Rattle.std.proofs.Common.{◌≡◌, ℕ, List, ◌++◌, codes, ap, ◌∙◌, append_assoc, decimal}
use Rattle.ucdshop_jobs.specs.Printed.{made_release}
use Rattle.ucdshop_jobs.proofs.summary_lines.put_made.Goals as goal

-- what was put, piece by piece
pieces : (text a b c d e : List ℕ) → ((((text ++ a) ++ b) ++ c) ++ d) ++ e ≡ text ++ ((((a ++ b) ++ c) ++ d) ++ e)
pieces text a b c d e =
    ap (λ (t : List ℕ). ((t ++ c) ++ d) ++ e) (append_assoc text a b)
    ∙ ap (λ (t : List ℕ). (t ++ d) ++ e) (append_assoc text (a ++ b) c)
    ∙ ap (λ (t : List ℕ). t ++ e) (append_assoc text ((a ++ b) ++ c) d)
    ∙ append_assoc text (((a ++ b) ++ c) ++ d) e

pub returns : goal.returns
unfolding made_release
returns c =
    c.in_ok-put_count-2.ensures
    ∙ ap (λ (t : List ℕ). (t ++ decimal c.args.rows) ++ codes " rows, ") (c.in_ok-put_count.ensures ∙ ap (λ (t : List ℕ). (t ++ decimal c.args.number) ++ codes ": ") c.in_ok-append.ensures.ok)
    ∙ pieces c.args.text.now (codes "ucdshop: make ") (decimal c.args.number) (codes ": ") (decimal c.args.rows) (codes " rows, ")
