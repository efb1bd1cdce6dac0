use Rattle.std.proofs.Common.{ℕ, List, sym, ap, ◌∙◌, subst}
use Rattle.ucd_model.specs.Sameness.{is_in}
use Rattle.mention_index.specs.Reached.{about}
use Rattle.mention_index.specs.Mentions.{leads}
use Rattle.mention_index.specs.Steps.{Leads}
use Rattle.mention_index.proofs.AboutLemmas.{about_asked, asked_about}
use Rattle.mention_index.proofs.mentions.Mentions.reach.Goals as goal

pub returns-clause-about : goal.returns-clause-about
returns-clause-about c = λ q e.
    c.in_ok-points.ensures.pending (about q) (ap (λ (xs : List ℕ). is_in xs (about q)) c.in_ok-pending.ensures ∙ asked_about c.args.queries.now q e)

pub returns-clause-only : goal.returns-clause-only
returns-clause-only c = λ k e.
    let one = c.in_ok-points.ensures.only k e in
    let from = one.1 in
    let found = about_asked c.args.queries.now from.0 (ap (λ (xs : List ℕ). is_in xs from.0) (sym c.in_ok-pending.ensures) ∙ from.1) in
    (one.0, (found.0, found.1, subst (Leads (leads c.args.self.now) k) (sym found.2) from.2))
