use Rattle.std.proofs.Common.{◌≡◌, ℕ, [], ◌∷◌, ◌++◌, List, sym, ap, ◌∙◌}
use Rattle.ucd_facts.specs.Facts.{Facts}
use Rattle.ucd_facts.specs.declared.query.Query.TheVariants.{Row, Second}
use Rattle.ucd_facts.specs.Answers.{is_asked}
use Rattle.ucd_facts.specs.declared.query.Query.{Query}
use Rattle.point_queries.specs.Derivation.{plain_asked, asked_is, other_asks}
use Rattle.point_queries.proofs.derivation.questions_of.Goals as goal

pub returns-then-is_plain-clause-asked : goal.returns-then-is_plain-clause-asked
returns-then-is_plain-clause-asked g c =
    let F : ℕ → Facts = g.W.FactView.facts_of c.args.view.now in
    let own : c.push-2.new.self.items ≡ Row c.args.c ∷ Second c.args.c ∷ [] = c.in_ok-push-2.ensures.items ∙ ap (λ (qs : List Query). qs ++ Second c.args.c ∷ []) (c.in_ok-push.ensures.items ∙ ap (λ (qs : List Query). qs ++ Row c.args.c ∷ []) c.in_ok-asked.ensures.items) in
    let plain = sym c.is_plain.ensures ∙ c.if-is_plain.true in
    λ q. c.query_set.ensures.same q ∙ ap (λ qs. is_asked qs q) own ∙ plain_asked F c.args.c c.facts-facts.result c.facts-facts.ensures plain q

pub returns-clause-asked : goal.returns-clause-asked
returns-clause-asked g c =
    let F : ℕ → Facts = g.W.FactView.facts_of c.args.view.now in
    let own : c.push-2.new.self.items ≡ Row c.args.c ∷ Second c.args.c ∷ [] = c.in_ok-push-2.ensures.items ∙ ap (λ (qs : List Query). qs ++ Second c.args.c ∷ []) (c.in_ok-push.ensures.items ∙ ap (λ (qs : List Query). qs ++ Row c.args.c ∷ []) c.in_ok-asked.ensures.items) in
    λ q. c.query_set-2.ensures.same q ∙ c.in_ok-put_derivation_asks.ensures q ∙ ap (λ (qs : List Query). is_asked (qs ++ other_asks F c.args.c) q) own ∙ asked_is F c.args.c c.requires q
