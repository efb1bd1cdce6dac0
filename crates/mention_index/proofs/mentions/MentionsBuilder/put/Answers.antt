use Rattle.std.proofs.Common.{◌≡◌, ℕ, Bool, [], ◌∷◌, ap, ◌∙◌, subst}
use Rattle.number_sets.specs.Keys.{is_in as has_key}
use Rattle.ucd_facts.specs.Facts.{Facts}
use Rattle.ucd_facts.specs.Shown.{shown_facts}
use Rattle.mention_index.specs.Reached.{members_of}
use Rattle.mention_index.specs.Steps.{LeadFrom, key}
use Rattle.mention_index.proofs.mentions.MentionsBuilder.put.Goals as goal

-- the members of the mappings of the facts that are shown
over : (has : ℕ → Bool) (c : ℕ) (G H : Facts) → G ≡ H → LeadFrom has (members_of c G) c → LeadFrom has (members_of c H) c
over has c G H same lead = subst (λ (facts : Facts). LeadFrom has (members_of c facts) c) same lead

pub returns-in_ok-put_first_member_step-clause-put : goal.returns-in_ok-put_first_member_step-clause-put
returns-in_ok-put_first_member_step-clause-put g c =
    let F : ℕ → Facts = g.W.FactView.facts_of c.args.view.now in
    let has : ℕ → Bool = has_key c.put_first_member_step.new.keys.items in
    record {
      members = λ x e ne. c.put_first_member_step.ensures.grows (key x c.args.c) (over (has_key c.put_members.new.keys.items) c.args.c (shown_facts c.facts-facts.result) (F c.args.c) c.facts-facts.ensures c.in_ok-put_members.ensures.put x e ne);
      first = λ s y composes. c.in_ok-put_first_member_step.ensures.put s (y ∷ []) (ap (λ (facts : Facts). facts.mapping) c.facts-facts.ensures ∙ composes.mapping);
    }
