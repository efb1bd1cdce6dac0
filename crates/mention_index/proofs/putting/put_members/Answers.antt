use Rattle.std.proofs.Common.{ℕ, Bool, ◌++◌}
use Rattle.number_sets.specs.Keys.{is_in as has_key}
use Rattle.ucd_facts.specs.Facts.{Facts}
use Rattle.ucd_facts.specs.Shown.{shown_facts}
use Rattle.mention_index.specs.Steps.{image_members, simple_members}
use Rattle.mention_index.proofs.StepLemmas.{lead_both, lead_grows}
use Rattle.mention_index.proofs.putting.put_members.Goals as goal

pub returns-clause-put : goal.returns-clause-put
returns-clause-put c =
    let point = c.args.c in
    let G : Facts = shown_facts c.args.facts.now in
    let has : ℕ → Bool = has_key c.put_images.new.keys.items in
    lead_both has G.mapping (simple_members G ++ image_members point G) point
    (lead_grows (has_key c.put_steps.new.keys.items) has G.mapping point (λ k e. c.put_images.ensures.grows k (c.put_simple.ensures.grows k e)) c.in_ok-put_steps.ensures.put)
    (lead_both has (simple_members G) (image_members point G) point
    (lead_grows (has_key c.put_simple.new.keys.items) has (simple_members G) point c.put_images.ensures.grows c.in_ok-put_simple.ensures.put)
    c.in_ok-put_images.ensures.put)
