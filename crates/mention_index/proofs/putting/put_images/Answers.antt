use Rattle.std.proofs.Common.{ℕ, Bool, List, [], ◌++◌}
use Rattle.number_sets.specs.Keys.{is_in as has_key}
use Rattle.ucd_facts.specs.Facts.{image_points}
use Rattle.ucd_facts.specs.Shown.{image_shown}
use Rattle.mention_index.proofs.StepLemmas.{lead_both, lead_grows, lead_none}
use Rattle.mention_index.proofs.putting.put_images.Goals as goal

pub returns-clause-put : goal.returns-clause-put
returns-clause-put c =
    let point = c.args.c in
    let upper : List ℕ = image_points point (image_shown c.args.facts.now.upper) in
    let lower : List ℕ = image_points point (image_shown c.args.facts.now.lower) in
    let title : List ℕ = image_points point (image_shown c.args.facts.now.title) in
    let fold : List ℕ = image_points point (image_shown c.args.facts.now.fold) in
    let has : ℕ → Bool = has_key c.put_image-4.new.keys.items in
    lead_both has upper (lower ++ (title ++ (fold ++ []))) point
    (lead_grows (has_key c.put_image.new.keys.items) has upper point (λ k e. c.put_image-4.ensures.grows k (c.put_image-3.ensures.grows k (c.put_image-2.ensures.grows k e))) c.in_ok-put_image.ensures.put)
    (lead_both has lower (title ++ (fold ++ [])) point
    (lead_grows (has_key c.put_image-2.new.keys.items) has lower point (λ k e. c.put_image-4.ensures.grows k (c.put_image-3.ensures.grows k e)) c.in_ok-put_image-2.ensures.put)
    (lead_both has title (fold ++ []) point
    (lead_grows (has_key c.put_image-3.new.keys.items) has title point c.put_image-4.ensures.grows c.in_ok-put_image-3.ensures.put)
    (lead_both has fold [] point c.in_ok-put_image-4.ensures.put (lead_none has point))))
