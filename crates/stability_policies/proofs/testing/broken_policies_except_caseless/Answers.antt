use Rattle.std.proofs.Common.{◌≡◌, ◌∙◌, ℕ, length, get_or, ap, arith}
use Rattle.ucd_facts.specs.Facts.{Facts}
use Rattle.ucd_model.specs.Records.{Record}
use Rattle.ucd_facts.specs.Sets.{has_core}
use Rattle.ucd_facts.specs.Shown.{shown_facts}
use Rattle.stability_policies.specs.Policies.{breaks, policies}
use Rattle.stability_policies.specs.PolicyLists.{place_below}
use Rattle.stability_policies.specs.declared.policy.Policy.TheVariants.{P01}
use Rattle.stability_policies.proofs.KeptLemmas.{core_told, told}
use Rattle.stability_policies.proofs.PolicySets.{policies_next}
use Rattle.stability_policies.proofs.testing.broken_policies_except_caseless.Goals as goal

pub is_broken-requires-clause-old_core : goal.is_broken-requires-clause-old_core
is_broken-requires-clause-old_core g c core = ap (λ (R : Record). R.core core) c.record.ensures ∙ ap (λ (R : ℕ → Record). (R c.args.c).core core) c.requires.old

pub is_broken-requires-clause-new_core : goal.is_broken-requires-clause-new_core
is_broken-requires-clause-new_core g c core = ap (λ (R : Record). R.core core) c.record-2.ensures ∙ ap (λ (R : ℕ → Record). (R c.args.c).core core) c.requires.new

pub policies-preserved : goal.policies-preserved
policies-preserved g c =
    let whole : length c.all-policy-items.result.now ≡ length policies = ap length c.all-policy-items.ensures in
    policies_next (λ policy. breaks policy (g.O.FactView.facts_of c.args.old.now) (g.N.FactView.facts_of c.args.new.now) c.args.c) c.policies.policies c.with-policies.result c.policies.policy-index
    (get_or c.all-policy-items.result.now c.policies.policy-index P01) c.in_ok-broken.broken (omega arith) (ap (λ items. get_or items c.policies.policy-index P01) c.all-policy-items.ensures)
    c.in_ok-broken.ensures c.with-policies.ensures.put c.with-policies.ensures.rest c.policies.invariant

pub returns : goal.returns
returns g c policy other =
    let whole : length c.all-policy-items.result.now ≡ length policies = ap length c.all-policy-items.ensures in
    c.policies.invariant policy (omega (arith, place_below policy)) other

pub returns-then-is_kept_and_unmapped : goal.returns-then-is_kept_and_unmapped
returns-then-is_kept_and_unmapped g c =
    let O : ℕ → Facts = g.O.FactView.facts_of c.args.old.now in
    let N : ℕ → Facts = g.N.FactView.facts_of c.args.new.now in
    told O N c.args.c (shown_facts c.args.a.now) (shown_facts c.args.b.now) (has_core c.record.result.now.core) (has_core c.record-2.result.now.core)
    c.requires.old_facts c.requires.new_facts
    (core_told c.record.result.now (g.O.Records.record_of c.args.old.now) O c.args.c c.record.ensures c.requires.old)
    (core_told c.record-2.result.now (g.N.Records.record_of c.args.new.now) N c.args.c c.record-2.ensures c.requires.new)
    (c.is_kept_and_unmapped.ensures.0 c.if-is_kept_and_unmapped.true) c.policies_broken_if_kept.result c.policies_broken_if_kept.ensures.mark c.policies_broken_if_kept.ensures.rest
