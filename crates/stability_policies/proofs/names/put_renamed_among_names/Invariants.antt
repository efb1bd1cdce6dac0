use Rattle.std.proofs.Common.{◌≡◌, ◌-◌, ◌≤◌, ◌++◌, filter, map}
use Rattle.std.specs.List.{range_with_len}
use Rattle.stability_policies.specs.NamedRows.{IsRest, name_at}
use Rattle.stability_policies.specs.Policies.{differ}
use Rattle.stability_policies.specs.declared.breaks.Break.TheVariants.{At}
use Rattle.stability_policies.specs.declared.policy.Policy.TheVariants.{P02}
use Rattle.stability_policies.proofs.names.put_renamed_among_names.Given as goal

-- the breaks by the code points so far, and the rows that are left
abbrev pub invariant-stretches : goal.invariant-stretches
invariant-stretches l = record {
  so_far : l.into ≡ l.initial.into ++ map (At P02) (filter (λ c. differ (name_at l.fn.before c) (name_at l.fn.after c)) (range_with_len 0 l.number));
  old : IsRest l.fn.before l.number l.olds;
  new : IsRest l.fn.after l.number l.news;
  within : l.number ≤ 1114112;
}

abbrev pub decreases-stretches : goal.decreases-stretches
decreases-stretches l = 1114112 - l.number
