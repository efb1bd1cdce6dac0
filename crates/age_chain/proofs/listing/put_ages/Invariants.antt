use Rattle.std.proofs.Common.{◌≡◌, ◌++◌, codes}
use Rattle.range_table.specs.RunTable.{values_now}
use Rattle.ucd_points.specs.Limits.{point_count}
use Rattle.label_runs.specs.Sections.{section_head, IsWritten}
use Rattle.age_chain.specs.Ages.{age_label, ages_of}
use Rattle.age_chain.proofs.listing.put_ages.Given as goal

-- the section as far as the ages were passed
abbrev pub invariant-runs : goal.invariant-runs
invariant-runs l = record {
  same : l.span-iterator.last_of ≡ l.initial.span-iterator.last_of;
  end : l.section.end ≡ l.span-iterator.from;
  written : IsWritten point_count (λ c. age_label (ages_of (values_now l.ages) c)) (l.fn.text ++ section_head (codes "Age")) l.section l.text;
}
