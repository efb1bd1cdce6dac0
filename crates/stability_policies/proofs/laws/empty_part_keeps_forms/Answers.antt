use Rattle.std.proofs.Common.{refl}
use Rattle.ucd_facts.specs.Facts.{facts}
use Rattle.stability_policies.specs.Reports.{report}
use Rattle.release_rows.specs.Releases.{rows_now}
use Rattle.stability_policies.proofs.CommonProofs.{same_forms}
use Rattle.stability_policies.proofs.laws.empty_part_keeps_forms.Goals as goal

pub returns : goal.returns
returns c = λ old new valid keeps s assigned. same_forms (facts (rows_now old)) (facts (rows_now new)) old new refl refl valid s assigned (report old new) refl keeps
