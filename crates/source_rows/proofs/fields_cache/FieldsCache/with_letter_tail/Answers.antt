use Rattle.std.proofs.Common.{refl}
use Rattle.ucd_points.specs.Fields.{class_of}
use Rattle.source_rows.specs.DataFaults.{decomposition_or_fault, values_or_fault}
use Rattle.source_rows.specs.Tails.{tail_values}
use Rattle.source_rows.proofs.fields_cache.FieldsCache.with_letter_tail.Goals as goal

pub invariant_of-result : goal.invariant_of-result
unfolding tail_values values_or_fault decomposition_or_fault class_of
invariant_of-result c = refl
